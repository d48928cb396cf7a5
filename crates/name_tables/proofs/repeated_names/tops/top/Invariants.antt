use Rattle.std.proofs.Common.{◌≡◌, suc, ◌-◌}
use Rattle.name_tables.specs.Repeats.Climbing.{top_in}
use Rattle.name_tables.proofs.repeated_names.tops.top.Given as goal

abbrev pub invariant-loop-step : goal.invariant-loop-step
invariant-loop-step l = top_in l.parents.table.items (suc (l.parents.count - l._step)) l.above ≡ top_in l.parents.table.items (suc l.parents.count) l.number
