use Rattle.std.proofs.Common.{◌≡◌, ℕ, ◌+◌, ◌-◌, None, length, slice_index_or}
use Rattle.name_tables.proofs.repeated_names.tops.set.Given as goal

abbrev pub invariant-grow : goal.invariant-grow
invariant-grow l = (w : ℕ) → slice_index_or l.table.items w None ≡ slice_index_or l.fn.table.items w None

abbrev pub decreases-grow : goal.decreases-grow
decreases-grow l = l.number + 1 - length l.table.items
