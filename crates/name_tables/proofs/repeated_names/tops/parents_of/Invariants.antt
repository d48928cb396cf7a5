use Rattle.std.proofs.Common.{◌≡◌, ℕ, ◌-◌, None, length, drop, slice_index_or}
use Rattle.name_tables.specs.Repeats.Climbing.{parent_in}
use Rattle.name_tables.proofs.repeated_names.tops.parents_of.Given as goal

abbrev pub invariant-loop-place : goal.invariant-loop-place
invariant-loop-place l = (w : ℕ) → slice_index_or l.table.items w None ≡ parent_in (drop (length l.links - l.place) l.links) w
