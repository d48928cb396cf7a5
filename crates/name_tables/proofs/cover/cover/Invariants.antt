use Rattle.std.proofs.Common.{◌≡◌, ◌++◌, ◌+◌, ◌-◌, ℕ, length, replicate}
use Rattle.name_tables.proofs.cover.cover.Given as goal

abbrev pub invariant-loop-empty : goal.invariant-loop-empty
invariant-loop-empty g l = ((n : ℕ) × (l.table.items ≡ l.initial.table.items ++ replicate n l.initial.empty)) × (l.number ≡ l.initial.number)

abbrev pub decreases-loop-empty : goal.decreases-loop-empty
decreases-loop-empty g l = l.number + 1 - length l.table.items
