use Rattle.std.proofs.Common.{◌≡◌, ◌<◌, ℕ, get_or}
use Rattle.std.specs.List.{Contains}
use Rattle.unit_propagation.specs.Clauses.Codes.{literal_of}
use Rattle.unit_propagation.specs.Assignments.Trail.{falses_of}
use Rattle.unit_propagation.proofs.watched_literals.walk.replacement.Given as goal

abbrev pub invariant-loop-code : goal.invariant-loop-code
invariant-loop-code l = (k : ℕ) → k < l.code-index → (literal_of (get_or l.codes k 0) ≡ literal_of l.other → ⊥) → Contains (falses_of l.now.assigned) (literal_of (get_or l.codes k 0))
