-- What is reached where all consequences are propagated.
use Rattle.std.specs.Prelude.{◌<◌, ◌⊎◌, ℕ, Bool, List, [], Contains, length, slice_index_or}
use Rattle.cnf_core.specs.declared.literal.Lit.{Lit}
use Rattle.refutation_check.specs.Chain.{IsFalsified, IsUnit}
use Rattle.unit_propagation.specs.Propagation.Rule.{IsMarked}

-- no clause but a marked one is falsified, and none but a marked one is a unit with its literal open
abbrev pub IsClosedBut : List (List Lit) → List Lit → List Bool → Type 0
IsClosedBut clauses falses marked = (n : ℕ) → n < length clauses → IsMarked marked n ⊎ ((¬ IsFalsified (Contains falses) (slice_index_or clauses n [])) × ((l : Lit) → ¬ IsUnit (Contains falses) (slice_index_or clauses n []) l))
