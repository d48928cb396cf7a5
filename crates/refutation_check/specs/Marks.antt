-- What marks say of literals and clauses: a mark is the value of a variable, or none.
use Rattle.std.specs.Prelude.{◌≡◌, ◌<◌, ℕ, Bool, not, Option, Some, None, List, Contains, All, ◌↔◌, slice_index_or, length}
use Rattle.cnf_core.specs.declared.literal.Lit.{Lit}
use Rattle.refutation_check.specs.declared.marks.Sight.{Sight}
use Rattle.refutation_check.specs.declared.marks.Sight.TheVariants.{Falsified, Unit, Neither}
use Rattle.refutation_check.specs.Chain.{IsFalsified, IsUnit, Refutes, Forces}

-- the marks, for the variables from 0 on, have the literal false
abbrev pub IsFalseIn : List (Option Bool) → Lit → Type 0
IsFalseIn marks l = slice_index_or marks l.var None ≡ Some (not l.positive)

-- the marks have these literals false, and no others
abbrev pub Marks : List (Option Bool) → List Lit → Type 0
Marks marks falses = (l : Lit) → l.var < length marks → IsFalseIn marks l ↔ Contains falses l

-- what a clause is, where these literals are false
abbrev pub IsSeen : (Lit → Type 0) → List Lit → Sight → Type 0
IsSeen IsFalse clause Falsified = IsFalsified IsFalse clause
IsSeen IsFalse clause (Unit l) = IsUnit IsFalse clause l
IsSeen IsFalse clause Neither = (¬ IsFalsified IsFalse clause) × ((l : Lit) → ¬ IsUnit IsFalse clause l)

-- what the clause is that a hint names, where these literals are false
abbrev pub HintIs : List (List Lit) → List Lit → ℕ → Sight → Type 0
HintIs members falses hint Falsified = Refutes members falses hint
HintIs members falses hint (Unit l) = Forces members falses hint l
HintIs members falses hint Neither = (¬ Refutes members falses hint) × ((l : Lit) → ¬ Forces members falses hint l)

-- each variable of the clause has a mark
abbrev pub IsWithin : ℕ → List Lit → Type 0
IsWithin n clause = All (λ l. l.var < n) clause
