-- What a chain of unit steps is, which logs of such steps are accepted, and what it is that they show.
use Rattle.std.specs.Prelude.{◌≡◌, ◌≢◌, ◌<◌, ◌≤◌, ◌-◌, ◌++◌, ◌∷◌, [], ℕ, List, All, Contains, Some, map, length, take, slice_get, slice_index_or}
use Rattle.cnf_core.specs.declared.literal.Lit.{Lit}
use Rattle.cnf_core.specs.Literal.{negation_of}
use Rattle.cnf_core.specs.Valuation.{Entails}
use Rattle.refutation_check.specs.declared.log.Step.{Step}

-- each literal of the clause is false
abbrev pub IsFalsified : (Lit → Type 0) → List Lit → Type 0
IsFalsified IsFalse clause = All IsFalse clause

-- exactly one literal of the clause is not false, and it is not true
pub record IsUnit (IsFalse : Lit → Type 0) (clause : List Lit) (l : Lit) : Type 0 where
  pub member : Contains clause l
  pub not_false : ¬ IsFalse l
  pub not_true : ¬ IsFalse (negation_of l)
  pub others : (other : Lit) → Contains clause other → other ≢ l → IsFalse other

-- the member of this number, from 1, is this clause
abbrev pub Names : List (List Lit) → ℕ → List Lit → Type 0
Names members number clause = (1 ≤ number) × (slice_get members (number - 1) ≡ Some clause)

-- where these literals are false, the hint names a clause with exactly one literal that is not false, and that one is not true
pub record Forces (members : List (List Lit)) (falses : List Lit) (hint : ℕ) (l : Lit) : Type 0 where
  pub clause : List Lit
  pub named : Names members hint clause
  pub unit : IsUnit (Contains falses) clause l

-- where these literals are false, the hint names a clause with all literals false
pub record Refutes (members : List (List Lit)) (falses : List Lit) (hint : ℕ) : Type 0 where
  pub clause : List Lit
  pub named : Names members hint clause
  pub falsified : IsFalsified (Contains falses) clause

-- from the literals that are false first, each hint forces a literal, which is then made true, and in the end the latter are false
abbrev pub Reaches : List (List Lit) → List Lit → List ℕ → List Lit → Type 0
Reaches members falses [] after = after ≡ falses
Reaches members falses (hint ∷ hints) after = (l : Lit) × Forces members falses hint l × Reaches members (falses ++ negation_of l ∷ []) hints after

-- with the literals of the clause assumed false, each hint but the last forces a literal, and the last names a clause with all literals false
pub record IsChain (members : List (List Lit)) (clause : List Lit) (hints : List ℕ) : Type 0 where
  pub before : List ℕ
  pub last : ℕ
  pub after : List Lit
  pub in_order : hints ≡ before ++ last ∷ []
  pub reached : Reaches members clause before after
  pub refuted : Refutes members after last

-- the clauses of a formula, and then those of the steps
abbrev pub members_of : List (List Lit) → List Step → List (List Lit)
members_of clauses steps = clauses ++ map (λ s. s.clause) steps

-- each step is a chain over the formula followed by the earlier steps
abbrev pub IsAccepted : List (List Lit) → List Step → Type 0
IsAccepted clauses steps = (i : ℕ) (d : Step) → i < length steps → IsChain (members_of clauses (take i steps)) (slice_index_or steps i d).clause (slice_index_or steps i d).hints

-- there is a last step, and its clause is empty
abbrev pub EndsEmpty : List Step → Type 0
EndsEmpty steps = (s : Step) × (slice_get steps (length steps - 1) ≡ Some s) × (s.clause ≡ [])

-- the log is accepted, and its last clause is empty
abbrev pub IsRefutation : List (List Lit) → List Step → Type 0
IsRefutation clauses steps = IsAccepted clauses steps × EndsEmpty steps

-- each literal of the first clause stands in the second
abbrev pub Subsumes : List Lit → List Lit → Type 0
Subsumes clause other = All (Contains other) clause

-- the clause contains no clause of these lists, as a set of literals
abbrev pub IsNovel : List (List Lit) → List Lit → Type 0
IsNovel members clause = All (λ other. ¬ Subsumes other clause) members

-- the step at this place of the log, from 0, contains no clause of the formula and of no earlier step
abbrev pub IsNovelAt : List (List Lit) → List Step → ℕ → Type 0
IsNovelAt clauses steps i = (s : Step) → slice_get steps i ≡ Some s → IsNovel (members_of clauses (take i steps)) s.clause

-- the formula entails the clause of each step
abbrev pub EachEntailed : List (List Lit) → List Step → Type 0
EachEntailed clauses steps = All (λ s. Entails clauses s.clause) steps
