-- What literals and clauses are. A list of literals stands for the set of them.
use Rattle.std.specs.Prelude.{◌<◌, ◌≤◌, ◌^◌, ◌↔◌, ℕ, not, List, All, AllPairs, Contains}
use Rattle.cnf_core.specs.declared.literal.Lit.{Lit}

-- the literal of the same variable and the other sign
abbrev pub negation_of : Lit → Lit
negation_of l = record { var = l.var; positive = not l.positive }

-- variables are the numbers from 1 to 2,147,483,647
abbrev pub IsVariable : ℕ → Type 0
IsVariable var = (1 ≤ var) × (var < 2 ^ 31)

-- a clause has its literals in the order of their variables, and no variable twice
pub record IsClause (lits : List Lit) : Type 0 where
  pub rising : AllPairs (λ earlier later. earlier.var < later.var) lits
  pub variables : All (λ l. IsVariable l.var) lits

-- some variable stands there with both signs
abbrev pub IsTautology : List Lit → Type 0
IsTautology lits = (l : Lit) × Contains lits l × Contains lits (negation_of l)

-- the same literals stand in both
abbrev pub HasSameLiterals : List Lit → List Lit → Type 0
HasSameLiterals lits others = (l : Lit) → Contains lits l ↔ Contains others l

-- each variable is at most this one
abbrev pub HasVarsUpTo : ℕ → List Lit → Type 0
HasVarsUpTo vars lits = All (λ l. l.var ≤ vars) lits
