-- What a valuation, a truth value for each variable, makes of literals and clauses, and what follows from clauses.
use Rattle.std.specs.Prelude.{ℕ, ◌-◌, Bool, false, not, List, IsTrue, All, slice_index_or, if◌then◌else◌}
use Rattle.std.specs.List.{list_any}
use Rattle.cnf_core.specs.declared.literal.Lit.{Lit}

-- a positive literal has the value of its variable, and a negative one the other
abbrev pub literal_value : (ℕ → Bool) → Lit → Bool
literal_value v l = if l.positive then v l.var else not (v l.var)

-- a clause is true where one of its literals is
abbrev pub clause_value : (ℕ → Bool) → List Lit → Bool
clause_value v lits = list_any (literal_value v) lits

-- the valuation makes each clause true
abbrev pub Satisfies : (ℕ → Bool) → List (List Lit) → Type 0
Satisfies v clauses = All (λ c. IsTrue (clause_value v c)) clauses

-- each valuation that satisfies the clauses makes this one true
abbrev pub Entails : List (List Lit) → List Lit → Type 0
Entails clauses clause = (v : ℕ → Bool) → Satisfies v clauses → IsTrue (clause_value v clause)

-- the value of a variable, where the values of those from 1 on are listed
abbrev pub value_of : List Bool → ℕ → Bool
value_of values var = slice_index_or values (var - 1) false
