-- Clauses one after another in one list of numbers, and where each ends.
use Rattle.std.specs.Prelude.{◌≡◌, ◌≤◌, ℕ, zero, suc, List, [], ◌∷◌, slice_range}
use Rattle.cnf_core.specs.declared.literal.Lit.{Lit}
use Rattle.unit_propagation.specs.Clauses.Codes.{literals_of}

-- the clauses, where the first one starts here: each goes up to its end, and the next one starts there
abbrev pub clauses_from : List ℕ → ℕ → List ℕ → List (List Lit)
clauses_from codes start [] = []
clauses_from codes start (end ∷ ends) = literals_of (slice_range codes start end) ∷ clauses_from codes end ends

-- each end is not below the one before, and the last one is the whole length
abbrev pub EndsAt : ℕ → ℕ → List ℕ → Type 0
EndsAt whole start [] = start ≡ whole
EndsAt whole start (end ∷ ends) = (start ≤ end) × EndsAt whole end ends

-- where the clause of this place, from 0, starts
abbrev pub start_at : ℕ → List ℕ → ℕ → ℕ
start_at start [] n = start
start_at start (end ∷ ends) zero = start
start_at start (end ∷ ends) (suc n) = start_at end ends n
