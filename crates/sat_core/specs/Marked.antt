-- Marks of clauses: numbers that tell which negative literals they may have.
use Rattle.std.specs.Prelude.{◌≡◌, ◌%◌, ◌^◌, ℕ, List, bit_or, cond, fold, length, map, take}
use Rattle.cnf_core.specs.declared.literal.Lit.{Lit}
use Rattle.refutation_check.specs.declared.log.Step.{Step}

-- the bit of a literal: none where it is positive, else one of 64, by its variable
abbrev pub bit_of : Lit → ℕ
bit_of l = cond l.positive 0 (2 ^ (l.var % 64))

-- a mark with the bits of these literals too
abbrev pub marked : ℕ → List Lit → ℕ
marked mark clause = fold (λ m l. bit_or m (bit_of l)) mark clause

-- the bits of a clause's literals
abbrev pub mark_of : List Lit → ℕ
mark_of clause = marked 0 clause

-- the marks begin with those of the steps
abbrev pub AreMarks : List ℕ → List Step → Type 0
AreMarks marks steps = take (length steps) marks ≡ map (λ s. mark_of s.clause) steps
