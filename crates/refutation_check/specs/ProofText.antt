-- Proof texts: lines that say the clauses of a formula, and then the steps of a log.
use Rattle.std.specs.Prelude.{◌≡◌, ◌≢◌, ◌≤◌, ◌==◌, ◌+◌, ◌-◌, ◌*◌, ◌⊎◌, ◌++◌, ◌∷◌, [], ℕ, Bool, true, false, not, List, All, codes, drop, filter, length, map, max, slice_index, if◌then◌else◌}
use Rattle.std.specs.List.{slice_split, AllZip}
use Rattle.std.specs.Str.Lines.{lines}
use Rattle.cnf_core.specs.declared.literal.Lit.{Lit}
use Rattle.cnf_core.specs.Formula.{Formula}
use Rattle.cnf_core.specs.Literal.{IsClause, IsTautology, HasSameLiterals}
use Rattle.refutation_check.specs.declared.log.Step.{Step}
use Rattle.refutation_check.specs.Chain.{members_of}

-- ---- words

-- the words of a line stand between its spaces
abbrev pub words_in : List ℕ → List (List ℕ)
words_in line = filter (λ word. not (length word == 0)) (slice_split (λ b. b == 32) line)

abbrev pub IsDigit : ℕ → Type 0
IsDigit b = (48 ≤ b) × (b ≤ 57)

-- a number from 1: digits, of which the first isn't 0
abbrev pub IsNumber : List ℕ → Type 0
IsNumber [] = ⊥
IsNumber (b ∷ digits) = (49 ≤ b) × (b ≤ 57) × All IsDigit digits

-- a number from 1, or one with `-` before it
abbrev pub IsLiteral : List ℕ → Type 0
IsLiteral [] = ⊥
IsLiteral (b ∷ others) = IsNumber (b ∷ others) ⊎ ((b ≡ 45) × IsNumber others)

-- the number of these digits behind those of another one
abbrev pub number_after : ℕ → List ℕ → ℕ
number_after n [] = n
number_after n (b ∷ digits) = number_after (n * 10 + (b - 48)) digits

abbrev pub number_of : List ℕ → ℕ
number_of word = number_after 0 word

abbrev pub literal_of : List ℕ → Lit
literal_of word = if slice_index word 0 == 45 then record { var = number_of (drop 1 word); positive = false } else record { var = number_of word; positive = true }

-- ---- lines, as their words

-- `c`, literals, `0`
pub record IsClauseLine (words literals : List (List ℕ)) : Type 0 where
  pub spelled : words ≡ codes "c" ∷ literals ++ codes "0" ∷ []
  pub each : All IsLiteral literals

-- `s`, literals, `0`, hints, `0`
pub record IsStepLine (words literals hints : List (List ℕ)) : Type 0 where
  pub spelled : words ≡ codes "s" ∷ literals ++ (codes "0" ∷ hints ++ codes "0" ∷ [])
  pub each_literal : All IsLiteral literals
  pub each_hint : All IsNumber hints

-- no number is above 2,147,483,647
pub record AreSmall (literals hints : List (List ℕ)) : Type 0 where
  pub variables : All (λ word. (literal_of word).var ≤ 2147483647) literals
  pub numbers : All (λ word. number_of word ≤ 2147483647) hints

-- the clause of these literals, in whatever order they stand and how often
pub record IsClauseOf (literals : List (List ℕ)) (clause : List Lit) : Type 0 where
  pub is_clause : IsClause clause
  pub same : HasSameLiterals (map literal_of literals) clause

-- the line says this clause
pub record SaysClause (words : List (List ℕ)) (clause : List Lit) : Type 0 where
  pub literals : List (List ℕ)
  pub line : IsClauseLine words literals
  pub small : AreSmall literals []
  pub said : IsClauseOf literals clause

-- the line says this step
pub record SaysStep (words : List (List ℕ)) (step : Step) : Type 0 where
  pub literals : List (List ℕ)
  pub hints : List (List ℕ)
  pub line : IsStepLine words literals hints
  pub small : AreSmall literals hints
  pub said : IsClauseOf literals step.clause
  pub numbers : step.hints ≡ map number_of hints

-- ---- texts

-- the lines that have words, each as its words
abbrev pub sentences : List (List ℕ) → List (List (List ℕ))
sentences ls = filter (λ words. not (length words == 0)) (map words_in ls)

-- first a line for each clause, and then one for each step
pub record Says (ls : List (List ℕ)) (clauses : List (List Lit)) (steps : List Step) : Type 0 where
  pub clause_lines : List (List (List ℕ))
  pub step_lines : List (List (List ℕ))
  pub in_order : sentences ls ≡ clause_lines ++ step_lines
  pub each_clause : AllZip SaysClause clause_lines clauses
  pub each_step : AllZip SaysStep step_lines steps

-- the largest variable of some literals, or 0
abbrev pub largest_of : List Lit → ℕ
largest_of [] = 0
largest_of (l ∷ lits) = max l.var (largest_of lits)

-- the largest variable of some clauses, or 0
abbrev pub largest_in : List (List Lit) → ℕ
largest_in [] = 0
largest_in (clause ∷ clauses) = max (largest_of clause) (largest_in clauses)

-- the text says this formula and this log, in at most 268,435,456 bytes
pub record IsProofText (bytes : List ℕ) (f : Formula) (log : List Step) : Type 0 where
  pub short : length bytes ≤ 268435456
  pub says : Says (lines bytes) f.clauses log
  pub vars : f.vars ≡ largest_in (members_of f.clauses log)
