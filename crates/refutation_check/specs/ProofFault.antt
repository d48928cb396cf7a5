-- Which fault a text has that is no proof text.
use Rattle.std.specs.Prelude.{◌≡◌, ◌≢◌, ◌<◌, ◌≤◌, ◌-◌, ◌⊎◌, [], ℕ, ⊤, List, Some, length, map, slice_get, take}
use Rattle.std.specs.Str.Lines.{lines}
use Rattle.cnf_core.specs.declared.literal.Lit.{Lit}
use Rattle.cnf_core.specs.Literal.{IsTautology}
use Rattle.refutation_check.specs.declared.log.Step.{Step}
use Rattle.refutation_check.specs.declared.proof_text.fault.ProofFault.{ProofFault}
use Rattle.refutation_check.specs.declared.proof_text.fault.ProofFault.TheVariants.{BadLine, NumberTooLarge, Tautology, TooLong, Memory}
use Rattle.refutation_check.specs.ProofText.{words_in, literal_of, IsClauseLine, IsStepLine, AreSmall, Says}

-- a line of a form that may stand behind these steps, with its literals and its hints: that of a clause behind no step
abbrev pub HasForm : List Step → List (List ℕ) → List (List ℕ) → List (List ℕ) → Type 0
HasForm before words literals hints = (IsClauseLine words literals × (hints ≡ []) × (before ≡ [])) ⊎ IsStepLine words literals hints

-- it has words, and no form that may stand there
abbrev pub IsBadLine : List Step → List (List ℕ) → Type 0
IsBadLine before words = (words ≢ []) × ((literals hints : List (List ℕ)) → HasForm before words literals hints → ⊥)

-- it has such a form, and some number is above 2,147,483,647
abbrev pub IsTooLarge : List Step → List (List ℕ) → Type 0
IsTooLarge before words = (literals : List (List ℕ)) × (hints : List (List ℕ)) × HasForm before words literals hints × (AreSmall literals hints → ⊥)

-- it has such a form, no number is too large, and a variable stands there with both signs
abbrev pub IsContradictory : List Step → List (List ℕ) → Type 0
IsContradictory before words =
    (literals : List (List ℕ)) × (hints : List (List ℕ)) × HasForm before words literals hints × AreSmall literals hints × IsTautology (map literal_of literals)

-- the line of this number, from 1, has a fault, and those before it say clauses and steps
pub record IsFirst (ls : List (List ℕ)) (number : ℕ) (HasFault : List Step → List (List ℕ) → Type 0) : Type 0 where
  pub from_one : 1 ≤ number
  pub line : List ℕ
  pub there : slice_get ls (number - 1) ≡ Some line
  pub clauses : List (List Lit)
  pub before : List Step
  pub says : Says (take (number - 1) ls) clauses before
  pub fault : HasFault before (words_in line)

-- the text has this fault; want of memory may be answered for any text
abbrev pub HasFault : List ℕ → ProofFault → Type 0
HasFault bytes TooLong = 268435456 < length bytes
HasFault bytes (BadLine line) = (length bytes ≤ 268435456) × IsFirst (lines bytes) line IsBadLine
HasFault bytes (NumberTooLarge line) = (length bytes ≤ 268435456) × IsFirst (lines bytes) line IsTooLarge
HasFault bytes (Tautology line) = (length bytes ≤ 268435456) × IsFirst (lines bytes) line IsContradictory
HasFault bytes Memory = ⊤
