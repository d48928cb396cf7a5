-- What is read of a proof text, line by line.
use Rattle.std.specs.Prelude.{◌≡◌, ◌≤◌, ◌+◌, ◌⊎◌, ◌++◌, ◌∷◌, [], ℕ, ⊤, List, All, length, max}
use Rattle.cnf_core.specs.declared.literal.Lit.{Lit}
use Rattle.cnf_core.specs.Literal.{IsClause, IsTautology, HasSameLiterals}
use Rattle.refutation_check.specs.declared.log.Step.{Step}
use Rattle.refutation_check.specs.declared.proof_text.fault.ProofFault.{ProofFault}
use Rattle.refutation_check.specs.declared.proof_text.fault.ProofFault.TheVariants.{BadLine, NumberTooLarge, Tautology, TooLong, Memory}
use Rattle.refutation_check.specs.declared.proof_text.reading.Reading.{Reading}
use Rattle.refutation_check.specs.Chain.{members_of}
use Rattle.refutation_check.specs.ProofText.{SaysClause, SaysStep, Says, largest_of, largest_in}
use Rattle.refutation_check.specs.ProofFault.{IsBadLine, IsTooLarge, IsContradictory}

-- the clauses and steps so far, and the largest variable in them
pub record Progress : Type 0 where
  pub clauses : List (List Lit)
  pub log : List Step
  pub vars : ℕ

abbrev pub progress_of : Reading → Progress
progress_of r = record { clauses = r.clauses.items; log = r.log; vars = r.vars }

-- ---- the numbers of a line

-- no number that was read is above 2,147,483,647
abbrev pub AreReadSmall : List Lit → List ℕ → Type 0
AreReadSmall lits numbers = All (λ l. l.var ≤ 2147483647) lits × All (λ n. n ≤ 2147483647) numbers

-- why the literals and hints of a line are none
abbrev pub IsNumberFault : List Lit → List ℕ → ℕ → ProofFault → Type 0
IsNumberFault lits numbers line (NumberTooLarge n) = (n ≡ line) × (AreReadSmall lits numbers → ⊥)
IsNumberFault lits numbers line (Tautology n) = (n ≡ line) × AreReadSmall lits numbers × IsTautology lits
IsNumberFault lits numbers line (BadLine n) = ⊥
IsNumberFault lits numbers line TooLong = ⊥
IsNumberFault lits numbers line Memory = ⊤

-- the clause of literals that were read
pub record IsReadAs (lits : List Lit) (numbers : List ℕ) (clause : List Lit) : Type 0 where
  pub small : AreReadSmall lits numbers
  pub is_clause : IsClause clause
  pub same : HasSameLiterals lits clause

-- a clause more of these literals
pub record AddsClause (lits : List Lit) (old new : Progress) : Type 0 where
  pub first : old.log ≡ []
  pub clause : List Lit
  pub read : IsReadAs lits [] clause
  pub clauses : new.clauses ≡ old.clauses ++ clause ∷ []
  pub log : new.log ≡ old.log
  pub vars : new.vars ≡ max old.vars (largest_of clause)

-- or why there is none
abbrev pub IsClauseFault : List Step → List Lit → ℕ → ProofFault → Type 0
IsClauseFault before lits line (BadLine n) = (n ≡ line) × (before ≡ [] → ⊥)
IsClauseFault before lits line (NumberTooLarge n) = (before ≡ []) × IsNumberFault lits [] line (NumberTooLarge n)
IsClauseFault before lits line (Tautology n) = (before ≡ []) × IsNumberFault lits [] line (Tautology n)
IsClauseFault before lits line TooLong = ⊥
IsClauseFault before lits line Memory = ⊤

-- a step more of these literals and hints
pub record AddsStep (lits : List Lit) (numbers : List ℕ) (old new : Progress) : Type 0 where
  pub step : Step
  pub read : IsReadAs lits numbers step.clause
  pub hints : step.hints ≡ numbers
  pub clauses : new.clauses ≡ old.clauses
  pub log : new.log ≡ old.log ++ step ∷ []
  pub vars : new.vars ≡ max old.vars (largest_of step.clause)

-- ---- lines

pub record SaysOneClause (words : List (List ℕ)) (old new : Progress) : Type 0 where
  pub first : old.log ≡ []
  pub clause : List Lit
  pub says : SaysClause words clause
  pub clauses : new.clauses ≡ old.clauses ++ clause ∷ []
  pub log : new.log ≡ old.log
  pub vars : new.vars ≡ max old.vars (largest_of clause)

pub record SaysOneStep (words : List (List ℕ)) (old new : Progress) : Type 0 where
  pub step : Step
  pub says : SaysStep words step
  pub clauses : new.clauses ≡ old.clauses
  pub log : new.log ≡ old.log ++ step ∷ []
  pub vars : new.vars ≡ max old.vars (largest_of step.clause)

-- the line has no effect, or says a clause or a step more
abbrev pub AddsLine : List (List ℕ) → Progress → Progress → Type 0
AddsLine words old new = ((words ≡ []) × (new ≡ old)) ⊎ SaysOneClause words old new ⊎ SaysOneStep words old new

-- the line has this fault behind these steps
abbrev pub IsLineFault : List Step → List (List ℕ) → ℕ → ProofFault → Type 0
IsLineFault before words line (BadLine n) = (n ≡ line) × IsBadLine before words
IsLineFault before words line (NumberTooLarge n) = (n ≡ line) × IsTooLarge before words
IsLineFault before words line (Tautology n) = (n ≡ line) × IsContradictory before words
IsLineFault before words line TooLong = ⊥
IsLineFault before words line Memory = ⊤

-- ---- texts

-- these lines are read
pub record IsProgress (ls : List (List ℕ)) (p : Progress) : Type 0 where
  pub says : Says ls p.clauses p.log
  pub vars : p.vars ≡ largest_in (members_of p.clauses p.log)
  pub few : length p.clauses + length p.log ≤ length ls
