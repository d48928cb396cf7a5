-- What it means that a problem is decided.
use Rattle.std.specs.Prelude.{◌≡◌, ℕ, List, []}
use Rattle.refutation_check.specs.Part.{Parted}
use Rattle.rel_formula.specs.Bounds.{Bounded}
use Rattle.rel_formula.specs.Instance.{IsInstance}
use Rattle.swap_symmetry.specs.Due.{IsDue}
use Rattle.translation_rules.specs.Translation.{Translated}
use Rattle.translation_rules.specs.Parts.{LastGoesOn, novel_in}
use Rattle.session_rules.specs.ProofOfEnd.{ProofOfEnd}
use Rattle.session_rules.specs.Proofs.{Proves}
use Rattle.session_rules.specs.declared.end_proof.ProofKind.TheVariants.{End}
use Rattle.session_state.specs.Rounds.Rounds.{IsRoundAt}
use Rattle.session_state.specs.declared.search_rounds.next.Found.{Found}
use Rattle.session_state.specs.declared.search_rounds.next.Found.TheVariants as found
use Rattle.decision_reports.specs.declared.decision.Decision.{Decision}
use Rattle.decision_reports.specs.declared.decision.Decision.TheVariants.{Holds, Fails, Spent}

-- no scenario is an instance of the problem
abbrev pub HasNoInstance : Bounded → Type 0
HasNoInstance p = (s : List ℕ) → ¬ IsInstance p s

-- the problem has no instance, and the proof shows it: it refutes the clauses of the translation with those of its swaps, where
-- nothing was imported and nothing is blocked
pub record IsRefuted (t : Translated) (proof : ProofOfEnd) : Type 0 where
  pub none : HasNoInstance t.problem
  pub proves : Proves t [] End proof
  pub imports : proof.pool ≡ []
  pub blocks : proof.blocked ≡ []

-- the parts are a search for an instance that is settled, and a descent from what it found, their novel steps are all of the
-- budget, and the last part goes on
pub record IsSpent (t : Translated) (budget : ℕ) (parts : List Parted) : Type 0 where
  pub round : IsRoundAt t [] [] [] budget parts
  pub spent : novel_in t [] parts ≡ budget
  pub stopped : LastGoesOn t [] parts

-- there is no instance; or this one is minimal and settled; or the budget is spent
abbrev pub IsDecision : Translated → ℕ → Decision → Type 0
IsDecision t budget (Holds proof) = IsRefuted t proof
IsDecision t budget (Fails scenario) = IsDue t.problem [] scenario
IsDecision t budget (Spent parts) = IsSpent t budget parts

-- what is decided where a session finds this for its first scenario, by these parts
abbrev pub decided_by : List Parted → Found → Decision
decided_by parts (found.Shown scenario) = Fails scenario
decided_by parts (found.Ended proof) = Holds proof
decided_by parts found.Spent = Spent parts
