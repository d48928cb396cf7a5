-- Sessions that are served over a translation, and what can be printed of their replies.
use Rattle.std.specs.Prelude.{◌≤◌, ℕ, List, length, All as Each}
use Rattle.rel_formula.specs.Instance.{AreCells}
use Rattle.translation_rules.specs.Translation.{Translated}
use Rattle.session_rules.specs.States.{EndedAt}
use Rattle.session_rules.specs.Proofs.{Proves}
use Rattle.session_rules.specs.declared.answers.Reply.{Reply}
use Rattle.session_rules.specs.declared.end_proof.ProofKind.TheVariants.{End}
use Rattle.session_state.specs.Store.Stored.{Stored}
use Rattle.session_state.specs.Sessions.Fits.{FitsProblem}
use Rattle.script_text.specs.Replies.{NamesCellsOf, PrintsRightProof}

-- the proof shows over the translation that the floor has ended, and blocks scenarios of the problem's cells
pub record IsEndProof (t : Translated) (x : EndedAt) : Type 0 where
  pub proves : Proves t x.floor End x.proof
  pub blocked : Each (AreCells t.problem) x.proof.blocked

-- the session is one on the translation's problem; it has shown at most so many scenarios; and its proofs are over the
-- translation
pub record IsOn (t : Translated) (shown : ℕ) (kept : Stored) : Type 0 where
  pub fits : FitsProblem t.problem kept
  pub few_shown : length kept.state.shown ≤ shown
  pub proofs : Each (IsEndProof t) kept.state.ended

-- the reply can be printed at this floor: its cells are the problem's, and its proof is one of the floor's end
pub record IsPrintable (t : Translated) (floor : List ℕ) (reply : Reply) : Type 0 where
  pub cells : NamesCellsOf t.problem reply
  pub proof : PrintsRightProof t floor reply
