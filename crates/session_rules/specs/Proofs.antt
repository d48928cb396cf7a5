-- What a proof of an end proves, and which scenarios it may block.
use Rattle.std.specs.Prelude.{◌≡◌, ◌⊎◌, ℕ, List, ◌++◌, length, All, Contains}
use Rattle.cnf_core.specs.declared.literal.Lit.{Lit}
use Rattle.refutation_check.specs.declared.log.Step.{Step}
use Rattle.refutation_check.specs.Chain.{members_of, IsRefutation}
use Rattle.refutation_check.specs.Lift.{lifted}
use Rattle.refutation_check.specs.SearchLog.{IsNovelButLast}
use Rattle.rel_formula.specs.Bounds.{Bounded}
use Rattle.rel_formula.specs.Instance.{IsMinimalAbove}
use Rattle.rel_formula.specs.Renaming.{IsRenamingBeside}
use Rattle.swap_symmetry.specs.Swaps.{IsSettledBeside}
use Rattle.translation_rules.specs.Translation.{Translated}
use Rattle.translation_rules.specs.Locals.{units_of, locals_of}
use Rattle.session_rules.specs.ProofOfEnd.{ProofOfEnd}
use Rattle.session_rules.specs.declared.end_proof.ProofKind.{ProofKind}
use Rattle.session_rules.specs.declared.end_proof.ProofKind.TheVariants.{End, NoInstance}

-- the imported steps, with room made for the local clauses, and then the log
abbrev pub whole_log : Translated → List (List Lit) → ProofOfEnd → List Step
whole_log t local proof = lifted (length t.cnf.clauses) (length local) proof.pool ++ proof.log

-- the whole log refutes the clauses of the translation with the local ones, and its own steps are novel
pub record RefutesWith (t : Translated) (local : List (List Lit)) (proof : ProofOfEnd) : Type 0 where
  pub imported : proof.imported ≡ length proof.pool
  pub refutation : IsRefutation (t.cnf.clauses ++ local) (whole_log t local proof)
  pub novel : IsNovelButLast (members_of (t.cnf.clauses ++ local) proof.pool) proof.log

-- the local clauses of a proof: at an end those of the floor with all that is blocked, and else the floor's units
abbrev pub locals_for : Translated → List ℕ → ProofKind → List (List ℕ) → List (List Lit)
locals_for t floor End blocked = locals_of t floor blocked
locals_for t floor NoInstance blocked = units_of floor

-- the proof shows that nothing is left to be found at the floor, or that no instance contains it
abbrev pub Proves : Translated → List ℕ → ProofKind → ProofOfEnd → Type 0
Proves t floor kind proof = RefutesWith t (locals_for t floor kind proof.blocked) proof

-- one of the scenarios is a renaming of this one that keeps the floor's atoms
abbrev pub HasRenamingAmong : Bounded → List ℕ → List (List ℕ) → List ℕ → Type 0
HasRenamingAmong p floor scenarios s = (t : List ℕ) × Contains scenarios t × IsRenamingBeside p floor s t

-- a copy of what was shown at the floor: minimal above it, not settled beside it, and renamed among what was shown
pub record IsCopy (p : Bounded) (floor : List ℕ) (shown : List (List ℕ)) (s : List ℕ) : Type 0 where
  pub minimal : IsMinimalAbove p floor s
  pub unsettled : ¬ IsSettledBeside p floor s
  pub renamed : HasRenamingAmong p floor shown s

-- each blocked scenario was shown or is a copy of one that was
abbrev pub IsCovered : Bounded → List ℕ → List (List ℕ) → List (List ℕ) → Type 0
IsCovered p floor shown blocked = All (λ s. Contains shown s ⊎ IsCopy p floor shown s) blocked
