-- What stands behind a reply that rests on a search.
use Rattle.std.specs.Prelude.{◌≡◌, ℕ, List, [], IsTrue}
use Rattle.refutation_check.specs.declared.log.Step.{Step as LogStep}
use Rattle.translation_rules.specs.Translation.{Translated}
use Rattle.session_words.specs.declared.steps.Step.{Step}
use Rattle.session_words.specs.declared.steps.Step.TheVariants.{Next, Augment}
use Rattle.session_rules.specs.ProofOfEnd.{ProofOfEnd}
use Rattle.session_rules.specs.States.{State, top_floor, shown_here, has_ended}
use Rattle.session_rules.specs.Steps.{AsksFor}
use Rattle.session_rules.specs.Proofs.{Proves, IsCovered}
use Rattle.session_rules.specs.Work.{IsStopped, IsWork, units_in}
use Rattle.session_rules.specs.declared.end_proof.ProofKind.TheVariants.{End as OfEnd, NoInstance as OfNoInstance}
use Rattle.session_rules.specs.declared.answers.WorkDone.{WorkDone}
use Rattle.session_rules.specs.declared.answers.Refusal.TheVariants.{NoInstance, Spent}
use Rattle.session_rules.specs.declared.answers.Reply.{Reply}
use Rattle.session_rules.specs.declared.answers.Reply.TheVariants.{End, Refused}

-- the proof imported this pool, and shows that nothing is left at the top floor but what was shown, and copies of it
pub record IsEndShown (t : Translated) (pool : List LogStep) (s : State) (proof : ProofOfEnd) : Type 0 where
  pub imports : proof.pool ≡ pool
  pub proves : Proves t (top_floor s) OfEnd proof
  pub covered : IsCovered t.problem (top_floor s) (shown_here s) proof.blocked

-- the proof imported this pool and blocks nothing, and shows that no instance contains the floor
pub record IsNoInstanceShown (t : Translated) (pool : List LogStep) (floor : List ℕ) (proof : ProofOfEnd) : Type 0 where
  pub imports : proof.pool ≡ pool
  pub proves : Proves t floor OfNoInstance proof
  pub none_blocked : proof.blocked ≡ []

-- the work of the step was done, with exactly the budget as units, and was stopped there
pub record IsSpentOn (t : Translated) (pool : List LogStep) (s : State) (step : Step) (done : WorkDone) : Type 0 where
  pub work : IsWork t pool s step done.parts done.copies
  pub units : units_in t pool done.parts done.copies ≡ done.budget
  pub stopped : IsStopped t pool s step done.parts done.copies

-- the reply makes a proof, or says that the budget is spent
abbrev pub NeedsEvidence : State → Reply → Type 0
NeedsEvidence s (End number proof) = ¬ IsTrue (has_ended (top_floor s) s)
NeedsEvidence s (Refused (NoInstance proof)) = Unit {0}
NeedsEvidence s (Refused (Spent done)) = Unit {0}
NeedsEvidence s reply = ⊥

-- the proof that the reply makes, or the work that it holds, is right over the translation and the imported steps
abbrev pub HasEvidence : Translated → List LogStep → State → Step → Reply → Type 0
HasEvidence t pool s step (Refused (Spent done)) = IsSpentOn t pool s step done
HasEvidence t pool s Next (End number proof) = IsEndShown t pool s proof
HasEvidence t pool s (Augment name names) (Refused (NoInstance proof)) = (floor : List ℕ) × AsksFor t.problem s name names floor × IsNoInstanceShown t pool floor proof
HasEvidence t pool s step reply = ⊥
