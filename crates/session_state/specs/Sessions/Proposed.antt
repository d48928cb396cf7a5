-- What a session proposes for a step.
use Rattle.std.specs.Prelude.{◌≡◌, ◌≢◌, ◌≤◌, ℕ, List, [], ◌∷◌, ◌++◌, All}
use Rattle.cnf_core.specs.declared.literal.Lit.{Lit}
use Rattle.refutation_check.specs.declared.log.Step.{Step as LogStep}
use Rattle.refutation_check.specs.Part.{Parted}
use Rattle.rel_formula.specs.Bounds.{Bounded}
use Rattle.translation_rules.specs.Translation.{Translated}
use Rattle.translation_rules.specs.Locals.{units_of}
use Rattle.session_words.specs.declared.steps.Step.{Step}
use Rattle.session_words.specs.declared.steps.Step.TheVariants.{Next, Offers, Augment, Back, Budget, Proof}
use Rattle.session_rules.specs.States.{State, top_floor, shown_here}
use Rattle.session_rules.specs.Steps.{AsksFor, MayAnswer}
use Rattle.session_rules.specs.Proofs.{IsCopy, locals_for}
use Rattle.session_rules.specs.Work.{IsWork, units_in}
use Rattle.session_rules.specs.Evidence.{NeedsEvidence, HasEvidence}
use Rattle.session_rules.specs.declared.end_proof.ProofKind.TheVariants.{End as OfEnd}
use Rattle.session_rules.specs.declared.answers.Refusal.TheVariants.{NoInstance, Spent}
use Rattle.session_rules.specs.declared.answers.Reply.{Reply}
use Rattle.session_rules.specs.declared.answers.Reply.TheVariants.{End, BudgetSet, Refused, Memory}

-- the reply, the parts of the searches for it, and the copies of shown scenarios that they came upon
pub record Proposed : Type 0 where
  pub reply : Reply
  pub parts : List Parted
  pub copies : List (List ℕ)

-- a budget that the reply sets is at most 100,000
abbrev pub SetsSmallBudget : Reply → Type 0
SetsSmallBudget (BudgetSet budget) = budget ≤ 100000
SetsSmallBudget reply = Unit {0}

-- the last part has these local clauses and this log
pub record EndsWith (parts : List Parted) (local : List (List Lit)) (log : List LogStep) : Type 0 where
  pub before : List Parted
  pub parts_are : parts ≡ before ++ record { local = local; log = log } ∷ []

-- a proof that the reply makes is the log of the last part, whose local clauses are those of the proof; a spent budget has
-- these parts and copies
abbrev pub RestsOn : Translated → State → Step → Reply → List Parted → List (List ℕ) → Type 0
RestsOn t s step (Refused (Spent done)) parts copies = (done.parts ≡ parts) × (done.copies ≡ copies)
RestsOn t s Next (End number proof) parts copies = EndsWith parts (locals_for t (top_floor s) OfEnd proof.blocked) proof.log
RestsOn t s (Augment name names) (Refused (NoInstance proof)) parts copies = (floor : List ℕ) × AsksFor t.problem s name names floor × EndsWith parts (units_of floor) proof.log
RestsOn t s step reply parts copies = ⊥

-- the machine may give the reply, which does not say that memory is wanting; what it rests on is right over the translation and
-- the imported steps, and is what was done; that is work for the step, within the budget; and the copies are copies of what was
-- shown at the top floor
pub record IsProposal (t : Translated) (pool : List LogStep) (s : State) (step : Step) (p : Proposed) : Type 0 where
  pub may : MayAnswer t.problem s step p.reply
  pub told : p.reply ≢ Memory
  pub evidence : NeedsEvidence s p.reply → HasEvidence t pool s step p.reply
  pub rests : NeedsEvidence s p.reply → RestsOn t s step p.reply p.parts p.copies
  pub work : IsWork t pool s step p.parts p.copies
  pub units : units_in t pool p.parts p.copies ≤ s.budget
  pub copies : All (IsCopy t.problem (top_floor s) (shown_here s)) p.copies

-- the machine may give the reply on every problem; it does not say that memory is wanting, and rests on nothing; and nothing
-- was done for it
pub record IsPlainProposal (s : State) (step : Step) (p : Proposed) : Type 0 where
  pub may : (q : Bounded) → MayAnswer q s step p.reply
  pub told : p.reply ≢ Memory
  pub no_evidence : ¬ NeedsEvidence s p.reply
  pub no_parts : p.parts ≡ []
  pub no_copies : p.copies ≡ []

-- the answer to the step is what a search finds
abbrev pub NeedsTranslation : Step → Type 0
NeedsTranslation Back = ⊥
NeedsTranslation (Budget budget) = ⊥
NeedsTranslation Proof = ⊥
NeedsTranslation step = Unit {0}

-- the step is answered without a search; a budget is at most 100,000
abbrev pub IsPlain : Step → Type 0
IsPlain Next = ⊥
IsPlain Offers = ⊥
IsPlain (Augment relation tuple) = ⊥
IsPlain (Budget budget) = budget ≤ 100000
IsPlain step = Unit {0}
