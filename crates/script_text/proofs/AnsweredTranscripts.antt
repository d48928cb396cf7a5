-- What is printed of a transcript may be printed for its commands.
use Rattle.std.proofs.Common.{◌≡◌, ◌⊎◌, inl, inr, ◌≤◌, ◌++◌, ℕ, List, [], ◌∷◌, All, length, suc, refl, sym, subst, arith}
use Rattle.std.specs.List.{AllZip}
use Rattle.cnf_core.specs.declared.literal.Lit.{Lit}
use Rattle.refutation_check.specs.declared.log.Step.{Step as LogStep}
use Rattle.rel_formula.specs.Bounds.{Bounded}
use Rattle.translation_rules.specs.Translation.{Translated}
use Rattle.translation_rules.specs.Locals.{locals_of}
use Rattle.session_words.specs.declared.steps.Step.{Step}
use Rattle.session_words.specs.declared.steps.Step.TheVariants as step
use Rattle.session_words.specs.declared.commands.Command.{Command}
use Rattle.session_words.specs.declared.commands.Command.TheVariants as command
use Rattle.session_rules.specs.ProofOfEnd.{ProofOfEnd}
use Rattle.session_rules.specs.States.{State}
use Rattle.session_rules.specs.Steps.{Exchange, MayAnswer, MachineRun, state_after}
use Rattle.session_rules.specs.Transcripts.{ReadsAs, Serves, IsTranscript}
use Rattle.session_rules.specs.Proofs.{whole_log}
use Rattle.session_rules.specs.declared.answers.Reply.{Reply}
use Rattle.session_rules.specs.declared.answers.Reply.TheVariants as reply
use Rattle.script_text.specs.Printed.{Printed, printed, all_printed, refusal_words}
use Rattle.script_text.specs.Asked.{AsksForSome}
use Rattle.script_text.specs.Printable.{MayPrint}

abbrev clauses_in : Translated → List ℕ → ProofOfEnd → List (List Lit)
clauses_in t floor proof = t.cnf.clauses ++ locals_of t floor proof.blocked

abbrev steps_in : Translated → List ℕ → ProofOfEnd → List LogStep
steps_in t floor proof = whole_log t (locals_of t floor proof.blocked) proof

step_prints : (t : Translated) (floor : List ℕ) (p : Bounded) (s : State) (asked : Step) (r : Reply) → MayAnswer p s asked r → MayPrint (command.Step asked) (printed t floor r)
step_prints t floor p s step (reply.Refused refusal) h = inr (inl (refusal_words refusal, refl))
step_prints t floor p s step reply.Memory h = inr (inr refl)
step_prints t floor p s step.Next (reply.Shown number scenario) h = inl (inl (number, scenario, refl))
step_prints t floor p s step.Offers (reply.Shown number scenario) h = absurd h
step_prints t floor p s (step.Augment name names) (reply.Shown number scenario) h = absurd h
step_prints t floor p s step.Back (reply.Shown number scenario) h = absurd h
step_prints t floor p s (step.Budget asked) (reply.Shown number scenario) h = absurd h
step_prints t floor p s step.Proof (reply.Shown number scenario) h = absurd h
step_prints t floor p s step.Next (reply.End number proof) h = inl (inr (number, refl))
step_prints t floor p s step.Offers (reply.End number proof) h = absurd h
step_prints t floor p s (step.Augment name names) (reply.End number proof) h = absurd h
step_prints t floor p s step.Back (reply.End number proof) h = absurd h
step_prints t floor p s (step.Budget asked) (reply.End number proof) h = absurd h
step_prints t floor p s step.Proof (reply.End number proof) h = absurd h
step_prints t floor p s step.Next (reply.Offers cells) h = absurd h
step_prints t floor p s step.Offers (reply.Offers cells) h = inl (cells, refl)
step_prints t floor p s (step.Augment name names) (reply.Offers cells) h = absurd h
step_prints t floor p s step.Back (reply.Offers cells) h = absurd h
step_prints t floor p s (step.Budget asked) (reply.Offers cells) h = absurd h
step_prints t floor p s step.Proof (reply.Offers cells) h = absurd h
step_prints t floor p s step.Next (reply.Augmented above) h = absurd h
step_prints t floor p s step.Offers (reply.Augmented above) h = absurd h
step_prints t floor p s (step.Augment name names) (reply.Augmented above) h = inl refl
step_prints t floor p s step.Back (reply.Augmented above) h = absurd h
step_prints t floor p s (step.Budget asked) (reply.Augmented above) h = absurd h
step_prints t floor p s step.Proof (reply.Augmented above) h = absurd h
step_prints t floor p s step.Next reply.Back h = absurd h
step_prints t floor p s step.Offers reply.Back h = absurd h
step_prints t floor p s (step.Augment name names) reply.Back h = absurd h
step_prints t floor p s step.Back reply.Back h = inl refl
step_prints t floor p s (step.Budget asked) reply.Back h = absurd h
step_prints t floor p s step.Proof reply.Back h = absurd h
step_prints t floor p s step.Next (reply.BudgetSet budget) h = absurd h
step_prints t floor p s step.Offers (reply.BudgetSet budget) h = absurd h
step_prints t floor p s (step.Augment name names) (reply.BudgetSet budget) h = absurd h
step_prints t floor p s step.Back (reply.BudgetSet budget) h = absurd h
step_prints t floor p s (step.Budget asked) (reply.BudgetSet budget) h = inl (budget, refl)
step_prints t floor p s step.Proof (reply.BudgetSet budget) h = absurd h
step_prints t floor p s step.Next (reply.All scenarios) h = absurd h
step_prints t floor p s step.Offers (reply.All scenarios) h = absurd h
step_prints t floor p s (step.Augment name names) (reply.All scenarios) h = absurd h
step_prints t floor p s step.Back (reply.All scenarios) h = absurd h
step_prints t floor p s (step.Budget asked) (reply.All scenarios) h = absurd h
step_prints t floor p s step.Proof (reply.All scenarios) h = absurd h
step_prints t floor p s step.Next (reply.Partly first scenarios) h = absurd h
step_prints t floor p s step.Offers (reply.Partly first scenarios) h = absurd h
step_prints t floor p s (step.Augment name names) (reply.Partly first scenarios) h = absurd h
step_prints t floor p s step.Back (reply.Partly first scenarios) h = absurd h
step_prints t floor p s (step.Budget asked) (reply.Partly first scenarios) h = absurd h
step_prints t floor p s step.Proof (reply.Partly first scenarios) h = absurd h
step_prints t floor p s step.Next (reply.Proof proof) h = absurd h
step_prints t floor p s step.Offers (reply.Proof proof) h = absurd h
step_prints t floor p s (step.Augment name names) (reply.Proof proof) h = absurd h
step_prints t floor p s step.Back (reply.Proof proof) h = absurd h
step_prints t floor p s (step.Budget asked) (reply.Proof proof) h = absurd h
step_prints t floor p s step.Proof (reply.Proof proof) h = inl (clauses_in t floor proof, steps_in t floor proof, refl)

all_prints : (t : Translated) (floor : List ℕ) (s : State) (n : ℕ) (r : Reply) (xs : List Exchange) → 1 ≤ n → ReadsAs (command.All n) r s xs → MayPrint (command.All n) (printed t floor r)
all_prints t floor s n (reply.All scenarios) xs some h = inl (inl (scenarios, refl))
all_prints t floor s n (reply.Partly first []) xs some h = let none = h.0 in absurd (omega arith)
all_prints t floor s n (reply.Partly first (x ∷ scenarios)) xs some h = inl (inr (first, x, scenarios, refl))
all_prints t floor s n (reply.Refused refusal) xs some h = inr (inl (refusal_words refusal, refl))
all_prints t floor s n reply.Memory xs some h = inr (inr refl)
all_prints t floor s n (reply.Shown number scenario) xs some h = absurd h
all_prints t floor s n (reply.End number proof) xs some h = absurd h
all_prints t floor s n (reply.Offers cells) xs some h = absurd h
all_prints t floor s n (reply.Augmented above) xs some h = absurd h
all_prints t floor s n reply.Back xs some h = absurd h
all_prints t floor s n (reply.BudgetSet budget) xs some h = absurd h
all_prints t floor s n (reply.Proof proof) xs some h = absurd h

command_prints : (t : Translated) (floor : List ℕ) (p : Bounded) (s : State) (c : Command) (r : Reply) (xs : List Exchange) → AsksForSome c → Serves p s c r xs → MayPrint c (printed t floor r)
command_prints t floor p s (command.Step asked) r xs some serves =
    let run : MachineRun p s (record { step = asked; reply = r } ∷ []) = subst (MachineRun p s) serves.read serves.run in
    step_prints t floor p s asked r run.0
command_prints t floor p s (command.All n) r xs some serves = all_prints t floor s n r xs some serves.read

pub transcript_prints : (p : Bounded) (t : Translated) (s : State) (cs : List Command) (rs : List Reply) (fs : List (List ℕ)) (xs : List Exchange) → All AsksForSome cs → IsTranscript p s cs rs fs xs → AllZip MayPrint cs (all_printed t fs rs)
transcript_prints p t s [] [] [] xs some is = tt
transcript_prints p t s [] [] (f ∷ fs) xs some is = absurd is
transcript_prints p t s [] (r ∷ rs) fs xs some is = absurd is
transcript_prints p t s (c ∷ cs) [] fs xs some is = absurd is
transcript_prints p t s (c ∷ cs) (r ∷ rs) [] xs some is = absurd is
transcript_prints p t s (c ∷ cs) (r ∷ rs) (f ∷ fs) xs some is = (
  command_prints t f p s c r is.0 (some 0 c (omega arith)) is.4,
  transcript_prints p t (state_after s is.0) cs rs fs is.1 (λ k d l. some (suc k) d (omega arith)) is.5,
)
