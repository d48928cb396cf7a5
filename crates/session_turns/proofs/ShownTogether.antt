-- Scenarios that one command shows, each with its group.
use Rattle.std.proofs.Common.{◌≡◌, ◌<◌, ◌≤◌, ◌+◌, ◌++◌, inl, inr, ℕ, List, [], ◌∷◌, length, refl, sym, ap, ◌∙◌, subst, arith}
use Rattle.rel_formula.specs.Bounds.{Bounded}
use Rattle.translation_rules.specs.Translation.{Translated}
use Rattle.session_words.specs.declared.steps.Step.{Step}
use Rattle.session_words.specs.declared.commands.Command.{Command}
use Rattle.session_words.specs.declared.steps.Step.TheVariants as step
use Rattle.session_words.specs.declared.commands.Command.TheVariants as command
use Rattle.session_rules.specs.ProofOfEnd.{ProofOfEnd}
use Rattle.session_rules.specs.States.{State, after}
use Rattle.session_rules.specs.Steps.{MayAnswer, Exchange, MachineRun, state_after}
use Rattle.session_rules.specs.Transcripts.{showings, ReadsAs, ComesToEnd, ListsShown}
use Rattle.session_rules.specs.declared.answers.Reply.{Reply}
use Rattle.session_rules.specs.declared.answers.Reply.TheVariants as reply
use Rattle.session_rules.proofs.Runs.{states_join, runs_joined}
use Rattle.session_state.specs.Sessions.Fits.{InSession}
use Rattle.session_turns.specs.Showing.{next_number, IsFirst}
use Rattle.session_turns.proofs.ShownScenarios.{asked, showings_more, shown_none, shown_one, number_is}
use Rattle.hub_state.specs.Journal.Noted.{Note}
use Rattle.hub_turns.specs.Groups.{IsGroup, AreGroups}
use Rattle.hub_turns.proofs.Grouping.{groups_join}
use Rattle.session_turns.specs.Added.{HasAddedAll, HasAnswered, HasServed, HasShownAll}
use Rattle.session_turns.proofs.Turning.{Seen, added_none, added_then}
use Rattle.session_turns.proofs.Answering.{one_group}

pub shown_all_none : (t : Translated) (p : Seen) (x : InSession) → HasShownAll t p p x x []
shown_all_none t p x = record { shown = shown_none t.problem x.kept.state; notes = []; added = added_none p p refl; groups = refl }

module _ (t : Translated) (start a b : Seen) (x0 x y : InSession) (ss : List (List ℕ)) (has : HasShownAll t start a x0 x ss) (number : a.view.number ≡ start.view.number) (key : x0.key ≡ x.key) (r : Reply) (answered : HasAnswered t a b x y step.Next r) where
  abbrev p : Bounded
  p = t.problem

  abbrev old : State
  old = x0.kept.state

  abbrev before : List Exchange
  before = showings (next_number old) ss

  abbrev all : List Exchange
  all = before ++ asked r ∷ []

  abbrev notes : List Note
  notes = has.notes ++ answered.notes

  added : HasAddedAll start b notes
  added = added_then start a b has.notes answered.notes number has.added answered.added

  groups : AreGroups x0.key all notes
  groups = groups_join x0.key before (asked r ∷ []) has.notes answered.notes has.groups (one_group x0.key (asked r) answered.notes (subst (λ (k : ℕ). IsGroup k (asked r) answered.notes) (sym key) answered.group))

  run : MachineRun p old all
  run = runs_joined p old before (asked r ∷ []) has.shown.run (subst (λ (s : State). MayAnswer p s step.Next r) has.shown.state answered.machine.0, tt)

  state : y.kept.state ≡ state_after old all
  state = answered.machine.1 ∙ ap (λ (s : State). after s r) has.shown.state ∙ sym (states_join old before (asked r ∷ []))

  served : (n : ℕ) (result : Reply) → ReadsAs (command.All n) result old all → HasServed t start b x0 y (command.All n) result
  served n result read = record { exchanges = all; serves = record { read = read; run = run }; state = state; notes = notes; added = added; groups = groups }

  -- one scenario more
  pub shown_all_more : (number' : ℕ) (scenario : List ℕ) → r ≡ reply.Shown number' scenario → HasShownAll t start b x0 y (ss ++ scenario ∷ [])
  shown_all_more number' scenario is =
      let may : MayAnswer p x.kept.state step.Next (reply.Shown number' scenario) = subst (λ (q : Reply). MayAnswer p x.kept.state step.Next q) is answered.machine.0 in
      let new_is : y.kept.state ≡ after x.kept.state (reply.Shown number' scenario) = answered.machine.1 ∙ ap (λ (q : Reply). after x.kept.state q) is in
      let count : number' ≡ next_number old + length ss = number_is p old ss x.kept.state number' scenario has.shown may in
      let one : showings (next_number old) (ss ++ scenario ∷ []) ≡ all =
      showings_more (next_number old) ss scenario ∙ ap (λ n. before ++ asked (reply.Shown n scenario) ∷ []) (sym count) ∙ ap (λ (q : Reply). before ++ asked q ∷ []) (sym is) in
      record {
        shown = shown_one p old ss x.kept.state y.kept.state number' scenario has.shown may new_is;
        notes = notes;
        added = added;
        groups = subst (λ (es : List Exchange). AreGroups x0.key es notes) (sym one) groups;
      }

  -- the end of the floor: all that was shown, or want of memory
  comes : (number' : ℕ) (proof : ProofOfEnd) → r ≡ reply.End number' proof → (n : ℕ) → length ss < n → ComesToEnd n all
  comes number' proof is n few = record { number = number'; proof = proof; comes = record { first = next_number old; scenarios = ss; few = few; exchanges = ap (λ (q : Reply). before ++ asked q ∷ []) is } }

  pub lists_all : (number' : ℕ) (proof : ProofOfEnd) → r ≡ reply.End number' proof → (n : ℕ) → length ss < n → (scenarios : List (List ℕ)) → ListsShown y.kept.state scenarios → HasServed t start b x0 y (command.All n) (reply.All scenarios)
  lists_all number' proof is n few scenarios lists = served n (reply.All scenarios) (comes number' proof is n few, subst (λ (s : State). ListsShown s scenarios) state lists)

  pub ends_without_memory : (number' : ℕ) (proof : ProofOfEnd) → r ≡ reply.End number' proof → (n : ℕ) → length ss < n → HasServed t start b x0 y (command.All n) reply.Memory
  ends_without_memory number' proof is n few = served n reply.Memory (inr (comes number' proof is n few))

  -- a reply that neither shows nor ends
  reads_other : (n : ℕ) → length ss < n → (q : Reply) → r ≡ q → MayAnswer p x.kept.state step.Next q → ((number' : ℕ) (scenario : List ℕ) → q ≡ reply.Shown number' scenario → ⊥) → ((number' : ℕ) (proof : ProofOfEnd) → q ≡ reply.End number' proof → ⊥) → ReadsAs (command.All n) q old all
  reads_other n few (reply.Shown number' scenario) is may shows ends = absurd (shows number' scenario refl)
  reads_other n few (reply.End number' proof) is may shows ends = absurd (ends number' proof refl)
  reads_other n few (reply.Refused refusal) is may shows ends = record { first = next_number old; scenarios = ss; few = few; exchanges = ap (λ (q : Reply). before ++ asked q ∷ []) is }
  reads_other n few reply.Memory is may shows ends = inl (record { first = next_number old; scenarios = ss; few = few; exchanges = ap (λ (q : Reply). before ++ asked q ∷ []) is })
  reads_other n few (reply.Offers cells) is may shows ends = absurd may
  reads_other n few (reply.Augmented floor) is may shows ends = absurd may
  reads_other n few reply.Back is may shows ends = absurd may
  reads_other n few (reply.BudgetSet budget) is may shows ends = absurd may
  reads_other n few (reply.All scenarios) is may shows ends = absurd may
  reads_other n few (reply.Partly first scenarios) is may shows ends = absurd may
  reads_other n few (reply.Proof proof) is may shows ends = absurd may

  pub comes_to_other : (n : ℕ) → length ss < n → ((number' : ℕ) (scenario : List ℕ) → r ≡ reply.Shown number' scenario → ⊥) → ((number' : ℕ) (proof : ProofOfEnd) → r ≡ reply.End number' proof → ⊥) → HasServed t start b x0 y (command.All n) r
  comes_to_other n few shows ends = served n r (reads_other n few r refl answered.machine.0 shows ends)

-- as many as were asked for
first_of : (old : State) (ss : List (List ℕ)) (n : ℕ) → 0 < length ss → IsFirst old ss n → n ≡ next_number old
first_of old [] n some is = absurd (omega (arith, some))
first_of old (x ∷ xs) n some is = is

pub shows_partly : (t : Translated) (start a : Seen) (x0 x : InSession) (ss : List (List ℕ)) → HasShownAll t start a x0 x ss → (n first : ℕ) → length ss ≡ n → 1 ≤ n → IsFirst x0.kept.state ss first → HasServed t start a x0 x (command.All n) (reply.Partly first ss)
shows_partly t start a x0 x ss has n first count some is =
    let same : first ≡ next_number x0.kept.state = first_of x0.kept.state ss first (omega arith) is in
    record {
      exchanges = showings (next_number x0.kept.state) ss;
      serves = record { read = (count, ap (λ f. showings f ss) (sym same)); run = has.shown.run };
      state = has.shown.state;
      notes = has.notes;
      added = has.added;
      groups = has.groups;
    }

-- a command that is a step
pub one_step : (t : Translated) (a b : Seen) (x y : InSession) (c : Command) (s : Step) (r : Reply) → c ≡ command.Step s → HasAnswered t a b x y s r → HasServed t a b x y c r
one_step t a b x y c s r is answered =
    let served : HasServed t a b x y (command.Step s) r = record {
      exchanges = record { step = s; reply = r } ∷ [];
      serves = record { read = refl; run = (answered.machine.0, tt) };
      state = answered.machine.1;
      notes = answered.notes;
      added = answered.added;
      groups = one_group x.key (record { step = s; reply = r }) answered.notes answered.group;
    } in
    subst (λ (k : Command). HasServed t a b x y k r) (sym is) served

-- where memory is wanting at once
pub wants_memory : (t : Translated) (p : Seen) (x : InSession) (n : ℕ) → 0 < n → HasServed t p p x x (command.All n) reply.Memory
wants_memory t p x n some = record {
  exchanges = asked reply.Memory ∷ [];
  serves = record { read = inl (record { first = 0; scenarios = []; few = some; exchanges = refl }); run = (tt, tt) };
  state = refl;
  notes = [];
  added = added_none p p refl;
  groups = one_group x.key (asked reply.Memory) [] (inl refl);
}
