-- Scripts of `all` and `budget` alone have one output.
use Rattle.std.proofs.Common.{◌≡◌, ◌↔◌, ◌⊎◌, inl, inr, ℕ, List, [], ◌∷◌, All, AllPairs, Contains, refl, sym, ap, ◌∙◌, subst}
use Rattle.std.specs.List.{AllZip, AllByRecursion}
use Rattle.std.proofs.lemmas.List.Elements.{All-head, All-tail, recursion_from_All}
use Rattle.rel_formula.specs.Bounds.{Bounded}
use Rattle.swap_symmetry.specs.Due.{IsDue}
use Rattle.swap_symmetry.specs.Order.{IsEarlier}
use Rattle.swap_symmetry.proofs.ScenarioOrders.{only_one}
use Rattle.translation_rules.specs.Translation.{Translated}
use Rattle.session_words.specs.declared.steps.Step.TheVariants as step
use Rattle.session_words.specs.declared.commands.Command.{Command}
use Rattle.session_words.specs.declared.commands.Command.TheVariants as command
use Rattle.session_rules.specs.States.{State, Start, top_floor}
use Rattle.session_rules.specs.Steps.{Exchange, MachineRun, IsReached, state_after}
use Rattle.session_rules.specs.Sound.{IsSound}
use Rattle.session_rules.specs.Transcripts.{Serves, IsTranscript}
use Rattle.session_rules.specs.declared.answers.Reply.{Reply}
use Rattle.session_rules.specs.declared.answers.Reply.TheVariants as reply
use Rattle.named_model.specs.Model.{NamedTree}
use Rattle.script_format.specs.declared.entries.SessionEntry.{SessionEntry}
use Rattle.script_text.specs.Printed.{Printed, listed, budget_set, printed, all_printed}
use Rattle.script_text.specs.Replies.{PrintedSession}
use Rattle.explorer_cli.specs.Runs.{Translations, IsRunAmong}
use Rattle.explorer_cli.specs.Shown.{AsksForList, IsListed}
use Rattle.explorer_cli.proofs.OneOrder.{one_order}
use Rattle.explorer_cli.proofs.Problems.{OneProblem, one_problem_at}
use Rattle.explorer_cli.proofs.ShowingReplies.{reached_on, top_comes}

-- ---- replies

abbrev pub Sound : Type 0
Sound = (p : Bounded) (s : State) → IsReached p s → IsSound p s

-- what the law of lists says, as it is used here
abbrev pub ListsDue : Type 0
ListsDue = (p : Bounded) (old : State) (n : ℕ) (scenarios : List (List ℕ)) (xs : List Exchange) → IsSound p old → Serves p old (command.All n) (reply.All scenarios) xs
    → (x : List ℕ) → Contains scenarios x ↔ IsDue p (top_floor (state_after old xs)) x

printed_are : (a b : Printed) (as' bs : List Printed) → a ≡ b → as' ≡ bs → a ∷ as' ≡ b ∷ bs
printed_are a b as' bs e f = ap (λ (z : Printed). z ∷ as') e ∙ ap (λ (zs : List Printed). b ∷ zs) f

-- what is printed is the budget that was asked for, or the list of what is due, in order
abbrev IsBudget : Command → Printed → Type 0
IsBudget c q = (budget : ℕ) × (q ≡ budget_set budget) × (c ≡ command.Step (step.Budget budget))

record IsList (p : Bounded) (floor : List ℕ) (c : Command) (q : Printed) : Type 0 where
  pub scenarios : List (List ℕ)
  pub is : q ≡ listed scenarios
  pub asked : ℕ
  pub command_is : c ≡ command.All asked
  pub sorted : AllPairs IsEarlier scenarios
  pub due : (x : List ℕ) → Contains scenarios x ↔ IsDue p floor x

abbrev IsFixed : Bounded → List ℕ → Command → Printed → Type 0
IsFixed p floor c q = IsBudget c q ⊎ IsList p floor c q

-- and the floor stays
abbrev IsListing : Bounded → State → Command → Printed → List Exchange → Type 0
IsListing p s c q xs = IsFixed p (top_floor s) c q × (top_floor (state_after s xs) ≡ top_floor s)

module _ (sound : Sound) (lists : ListsDue) (p : Bounded) (t : Translated) (f : List ℕ) (s : State) (reached : IsReached p s) where
  of_budget : (asked : ℕ) (r : Reply) (xs : List Exchange) → Serves p s (command.Step (step.Budget asked)) r xs → IsListed (printed t f r) → IsListing p s (command.Step (step.Budget asked)) (printed t f r) xs
  of_budget asked (reply.BudgetSet budget) xs h is =
      let run = subst (MachineRun p s) h.read h.run in
      (inl (budget, refl, ap (λ n. command.Step (step.Budget n)) (sym run.0)), ap (λ (ys : List Exchange). top_floor (state_after s ys)) h.read)
  of_budget asked (reply.All scenarios) xs h is = let run = subst (MachineRun p s) h.read h.run in absurd run.0
  of_budget asked (reply.Shown number scenario) xs h is = absurd is
  of_budget asked (reply.End number proof) xs h is = absurd is
  of_budget asked (reply.Offers cells) xs h is = absurd is
  of_budget asked (reply.Augmented above) xs h is = absurd is
  of_budget asked reply.Back xs h is = absurd is
  of_budget asked (reply.Partly first scenarios) xs h is = absurd is
  of_budget asked (reply.Proof proof) xs h is = absurd is
  of_budget asked (reply.Refused refusal) xs h is = absurd is
  of_budget asked reply.Memory xs h is = absurd is

  of_all : (n : ℕ) (r : Reply) (xs : List Exchange) → Serves p s (command.All n) r xs → IsListed (printed t f r) → IsListing p s (command.All n) (printed t f r) xs
  of_all n (reply.All scenarios) xs h is =
      let stays = top_comes s n xs h.read.0 in (
        inr (record {
          scenarios = scenarios;
          is = refl;
          asked = n;
          command_is = refl;
          sorted = h.read.1.sorted;
          due = λ x. subst (λ (g : List ℕ). Contains scenarios x ↔ IsDue p g x) stays (lists p s n scenarios xs (sound p s reached) h x);
        }),
        stays,
      )
  of_all n (reply.BudgetSet budget) xs h is = absurd h.read
  of_all n (reply.Shown number scenario) xs h is = absurd is
  of_all n (reply.End number proof) xs h is = absurd is
  of_all n (reply.Offers cells) xs h is = absurd is
  of_all n (reply.Augmented above) xs h is = absurd is
  of_all n reply.Back xs h is = absurd is
  of_all n (reply.Partly first scenarios) xs h is = absurd is
  of_all n (reply.Proof proof) xs h is = absurd is
  of_all n (reply.Refused refusal) xs h is = absurd is
  of_all n reply.Memory xs h is = absurd is

  listing : (c : Command) (r : Reply) (xs : List Exchange) → AsksForList c → Serves p s c r xs → IsListed (printed t f r) → IsListing p s c (printed t f r) xs
  listing (command.Step (step.Budget asked)) r xs asks h is = of_budget asked r xs h is
  listing (command.All n) r xs asks h is = of_all n r xs h is
  listing (command.Step step.Next) r xs asks h is = absurd asks
  listing (command.Step step.Offers) r xs asks h is = absurd asks
  listing (command.Step (step.Augment name names)) r xs asks h is = absurd asks
  listing (command.Step step.Back) r xs asks h is = absurd asks
  listing (command.Step step.Proof) r xs asks h is = absurd asks

same_budget : (m n : ℕ) → command.Step (step.Budget m) ≡ command.Step (step.Budget n) → m ≡ n
same_budget m n e = cc

no_budget : (m n : ℕ) → command.Step (step.Budget m) ≡ command.All n → ⊥
no_budget m n e = absurd (cc)

-- one command has one such answer at a floor
one_fixed : (p : Bounded) (floor : List ℕ) (c : Command) (a b : Printed) → IsFixed p floor c a → IsFixed p floor c b → a ≡ b
one_fixed p floor c a b (inl h) (inl k) = h.1 ∙ ap budget_set (same_budget h.0 k.0 (sym h.2 ∙ k.2)) ∙ sym k.1
one_fixed p floor c a b (inl h) (inr k) = absurd (no_budget h.0 k.asked (sym h.2 ∙ k.command_is))
one_fixed p floor c a b (inr h) (inl k) = absurd (no_budget k.0 h.asked (sym k.2 ∙ h.command_is))
one_fixed p floor c a b (inr h) (inr k) =
    h.is ∙ ap listed (one_order IsEarlier only_one h.scenarios k.scenarios h.sorted k.sorted (λ z in'. (k.due z).1 ((h.due z).0 in')) (λ z in'. (h.due z).1 ((k.due z).0 in'))) ∙ sym k.is

module _ (sound : Sound) (lists : ListsDue) (p : Bounded) (t u : Translated) where
  -- two transcripts that begin at one floor print the same
  pub same_prints : (old now : State) (cs : List Command) (rs qs : List Reply) (fs gs : List (List ℕ)) (xs ys : List Exchange) → IsReached p old → IsReached p now → top_floor old ≡ top_floor now
      → AllByRecursion AsksForList cs → IsTranscript p old cs rs fs xs → IsTranscript p now cs qs gs ys → AllByRecursion IsListed (all_printed t fs rs) → AllByRecursion IsListed (all_printed u gs qs)
      → all_printed t fs rs ≡ all_printed u gs qs
  same_prints old now [] [] [] [] [] xs ys a b top asks h k is other = refl
  same_prints old now [] [] [] [] (g ∷ gs) xs ys a b top asks h k is other = absurd k
  same_prints old now [] [] (q ∷ qs) [] gs xs ys a b top asks h k is other = absurd k
  same_prints old now [] [] qs (f ∷ fs) gs xs ys a b top asks h k is other = absurd h
  same_prints old now [] (r ∷ rs) qs fs gs xs ys a b top asks h k is other = absurd h
  same_prints old now (c ∷ cs) [] qs fs gs xs ys a b top asks h k is other = absurd h
  same_prints old now (c ∷ cs) (r ∷ rs) [] fs gs xs ys a b top asks h k is other = absurd k
  same_prints old now (c ∷ cs) (r ∷ rs) (q ∷ qs) [] gs xs ys a b top asks h k is other = absurd h
  same_prints old now (c ∷ cs) (r ∷ rs) (q ∷ qs) (f ∷ fs) [] xs ys a b top asks h k is other = absurd k
  same_prints old now (c ∷ cs) (r ∷ rs) (q ∷ qs) (f ∷ fs) (g ∷ gs) xs ys a b top asks h k is other =
      let first = listing sound lists p t f old a c r h.0 asks.0 h.4 is.0 in
      let second = listing sound lists p u g now b c q k.0 asks.0 k.4 other.0 in
      let here = one_fixed p (top_floor now) c (printed t f r) (printed u g q) (subst (λ (w : List ℕ). IsFixed p w c (printed t f r)) top first.0) second.0 in
      let later = same_prints (state_after old h.0) (state_after now k.0) cs rs qs fs gs h.1 k.1 (reached_on p old h.0 a h.4.run) (reached_on p now k.0 b k.4.run)
      (first.1 ∙ top ∙ sym second.1) asks.1 h.5 k.5 is.1 other.1 in
      printed_are (printed t f r) (printed u g q) (all_printed t fs rs) (all_printed u gs qs) here later

session_of : Bounded → List ℕ → List Printed → PrintedSession
session_of p name replies = record { problem = p; name = name; replies = replies }

start_reached : (p : Bounded) (budget : ℕ) → IsReached p (Start budget)
start_reached p budget = record { budget = budget; exchanges = []; run = tt; state = refl }

module _ (sound : Sound) (lists : ListsDue) (one_problem : OneProblem) (models : List NamedTree) (x : SessionEntry) where
  -- two runs of one session print the same
  one_session : (budget other : ℕ) (over above : Translations) (s r : PrintedSession) → All AsksForList x.commands → IsRunAmong budget models over x s → IsRunAmong other models above x r
      → All IsListed s.replies → All IsListed r.replies → s ≡ r
  unfolding session_of
  one_session budget other over above s r asks run more is too =
      let t = run.0 in
      let u = more.0 in
      let a = run.3 in
      let b = more.3 in
      let same : u.problem ≡ t.problem = one_problem_at one_problem models x u.problem t.problem more.2 run.2 in
      let second = subst (λ (p : Bounded). IsTranscript p (Start other) x.commands b.replies b.floors b.exchanges) same b.transcript in
      let first_listed = recursion_from_All IsListed (all_printed t a.floors a.replies) (subst (λ (z : PrintedSession). All IsListed z.replies) a.is is) in
      let second_listed = recursion_from_All IsListed (all_printed u b.floors b.replies) (subst (λ (z : PrintedSession). All IsListed z.replies) b.is too) in
      let prints = same_prints sound lists t.problem t u (Start budget) (Start other) x.commands a.replies b.replies a.floors b.floors a.exchanges b.exchanges
      (start_reached t.problem budget) (start_reached t.problem other) refl (recursion_from_All AsksForList x.commands asks) a.transcript second first_listed second_listed in
      a.is ∙ ap (λ (p : Bounded). session_of p x.name (all_printed t a.floors a.replies)) (sym same) ∙ ap (λ (rs : List Printed). session_of u.problem x.name rs) prints ∙ sym b.is

sessions_are : (s r : PrintedSession) (ss rs : List PrintedSession) → s ≡ r → ss ≡ rs → s ∷ ss ≡ r ∷ rs
sessions_are s r ss rs e f = ap (λ (z : PrintedSession). z ∷ ss) e ∙ ap (λ (zs : List PrintedSession). r ∷ zs) f

module _ (sound : Sound) (lists : ListsDue) (one_problem : OneProblem) (models : List NamedTree) (budget other : ℕ) (over above : Translations) where
  pub one_list_of_runs : (sessions : List SessionEntry) (runs more : List PrintedSession) → All (λ (x : SessionEntry). All AsksForList x.commands) sessions
      → AllZip (IsRunAmong budget models over) sessions runs → AllZip (IsRunAmong other models above) sessions more
      → All (λ (s : PrintedSession). All IsListed s.replies) runs → All (λ (s : PrintedSession). All IsListed s.replies) more → runs ≡ more
  one_list_of_runs [] [] [] asks a b is too = refl
  one_list_of_runs [] [] (r ∷ more) asks a b is too = absurd b
  one_list_of_runs [] (s ∷ runs) more asks a b is too = absurd a
  one_list_of_runs (x ∷ sessions) [] more asks a b is too = absurd a
  one_list_of_runs (x ∷ sessions) (s ∷ runs) [] asks a b is too = absurd b
  one_list_of_runs (x ∷ sessions) (s ∷ runs) (r ∷ more) asks a b is too =
      let Asks : SessionEntry → Type 0 = λ y. All AsksForList y.commands in
      let Listed : PrintedSession → Type 0 = λ y. All IsListed y.replies in
      sessions_are s r runs more
      (one_session sound lists one_problem models x budget other over above s r (All-head Asks x sessions asks) a.0 b.0 (All-head Listed s runs is) (All-head Listed r more too))
      (one_list_of_runs sessions runs more (All-tail Asks x sessions asks) a.1 b.1 (All-tail Listed s runs is) (All-tail Listed r more too))
