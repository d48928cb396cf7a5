-- What is printed of the runs of a script can be told apart.
use Rattle.std.proofs.Common.{◌≡◌, ◌≢◌, inl, inr, ℕ, ◌+◌, ◌<◌, ◌≤◌, ◌^◌, ◌==◌, Bool, true, false, if◌then◌else◌, List, [], ◌∷◌, ◌++◌, map, filter, length, get_or, codes, decimal, bytes_eq, All, AllPairs, Contains, refl, sym, ap, ◌∙◌, subst, arith, length-append}
use Rattle.std.specs.List.{AllZip, AllByRecursion}
use Rattle.std.proofs.lemmas.Bool.{cases_Bool, eq-eqb}
use Rattle.std.proofs.lemmas.List.{length-map}
use Rattle.std.proofs.lemmas.List.Elements.{All-nil, All-cons, All-append, All-contains, All-contains_itself, All-weaker, Contains-append_right}
use Rattle.std.proofs.lemmas.List.Elements.{recursion_from_All, All-from_recursion}
use Rattle.cnf_core.specs.declared.literal.Lit.{Lit}
use Rattle.cnf_core.specs.Literal.{IsClause}
use Rattle.refutation_check.specs.declared.log.Step.{Step as LogStep}
use Rattle.refutation_check.specs.ProofText.{IsDigit}
use Rattle.rel_formula.specs.Bounds.{Bounded, cells_of}
use Rattle.rel_formula.specs.Instance.{IsScenario}
use Rattle.rel_formula.proofs.Counts.{no_longer}
use Rattle.rel_formula.proofs.OneSetOfAtoms.{filter_shorter}
use Rattle.rel_formula.proofs.WithCell.{all_of}
use Rattle.swap_symmetry.specs.Due.{IsDue}
use Rattle.swap_symmetry.specs.Order.{IsEarlier}
use Rattle.translation_rules.specs.Translation.{Translated}
use Rattle.translation_rules.proofs.Locals.Cells.{few_cells}
use Rattle.session_words.specs.declared.steps.Step.{Step}
use Rattle.session_words.specs.declared.steps.Step.TheVariants as step
use Rattle.session_words.specs.declared.commands.Command.{Command}
use Rattle.session_words.specs.declared.commands.Command.TheVariants as command
use Rattle.session_rules.specs.ProofOfEnd.{ProofOfEnd}
use Rattle.session_rules.specs.States.{State, Start, ShownAt, top_floor, shown_at, shown_here, has_ended, after}
use Rattle.session_rules.specs.Steps.{MayAnswer, Exchange, MachineRun, IsReached, state_after}
use Rattle.session_rules.specs.Sound.{IsSound}
use Rattle.session_rules.specs.Transcripts.{showings, ComesTo, ListsShown, Serves, IsTranscript}
use Rattle.session_rules.specs.declared.end_proof.ProofKind.TheVariants.{End}
use Rattle.session_rules.specs.declared.answers.Refusal.{Refusal}
use Rattle.session_rules.specs.declared.answers.Refusal.TheVariants as refusal
use Rattle.session_rules.specs.declared.answers.Reply.{Reply}
use Rattle.session_rules.specs.declared.answers.Reply.TheVariants as reply
use Rattle.session_rules.proofs.Runs.{states_join, runs_apart}
use Rattle.named_model.specs.Model.{NamedTree}
use Rattle.script_format.specs.declared.entries.SessionEntry.{SessionEntry}
use Rattle.script_format.specs.Limits.{IsAllowed, asked_by}
use Rattle.script_format.specs.Reading.{asks}
use Rattle.script_text.specs.Asked.{AsksForSome}
use Rattle.script_text.specs.Printed.{printed, all_printed, refusal_words}
use Rattle.script_text.specs.Printable.{IsWritable, IsSmallStep, IsProper, MayPrint, IsPrintedFor, AreAlike}
use Rattle.script_text.specs.Proofs.Printed.{clauses_of_proof, log_of_proof}
use Rattle.script_text.specs.Replies.{PrintedSession, PrintsCheckableProof}
use Rattle.script_text.proofs.Cuts.{digits_written}
use Rattle.session_turns.proofs.Stepping.{shows_few}
use Rattle.explorer_cli.specs.Runs.{IsProblemAt, Translations, IsRunAmong}
use Rattle.explorer_cli.proofs.Problems.{OneProblem, one_problem_at}
use Rattle.explorer_cli.proofs.ShowingReplies.{reached_on, showings_here}

-- ---- words without a line feed

abbrev feedless : List ℕ → Bool
feedless [] = true
feedless (b ∷ bs) = if b == 10 then false else feedless bs

plain : (bs : List ℕ) → feedless bs ≡ true → All (λ b. b ≢ 10) bs
plain [] e = All-nil (λ b. b ≢ 10)
plain (b ∷ bs) e = elim (cases_Bool (b == 10)) [
  | inl feed ↦ absurd (let no : false ≡ true = subst (λ (x : Bool). (if x then false else feedless bs) ≡ true) feed e in cc)
  | inr other ↦ All-cons (λ b. b ≢ 10) b bs (λ same. let yes = eq-eqb b 10 same in let no : true ≡ false = sym yes ∙ other in absurd (cc)) (plain bs (subst (λ (x : Bool). (if x then false else feedless bs) ≡ true) other e))
]

plain_digits : (bs : List ℕ) → AllByRecursion IsDigit bs → AllByRecursion (λ b. b ≢ 10) bs
plain_digits [] all = tt
plain_digits (b ∷ bs) all = ((λ e. let l = all.0.0 in omega arith), plain_digits bs all.1)

-- the budget of a refusal is small
abbrev HasSmallBudget : Refusal → Type 0
HasSmallBudget (refusal.Spent work) = work.budget ≤ 100000
HasSmallBudget r = Unit {0}

words_plain : (r : Refusal) → HasSmallBudget r → All (λ b. b ≢ 10) (refusal_words r)
words_plain refusal.NoScenario few = plain (codes "no_scenario") refl
words_plain refusal.UnknownTuple few = plain (codes "unknown_tuple") refl
words_plain refusal.Present few = plain (codes "present") refl
words_plain (refusal.NoInstance proof) few = plain (codes "no_instance") refl
words_plain refusal.Bottom few = plain (codes "bottom") refl
words_plain refusal.Deep few = plain (codes "deep") refl
words_plain (refusal.Spent work) few =
    All-append (λ b. b ≢ 10) (codes "spent ") (decimal work.budget) (plain (codes "spent ") refl)
    (All-from_recursion (λ b. b ≢ 10) (decimal work.budget) (plain_digits (decimal work.budget) (digits_written work.budget (omega arith))))
words_plain refusal.NoEnd few = plain (codes "no_end") refl

refused_small : (p : Bounded) (s : State) (x : Step) (r : Refusal) → s.budget ≤ 100000 → MayAnswer p s x (reply.Refused r) → HasSmallBudget r
refused_small p s x (refusal.Spent work) few may = let e = may.0 in omega arith
refused_small p s x refusal.NoScenario few may = tt
refused_small p s x refusal.UnknownTuple few may = tt
refused_small p s x refusal.Present few may = tt
refused_small p s x (refusal.NoInstance proof) few may = tt
refused_small p s x refusal.Bottom few may = tt
refused_small p s x refusal.Deep few may = tt
refused_small p s x refusal.NoEnd few may = tt

-- ---- how much is shown, and the budget

shown_few : (s : State) → length (shown_here s) ≤ length s.shown
shown_few s =
    let here : ShownAt → Bool = λ x. bytes_eq x.floor (top_floor s) in
    let less = filter_shorter here s.shown in
    let same = length-map (filter here s.shown) (λ (x : ShownAt). x.scenario) in
    omega arith

showings_count : (s : State) (n : ℕ) (ss : List (List ℕ)) → length (state_after s (showings n ss)).shown ≡ length s.shown + length ss
showings_count s n [] = omega arith
showings_count s n (x ∷ ss) =
    let one = length-append s.shown (record { floor = top_floor s; scenario = x } ∷ []) in
    let rest = showings_count (after s (reply.Shown n x)) (n + 1) ss in
    omega arith

showings_budget : (s : State) (n : ℕ) (ss : List (List ℕ)) → (state_after s (showings n ss)).budget ≡ s.budget
showings_budget s n [] = refl
showings_budget s n (x ∷ ss) = showings_budget (after s (reply.Shown n x)) (n + 1) ss

abbrev ended_by : State → ProofOfEnd → State
ended_by s proof = record s { ended = s.ended ++ record { floor = top_floor s; proof = proof } ∷ [] }

budget_after : (p : Bounded) (s : State) (x : Step) (r : Reply) → IsAllowed (command.Step x) → MayAnswer p s x r → s.budget ≤ 100000 → (after s r).budget ≤ 100000
budget_after p s (step.Budget asked) (reply.BudgetSet budget) allowed may few = let e = may in omega arith
budget_after p s step.Next (reply.BudgetSet budget) allowed may few = absurd may
budget_after p s step.Offers (reply.BudgetSet budget) allowed may few = absurd may
budget_after p s (step.Augment name names) (reply.BudgetSet budget) allowed may few = absurd may
budget_after p s step.Back (reply.BudgetSet budget) allowed may few = absurd may
budget_after p s step.Proof (reply.BudgetSet budget) allowed may few = absurd may
budget_after p s x (reply.End number proof) allowed may few =
    elim (has_ended (top_floor s) s) as (λ b. (if b then s else ended_by s proof).budget ≤ 100000) [ true ↦ few | false ↦ few ]
budget_after p s x (reply.Shown number scenario) allowed may few = few
budget_after p s x (reply.Offers cells) allowed may few = few
budget_after p s x (reply.Augmented floor) allowed may few = few
budget_after p s x reply.Back allowed may few = few
budget_after p s x (reply.All scenarios) allowed may few = few
budget_after p s x (reply.Partly first scenarios) allowed may few = few
budget_after p s x (reply.Proof proof) allowed may few = few
budget_after p s x (reply.Refused why) allowed may few = few
budget_after p s x reply.Memory allowed may few = few

-- scenarios, and then one step more
record IsLast (p : Bounded) (s : State) (n : ℕ) (r : Reply) (xs : List Exchange) : Type 0 where
  pub comes : ComesTo n r xs
  pub may : MayAnswer p (state_after s (showings comes.first comes.scenarios)) step.Next r
  pub state_is : state_after s xs ≡ after (state_after s (showings comes.first comes.scenarios)) r

last_of : (p : Bounded) (s : State) (n : ℕ) (r : Reply) (xs : List Exchange) → ComesTo n r xs → MachineRun p s xs → IsLast p s n r xs
last_of p s n r xs comes run =
    let last : Exchange = record { step = step.Next; reply = r } in
    let before = showings comes.first comes.scenarios in
    let apart = runs_apart p s before (last ∷ []) (subst (MachineRun p s) comes.exchanges run) in
    record { comes = comes; may = apart.1.0; state_is = ap (state_after s) comes.exchanges ∙ states_join s before (last ∷ []) }

-- after a command no more was shown than it asks for, and the budget is small
record IsWithin (s : State) (n : ℕ) (new : State) : Type 0 where
  pub shown : length new.shown ≤ length s.shown + n
  pub budget : new.budget ≤ 100000

within_last : (p : Bounded) (s : State) (n : ℕ) (r : Reply) (xs : List Exchange) → s.budget ≤ 100000 → IsLast p s n r xs → IsWithin s n (state_after s xs)
within_last p s n r xs few last =
    let mid = state_after s (showings last.comes.first last.comes.scenarios) in
    let count = showings_count s last.comes.first last.comes.scenarios in
    let more = shows_few p mid step.Next r last.may in
    let less = last.comes.few in
    let same = showings_budget s last.comes.first last.comes.scenarios in
    subst (IsWithin s n) (sym last.state_is) (record { shown = omega arith; budget = budget_after p mid step.Next r tt last.may (omega arith) })

within : (p : Bounded) (s : State) (c : Command) (r : Reply) (xs : List Exchange) → IsAllowed c → s.budget ≤ 100000 → Serves p s c r xs → IsWithin s (asks c) (state_after s xs)
within p s (command.Step x) r xs allowed few h =
    let run = subst (MachineRun p s) h.read h.run in
    subst (λ (ys : List Exchange). IsWithin s (asks (command.Step x)) (state_after s ys)) (sym h.read)
    (record { shown = shows_few p s x r run.0; budget = budget_after p s x r allowed run.0 few })
within p s (command.All n) (reply.All scenarios) xs allowed few h = within_last p s n (reply.End h.read.0.number h.read.0.proof) xs few (last_of p s n (reply.End h.read.0.number h.read.0.proof) xs h.read.0.comes h.run)
within p s (command.All n) (reply.Partly first scenarios) xs allowed few h =
    let count = showings_count s first scenarios in
    let same = showings_budget s first scenarios in
    let asked = h.read.0 in
    subst (λ (ys : List Exchange). IsWithin s n (state_after s ys)) (sym h.read.1) (record { shown = omega arith; budget = omega arith })
within p s (command.All n) (reply.Refused why) xs allowed few h = within_last p s n (reply.Refused why) xs few (last_of p s n (reply.Refused why) xs h.read h.run)
within p s (command.All n) reply.Memory xs allowed few h = elim h.read [
  | inl comes ↦ within_last p s n reply.Memory xs few (last_of p s n reply.Memory xs comes h.run)
  | inr ends ↦ within_last p s n (reply.End ends.number ends.proof) xs few (last_of p s n (reply.End ends.number ends.proof) xs ends.comes h.run)
]
within p s (command.All n) (reply.Shown number scenario) xs allowed few h = absurd h.read
within p s (command.All n) (reply.End number proof) xs allowed few h = absurd h.read
within p s (command.All n) (reply.Offers cells) xs allowed few h = absurd h.read
within p s (command.All n) (reply.Augmented floor) xs allowed few h = absurd h.read
within p s (command.All n) reply.Back xs allowed few h = absurd h.read
within p s (command.All n) (reply.BudgetSet budget) xs allowed few h = absurd h.read
within p s (command.All n) (reply.Proof proof) xs allowed few h = absurd h.read

-- ---- what is printed of one reply

differ : (ss : List (List ℕ)) → AllPairs IsEarlier ss → AllPairs (λ x y. x ≢ y) ss
differ ss sorted i j d l m same = let e = sorted i j d l m in e.2 (subst (λ (z : List ℕ). Contains z e.0) same e.1)

small_clauses : (cs : List (List Lit)) → All IsClause cs → All (All (λ (l : Lit). (1 ≤ l.var) × (l.var < 2 ^ 64))) cs
small_clauses cs all i d l k e m = let v = (all i d l).variables k e m in (v.0, let below = v.1 in omega arith)

small_steps : (ss : List LogStep) → All (λ (s : LogStep). IsClause s.clause) ss → All (λ (s : LogStep). All (λ hint. (1 ≤ hint) × (hint ≤ 2147483647)) s.hints) ss → All IsSmallStep ss
small_steps ss clauses hints i d l = (
  λ k e m. let v = (clauses i d l).variables k e m in (v.0, let below = v.1 in omega arith),
  λ k e m. let v = hints i d l k e m in (v.0, let below = v.1 in omega arith),
)

so_many : (cs : List (List Lit)) (ss : List LogStep) → length cs < 2 ^ 30 → length ss < 2 ^ 30 → length cs + length ss < 2 ^ 64
so_many cs ss few less = omega arith

module _ (p : Bounded) (t : Translated) (cells : length (cells_of p) ≤ 4096) (f : List ℕ) (s : State) (sound : IsSound p s) (few : length s.shown ≤ 20000) (budget : s.budget ≤ 100000) where
  proper_step : (x : Step) (r : Reply) → MayAnswer p s x r → IsAllowed (command.Step x) → PrintsCheckableProof t f r → IsProper p (printed t f r)
  proper_step x (reply.Refused why) may allowed checkable = words_plain why (refused_small p s x why budget may)
  proper_step x reply.Memory may allowed checkable = tt
  proper_step step.Next (reply.Shown number scenario) may allowed checkable = (let e = may.place in let l = shown_few s in omega arith, may.due.minimal.instance_of.scenario)
  proper_step step.Next (reply.End number proof) may allowed checkable = let e = may.0 in let l = shown_few s in omega arith
  proper_step step.Offers (reply.Offers offered) may allowed checkable =
      let all = all_of (λ n. n < length (cells_of p)) offered (λ n c. ((may.offers.exactly n).0 c).in_range) in
      let count = few_cells (length (cells_of p)) offered may.offers.rising all in
      (all, omega arith)
  proper_step (step.Augment name names) (reply.Augmented floor) may allowed checkable = tt
  proper_step step.Back reply.Back may allowed checkable = tt
  proper_step (step.Budget asked) (reply.BudgetSet set) may allowed checkable = let e = may in omega arith
  proper_step step.Proof (reply.Proof proof) may allowed checkable =
      let clauses = clauses_of_proof t f End proof in
      let log = log_of_proof t f End proof in
      (so_many clauses log checkable.formula.few checkable.log.few, small_clauses clauses checkable.formula.clauses, small_steps log checkable.log.clauses checkable.hints)
  proper_step x r may allowed checkable = absurd may

  module _ (xs : List Exchange) (now : IsSound p (state_after s xs)) (less : length (state_after s xs).shown ≤ 20000) where
    proper_list : (scenarios : List (List ℕ)) → ListsShown (state_after s xs) scenarios → All (IsScenario p) scenarios × (length scenarios < 2 ^ 63)
    proper_list scenarios lists =
        let new = state_after s xs in
        let shown : (x : List ℕ) → Contains scenarios x → IsScenario p x = λ x c. (All-contains (IsDue p (top_floor new)) (shown_here new) x (now.due (top_floor new)) ((lists.same x).0 c)).minimal.instance_of.scenario in
        let count = no_longer scenarios (shown_here new) (differ scenarios lists.sorted) (λ x c. (lists.same x).0 c) in
        let most = shown_few new in
        (All-weaker (Contains scenarios) (IsScenario p) shown scenarios (All-contains_itself scenarios), omega arith)

    proper_part : (n first : ℕ) (scenarios : List (List ℕ)) → 1 ≤ n → n ≤ 1000 → length scenarios ≡ n → xs ≡ showings first scenarios → MachineRun p s (showings first scenarios) → (first < 2 ^ 63) × (length scenarios < 2 ^ 63) × All (IsScenario p) scenarios
    proper_part n first [] some most count is run = absurd (omega arith)
    proper_part n first (y ∷ ys) some most count is run =
        let here = showings_here s first (y ∷ ys) in
        let due = subst (λ (zs : List Exchange). All (IsDue p (top_floor s)) (shown_at (top_floor s) (state_after s zs))) is (now.due (top_floor s)) in
        let all : All (IsDue p (top_floor s)) (shown_at (top_floor s) s ++ y ∷ ys) = subst (All (IsDue p (top_floor s))) here due in
        let scenario : (x : List ℕ) → Contains (y ∷ ys) x → IsScenario p x =
        λ x c. (All-contains (IsDue p (top_floor s)) (shown_at (top_floor s) s ++ y ∷ ys) x all (Contains-append_right (shown_at (top_floor s) s) (y ∷ ys) x c)).minimal.instance_of.scenario in (
          let e = run.0.place in let l = shown_few s in omega arith,
          omega arith,
          All-weaker (Contains (y ∷ ys)) (IsScenario p) scenario (y ∷ ys) (All-contains_itself (y ∷ ys)),
        )

    proper_all : (n : ℕ) (r : Reply) → IsAllowed (command.All n) → Serves p s (command.All n) r xs → IsProper p (printed t f r)
    proper_all n (reply.All scenarios) allowed h = proper_list scenarios h.read.1
    proper_all n (reply.Partly first scenarios) allowed h = proper_part n first scenarios allowed.0 allowed.1 h.read.0 h.read.1 (subst (MachineRun p s) h.read.1 h.run)
    proper_all n (reply.Refused why) allowed h =
        let last = last_of p s n (reply.Refused why) xs h.read h.run in
        let same = showings_budget s last.comes.first last.comes.scenarios in
        words_plain why (refused_small p (state_after s (showings last.comes.first last.comes.scenarios)) step.Next why (omega arith) last.may)
    proper_all n reply.Memory allowed h = tt
    proper_all n (reply.Shown number scenario) allowed h = absurd h.read
    proper_all n (reply.End number proof) allowed h = absurd h.read
    proper_all n (reply.Offers offered) allowed h = absurd h.read
    proper_all n (reply.Augmented floor) allowed h = absurd h.read
    proper_all n reply.Back allowed h = absurd h.read
    proper_all n (reply.BudgetSet set) allowed h = absurd h.read
    proper_all n (reply.Proof proof) allowed h = absurd h.read

    proper_one : (c : Command) (r : Reply) → IsAllowed c → Serves p s c r xs → PrintsCheckableProof t f r → IsProper p (printed t f r)
    proper_one (command.Step x) r allowed h checkable = let run = subst (MachineRun p s) h.read h.run in proper_step x r run.0 allowed checkable
    proper_one (command.All n) r allowed h checkable = proper_all n r allowed h

-- ---- what is printed of a session

module _ (sound : (p : Bounded) (s : State) → IsReached p s → IsSound p s) (p : Bounded) (t : Translated) (cells : length (cells_of p) ≤ 4096) where
  pub proper_replies : (old : State) (cs : List Command) (rs : List Reply) (fs : List (List ℕ)) (xs : List Exchange) → IsReached p old → length old.shown + asked_by cs ≤ 20000 → old.budget ≤ 100000
      → AllByRecursion IsAllowed cs → IsTranscript p old cs rs fs xs → AllZip (PrintsCheckableProof t) fs rs → AllByRecursion (IsProper p) (all_printed t fs rs)
  proper_replies old [] [] [] xs reached few budget allowed h checkable = tt
  proper_replies old [] [] (f ∷ fs) xs reached few budget allowed h checkable = absurd h
  proper_replies old [] (r ∷ rs) fs xs reached few budget allowed h checkable = absurd h
  proper_replies old (c ∷ cs) [] fs xs reached few budget allowed h checkable = absurd h
  proper_replies old (c ∷ cs) (r ∷ rs) [] xs reached few budget allowed h checkable = absurd h
  proper_replies old (c ∷ cs) (r ∷ rs) (f ∷ fs) xs reached few budget allowed (here, later, joined, floor, serves, rest) checkable =
      let new = state_after old here in
      let grown = within p old c r here allowed.0 budget serves in
      let more = grown.shown in
      let next = reached_on p old here reached serves.run in (
        proper_one p t cells f old (sound p old reached) (omega arith) budget here (sound p new next) (omega arith) c r allowed.0 serves checkable.0,
        proper_replies new cs rs fs later next (omega arith) grown.budget allowed.1 rest checkable.1,
      )

asks_some : (c : Command) → IsAllowed c → AsksForSome c
asks_some (command.All n) allowed = allowed.0
asks_some (command.Step x) allowed = tt

-- what the law of transcripts says, as it is used here
abbrev pub MayBePrinted : Type 0
MayBePrinted = (p : Bounded) (t : Translated) (old : State) (commands : List Command) (replies : List Reply) (floors : List (List ℕ)) (xs : List Exchange) → All AsksForSome commands
    → IsTranscript p old commands replies floors xs → AllZip MayPrint commands (all_printed t floors replies)

-- a session whose limits are kept, and whose problem can be written
pub record IsFit (models : List NamedTree) (x : SessionEntry) : Type 0 where
  pub allowed : All IsAllowed x.commands
  pub few : asked_by x.commands ≤ 20000
  pub writable : (p : Bounded) → IsProblemAt models x p → IsWritable p

abbrev pub commands_of : List SessionEntry → List (List Command)
commands_of sessions = map (λ (x : SessionEntry). x.commands) sessions

module _ (sound : (p : Bounded) (s : State) → IsReached p s → IsSound p s) (may_print : MayBePrinted) (one_problem : OneProblem) (models : List NamedTree) where
  printed_on : (budget : ℕ) (over : Translations) (x : SessionEntry) (s : PrintedSession) → budget ≤ 100000 → IsFit models x → IsRunAmong budget models over x s → IsPrintedFor x.commands s
  printed_on budget over x s small fit run =
      let t = run.0 in
      let on = run.3 in
      let writable = fit.writable t.problem run.2 in
      let few = fit.few in
      let start : IsReached t.problem (Start budget) = record { budget = budget; exchanges = []; run = tt; state = refl } in
      let proper = proper_replies sound t.problem t writable.problem.few_cells (Start budget) x.commands on.replies on.floors on.exchanges start (omega arith) small
      (recursion_from_All IsAllowed x.commands fit.allowed) on.transcript on.checkable in
      subst (IsPrintedFor x.commands) (sym on.is) (record {
        writable = writable;
        each = may_print t.problem t (Start budget) x.commands on.replies on.floors on.exchanges (λ k d l. asks_some (get_or x.commands k d) (fit.allowed k d l)) on.transcript;
        proper = All-from_recursion (IsProper t.problem) (all_printed t on.floors on.replies) proper;
      })

  alike : (budget other : ℕ) (over above : Translations) (x : SessionEntry) (s r : PrintedSession) → IsRunAmong budget models over x s → IsRunAmong other models above x r → AreAlike s r
  alike budget other over above x s r run more = record {
    problem = ap (λ (z : PrintedSession). z.problem) run.3.is ∙ one_problem_at one_problem models x run.0.problem more.0.problem run.2 more.2 ∙ sym (ap (λ (z : PrintedSession). z.problem) more.3.is);
    name = ap (λ (z : PrintedSession). z.name) run.3.is ∙ sym (ap (λ (z : PrintedSession). z.name) more.3.is);
  }

  pub all_printed_for : (budget : ℕ) (over : Translations) → budget ≤ 100000 → (sessions : List SessionEntry) (runs : List PrintedSession) → AllByRecursion (IsFit models) sessions → AllZip (IsRunAmong budget models over) sessions runs → AllZip IsPrintedFor (commands_of sessions) runs
  all_printed_for budget over small [] [] fit zip = tt
  all_printed_for budget over small [] (s ∷ runs) fit zip = absurd zip
  all_printed_for budget over small (x ∷ sessions) [] fit zip = absurd zip
  all_printed_for budget over small (x ∷ sessions) (s ∷ runs) fit zip = (printed_on budget over x s small fit.0 zip.0, all_printed_for budget over small sessions runs fit.1 zip.1)

  pub all_alike : (budget other : ℕ) (over above : Translations) (sessions : List SessionEntry) (runs more : List PrintedSession) → AllZip (IsRunAmong budget models over) sessions runs → AllZip (IsRunAmong other models above) sessions more → AllZip AreAlike runs more
  all_alike budget other over above [] [] [] a b = tt
  all_alike budget other over above [] [] (r ∷ more) a b = absurd b
  all_alike budget other over above [] (s ∷ runs) more a b = absurd a
  all_alike budget other over above (x ∷ sessions) [] more a b = absurd a
  all_alike budget other over above (x ∷ sessions) (s ∷ runs) [] a b = absurd b
  all_alike budget other over above (x ∷ sessions) (s ∷ runs) (r ∷ more) a b = (alike budget other over above x s r a.0 b.0, all_alike budget other over above sessions runs more a.1 b.1)
