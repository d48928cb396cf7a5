-- Scenarios that one command shows.
use Rattle.std.proofs.Common.{◌≡◌, ◌+◌, ◌==◌, ◌++◌, ℕ, Bool, false, cond, if◌then◌else◌, List, [], ◌∷◌, map, filter, bytes_eq, append-nil, append_assoc, length, length-append, refl, sym, ap, ◌∙◌, subst, arith}
use Rattle.std.proofs.lemmas.Bool.Decides.{nat_tests}
use Rattle.std.proofs.lemmas.List.{map-append}
use Rattle.std.proofs.lemmas.List.Elements.{filter-append}
use Rattle.std.proofs.lemmas.Slice.Eq.{bytes_eq-Decides}
use Rattle.rel_formula.specs.Bounds.{Bounded}
use Rattle.session_words.specs.declared.steps.Step.TheVariants as step
use Rattle.session_rules.specs.States.{State, ShownAt, top_floor, shown_here, after}
use Rattle.session_rules.specs.Steps.{MayAnswer, Exchange, MachineRun, state_after}
use Rattle.session_rules.specs.Transcripts.{showings}
use Rattle.session_rules.specs.declared.answers.Reply.{Reply}
use Rattle.session_rules.specs.declared.answers.Reply.TheVariants as reply
use Rattle.session_rules.proofs.Runs.{states_join, runs_joined}
use Rattle.session_turns.specs.Showing.{next_number, HasShown, IsFirst}

-- one scenario more
abbrev pub asked : Reply → Exchange
asked r = record { step = step.Next; reply = r }

pub showings_more : (first : ℕ) (ss : List (List ℕ)) (s : List ℕ) → showings first (ss ++ s ∷ []) ≡ showings first ss ++ asked (reply.Shown (first + length ss) s) ∷ []
showings_more first [] s = ap (λ n. asked (reply.Shown n s) ∷ []) (omega arith)
showings_more first (x ∷ xs) s =
    ap (λ (es : List Exchange). asked (reply.Shown first x) ∷ es) (showings_more (first + 1) xs s ∙ ap (λ n. showings (first + 1) xs ++ asked (reply.Shown n s) ∷ []) (omega arith))

-- what is shown at the top floor, once one scenario more was
here_more : (s : State) (number : ℕ) (scenario : List ℕ) → shown_here (after s (reply.Shown number scenario)) ≡ shown_here s ++ scenario ∷ []
here_more s number scenario =
    let x : ShownAt = record { floor = top_floor s; scenario = scenario } in
    let here : ShownAt → Bool = λ (y : ShownAt). bytes_eq y.floor (top_floor s) in
    ap (map (λ (y : ShownAt). y.scenario)) (filter-append here s.shown (x ∷ []))
    ∙ map-append (λ (y : ShownAt). y.scenario) (filter here s.shown) (filter here (x ∷ []))
    ∙ ap (λ b. shown_here s ++ map (λ (y : ShownAt). y.scenario) (cond b (x ∷ []) [])) ((bytes_eq-Decides (top_floor s) (top_floor s)).1 refl)

module _ (p : Bounded) (old : State) where
  -- nothing was shown so far
  pub shown_none : HasShown p old [] old
  shown_none = record { run = tt; state = refl; here = sym (append-nil (shown_here old)); floor = refl }

  -- one scenario more was shown
  pub shown_one : (ss : List (List ℕ)) (now new : State) (number : ℕ) (scenario : List ℕ) → HasShown p old ss now → MayAnswer p now step.Next (reply.Shown number scenario) → new ≡ after now (reply.Shown number scenario)
      → HasShown p old (ss ++ scenario ∷ []) new
  shown_one ss now new number scenario has may new_is =
      let first : ℕ = next_number old in
      let one : Exchange = asked (reply.Shown number scenario) in
      let count : number ≡ first + length ss = let l = length-append (shown_here old) ss in omega (arith, may.place, ap (λ (xs : List (List ℕ)). length xs) has.here) in
      let joined : showings first (ss ++ scenario ∷ []) ≡ showings first ss ++ one ∷ [] = showings_more first ss scenario ∙ ap (λ n. showings first ss ++ asked (reply.Shown n scenario) ∷ []) (sym count) in
      let here : MayAnswer p (state_after old (showings first ss)) step.Next (reply.Shown number scenario) = subst (λ (s : State). MayAnswer p s step.Next (reply.Shown number scenario)) has.state may in
      record {
        run = subst (MachineRun p old) (sym joined) (runs_joined p old (showings first ss) (one ∷ []) has.run (here, tt));
        state = new_is ∙ ap (λ (s : State). after s (reply.Shown number scenario)) has.state ∙ sym (states_join old (showings first ss) (one ∷ [])) ∙ ap (state_after old) (sym joined);
        here = ap shown_here new_is ∙ here_more now number scenario ∙ ap (λ (xs : List (List ℕ)). xs ++ scenario ∷ []) has.here ∙ append_assoc (shown_here old) ss (scenario ∷ []);
        floor = ap top_floor new_is ∙ has.floor;
      }

  -- the number of the first
  pub first_stays : (ss : List (List ℕ)) (x : List ℕ) (number first new : ℕ) → number ≡ next_number old + length ss → IsFirst old ss first → new ≡ (if length ss == 0 then number else first) → IsFirst old (ss ++ x ∷ []) new
  first_stays [] x number first new count is new_is = omega (arith, count, new_is)
  first_stays (y ∷ ys) x number first new count is new_is =
      let not_none : (length (y ∷ ys) == 0) ≡ false = grind (arith, nat_tests) in
      new_is ∙ ap (λ b. if b then number else first) not_none ∙ is

  pub number_is : (ss : List (List ℕ)) (now : State) (number : ℕ) (scenario : List ℕ) → HasShown p old ss now → MayAnswer p now step.Next (reply.Shown number scenario) → number ≡ next_number old + length ss
  number_is ss now number scenario has may = let l = length-append (shown_here old) ss in omega (arith, may.place, ap (λ (xs : List (List ℕ)). length xs) has.here)
