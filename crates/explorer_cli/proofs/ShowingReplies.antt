-- What replies show, and what exchanges leave of what was shown.
use Rattle.std.proofs.Common.{◌≡◌, ◌≢◌, ◌⊎◌, inl, inr, ℕ, suc, ◌+◌, Bool, true, false, cond, if◌then◌else◌, List, [], ◌∷◌, ◌++◌, map, filter, length, AllPairs, Contains, refl, sym, ◌∙◌, ap, subst, arith, append_assoc}
use Rattle.std.specs.Prelude.{bytes_eq}
use Rattle.std.proofs.lemmas.List.{append-nil, map-append}
use Rattle.std.proofs.lemmas.List.Elements.{filter-append, All-contains, Contains-append_left, Contains-append_right, Contains-push, Contains-push_cases}
use Rattle.std.proofs.lemmas.Slice.Eq.{bytes_eq-Decides}
use Rattle.rel_formula.specs.Bounds.{Bounded}
use Rattle.rel_formula.proofs.OpenCells.{cons_cases}
use Rattle.swap_symmetry.specs.Due.{IsDue}
use Rattle.swap_symmetry.specs.Order.{IsEarlier}
use Rattle.session_words.specs.declared.atom_names.AtomName.{AtomName}
use Rattle.session_words.specs.declared.steps.Step.{Step}
use Rattle.session_words.specs.declared.steps.Step.TheVariants as step
use Rattle.session_words.specs.declared.commands.Command.{Command}
use Rattle.session_words.specs.declared.commands.Command.TheVariants as command
use Rattle.session_rules.specs.ProofOfEnd.{ProofOfEnd}
use Rattle.translation_rules.proofs.Tests.{has_any}
use Rattle.session_rules.specs.States.{State, Start, ShownAt, EndedAt, top_floor, shown_at, shown_here, has_ended, HasEndedWith, after}
use Rattle.session_rules.specs.Steps.{ShowsNext, EndsNow, OffersCells, Augments, AsksImpossible, MayAnswer, Exchange, MachineRun, IsReached, state_after}
use Rattle.session_rules.specs.Sound.{IsSound}
use Rattle.session_rules.specs.Transcripts.{showings, ComesToEnd, Serves}
use Rattle.session_rules.specs.declared.answers.Refusal.TheVariants.{NoInstance}
use Rattle.session_rules.specs.declared.answers.Reply.{Reply}
use Rattle.session_rules.proofs.Runs.{states_join, runs_joined, runs_apart, shown_more}
use Rattle.session_rules.specs.declared.answers.Reply.TheVariants as reply
use Rattle.explorer_cli.specs.Shown.{Shows, ShowsNew, IsFailure}

-- ---- what a step's reply may be

shows_next : (p : Bounded) (s : State) (x : Step) (number : ℕ) (scenario : List ℕ) → MayAnswer p s x (reply.Shown number scenario) → ShowsNext p s number scenario
shows_next p s step.Next number scenario may = may
shows_next p s step.Offers number scenario may = absurd may
shows_next p s (step.Augment relation tuple) number scenario may = absurd may
shows_next p s step.Back number scenario may = absurd may
shows_next p s (step.Budget budget) number scenario may = absurd may
shows_next p s step.Proof number scenario may = absurd may

ends_next : (p : Bounded) (s : State) (x : Step) (number : ℕ) (proof : ProofOfEnd) → MayAnswer p s x (reply.End number proof) → (number ≡ length (shown_here s)) × (HasEndedWith s proof ⊎ EndsNow p s)
ends_next p s step.Next number proof may = may
ends_next p s step.Offers number proof may = absurd may
ends_next p s (step.Augment relation tuple) number proof may = absurd may
ends_next p s step.Back number proof may = absurd may
ends_next p s (step.Budget budget) number proof may = absurd may
ends_next p s step.Proof number proof may = absurd may

offers_next : (p : Bounded) (s : State) (x : Step) (cells : List ℕ) → MayAnswer p s x (reply.Offers cells) → OffersCells p s cells
offers_next p s step.Next cells may = absurd may
offers_next p s step.Offers cells may = may
offers_next p s (step.Augment relation tuple) cells may = absurd may
offers_next p s step.Back cells may = absurd may
offers_next p s (step.Budget budget) cells may = absurd may
offers_next p s step.Proof cells may = absurd may

no_list : (p : Bounded) (s : State) (x : Step) (scenarios : List (List ℕ)) → MayAnswer p s x (reply.All scenarios) → ⊥
no_list p s step.Next scenarios may = may
no_list p s step.Offers scenarios may = may
no_list p s (step.Augment relation tuple) scenarios may = may
no_list p s step.Back scenarios may = may
no_list p s (step.Budget budget) scenarios may = may
no_list p s step.Proof scenarios may = may

no_part : (p : Bounded) (s : State) (x : Step) (first : ℕ) (scenarios : List (List ℕ)) → MayAnswer p s x (reply.Partly first scenarios) → ⊥
no_part p s step.Next first scenarios may = may
no_part p s step.Offers first scenarios may = may
no_part p s (step.Augment relation tuple) first scenarios may = may
no_part p s step.Back first scenarios may = may
no_part p s (step.Budget budget) first scenarios may = may
no_part p s step.Proof first scenarios may = may

-- the reply to a step is one that the machine may have
answered : (p : Bounded) (s : State) (x : Step) (r : Reply) (xs : List Exchange) → Serves p s (command.Step x) r xs → MayAnswer p s x r
answered p s x r xs h = let run = subst (MachineRun p s) h.read h.run in run.0

-- ---- runs, one after the other

pub reached_on : (p : Bounded) (s : State) (xs : List Exchange) → IsReached p s → MachineRun p s xs → IsReached p (state_after s xs)
reached_on p s xs r run = record {
  budget = r.budget;
  exchanges = r.exchanges ++ xs;
  run = runs_joined p (Start r.budget) r.exchanges xs r.run (subst (λ (t : State). MachineRun p t xs) r.state run);
  state = ap (λ (t : State). state_after t xs) r.state ∙ sym (states_join (Start r.budget) r.exchanges xs);
}

-- ---- what was shown stays shown

-- what was shown at a floor, where one more was shown
more : (at : List ℕ) (s : State) (x : ShownAt) → shown_at at (record s { shown = s.shown ++ x ∷ [] }) ≡ shown_at at s ++ map (λ (y : ShownAt). y.scenario) (filter (λ (y : ShownAt). bytes_eq y.floor at) (x ∷ []))
more at s x =
    let test : ShownAt → Bool = λ y. bytes_eq y.floor at in
    ap (map (λ (y : ShownAt). y.scenario)) (filter-append test s.shown (x ∷ [])) ∙ map-append (λ (y : ShownAt). y.scenario) (filter test s.shown) (filter test (x ∷ []))

abbrev ended_by : State → ProofOfEnd → State
ended_by s proof = record s { ended = s.ended ++ record { floor = top_floor s; proof = proof } ∷ [] }

stays : (s : State) (r : Reply) (at x : List ℕ) → Contains (shown_at at s) x → Contains (shown_at at (after s r)) x
stays s (reply.Shown number scenario) at x c =
    let new : ShownAt = record { floor = top_floor s; scenario = scenario } in
    subst (λ (zs : List (List ℕ)). Contains zs x) (sym (more at s new))
    (Contains-append_left (shown_at at s) (map (λ (y : ShownAt). y.scenario) (filter (λ (y : ShownAt). bytes_eq y.floor at) (new ∷ []))) x c)
stays s (reply.End number proof) at x c = elim (has_ended (top_floor s) s) as (λ b. Contains (shown_at at (if b then s else ended_by s proof)) x) [ true ↦ c | false ↦ c ]
stays s (reply.Offers cells) at x c = c
stays s (reply.Augmented floor) at x c = c
stays s reply.Back at x c = c
stays s (reply.BudgetSet budget) at x c = c
stays s (reply.All scenarios) at x c = c
stays s (reply.Partly first scenarios) at x c = c
stays s (reply.Proof proof) at x c = c
stays s (reply.Refused refusal) at x c = c
stays s reply.Memory at x c = c

pub kept : (s : State) (xs : List Exchange) (at x : List ℕ) → Contains (shown_at at s) x → Contains (shown_at at (state_after s xs)) x
kept s [] at x c = c
kept s (e ∷ es) at x c = kept (after s e.reply) es at x (stays s e.reply at x c)

-- ---- scenarios that are shown one after the other

one_here : (s : State) (number : ℕ) (scenario : List ℕ) → shown_at (top_floor s) (after s (reply.Shown number scenario)) ≡ shown_at (top_floor s) s ++ scenario ∷ []
one_here s number scenario =
    let new : ShownAt = record { floor = top_floor s; scenario = scenario } in
    let same : bytes_eq (top_floor s) (top_floor s) ≡ true = (bytes_eq-Decides (top_floor s) (top_floor s)).1 refl in
    more (top_floor s) s new ∙ ap (λ (b : Bool). shown_at (top_floor s) s ++ map (λ (y : ShownAt). y.scenario) (cond b (new ∷ []) [])) same

pub top_showings : (s : State) (n : ℕ) (ss : List (List ℕ)) → top_floor (state_after s (showings n ss)) ≡ top_floor s
top_showings s n [] = refl
top_showings s n (x ∷ ss) = top_showings (after s (reply.Shown n x)) (n + 1) ss

pub showings_here : (s : State) (n : ℕ) (ss : List (List ℕ)) → shown_at (top_floor s) (state_after s (showings n ss)) ≡ shown_at (top_floor s) s ++ ss
showings_here s n [] = sym (append-nil (shown_at (top_floor s) s))
showings_here s n (x ∷ ss) =
    showings_here (after s (reply.Shown n x)) (n + 1) ss ∙ ap (λ (zs : List (List ℕ)). zs ++ ss) (one_here s n x) ∙ append_assoc (shown_at (top_floor s) s) (x ∷ []) ss

fresh_showings : (p : Bounded) (s : State) (n : ℕ) (ss : List (List ℕ)) (x : List ℕ) → MachineRun p s (showings n ss) → Contains ss x → Contains (shown_at (top_floor s) s) x → ⊥
fresh_showings p s n [] x run c old = absurd (let l = c.1 in omega arith)
fresh_showings p s n (y ∷ ss) x run c old = elim (cons_cases y ss x c) [
  | inl same ↦ run.0.fresh (subst (Contains (shown_here s)) (sym same) old)
  | inr later ↦ fresh_showings p (after s (reply.Shown n y)) (n + 1) ss x run.1 later (stays s (reply.Shown n y) (top_floor s) x old)
]

top_end : (s : State) (number : ℕ) (proof : ProofOfEnd) → top_floor (after s (reply.End number proof)) ≡ top_floor s
top_end s number proof = elim (has_ended (top_floor s) s) as (λ b. top_floor (if b then s else ended_by s proof) ≡ top_floor s) [ true ↦ refl | false ↦ refl ]

-- an end is reached at the floor at which one began
pub top_comes : (s : State) (n : ℕ) (xs : List Exchange) → ComesToEnd n xs → top_floor (state_after s xs) ≡ top_floor s
top_comes s n xs h =
    let c = h.comes in
    let last : Exchange = record { step = step.Next; reply = reply.End h.number h.proof } in
    let before = showings c.first c.scenarios in
    ap (λ (ys : List Exchange). top_floor (state_after s ys)) c.exchanges ∙ ap top_floor (states_join s before (last ∷ []))
    ∙ top_end (state_after s before) h.number h.proof ∙ top_showings s c.first c.scenarios

-- ---- where what counts as shown comes from

-- the reply shows nothing by itself
abbrev ShowsNone : Reply → Type 0
ShowsNone (reply.Shown number scenario) = ⊥
ShowsNone r = Unit {0}

still : (s : State) (r : Reply) (at x : List ℕ) → ShowsNone r → Contains (shown_at at (after s r)) x → Contains (shown_at at s) x
still s (reply.Shown number scenario) at x none c = absurd none
still s (reply.End number proof) at x none c =
    elim (has_ended (top_floor s) s) as (λ b. Contains (shown_at at (if b then s else ended_by s proof)) x → Contains (shown_at at s) x) [ true ↦ λ c. c | false ↦ λ c. c ] c
still s (reply.Offers cells) at x none c = c
still s (reply.Augmented floor) at x none c = c
still s reply.Back at x none c = c
still s (reply.BudgetSet budget) at x none c = c
still s (reply.All scenarios) at x none c = c
still s (reply.Partly first scenarios) at x none c = c
still s (reply.Proof proof) at x none c = c
still s (reply.Refused refusal) at x none c = c
still s reply.Memory at x none c = c

-- it was there before, or is one of these at the top floor
abbrev WasOr : State → List ℕ → List ℕ → Type 0 → Type 0
WasOr s at x Now = Contains (shown_at at s) x ⊎ ((at ≡ top_floor s) × Now)

from_one : (s : State) (number : ℕ) (scenario at x : List ℕ) → Contains (shown_at at (after s (reply.Shown number scenario))) x → WasOr s at x (x ≡ scenario)
from_one s number scenario at x c =
    let new : ShownAt = record { floor = top_floor s; scenario = scenario } in
    elim (shown_more at s new) [
      | inl one ↦ elim (Contains-push_cases (shown_at at s) scenario x (subst (λ (zs : List (List ℕ)). Contains zs x) one.1 c)) [
        | inl old ↦ inl old
        | inr now ↦ inr (sym one.0, sym now)
      ]
      | inr same ↦ inl (subst (λ (zs : List (List ℕ)). Contains zs x) same c)
    ]

from_showings : (s : State) (n : ℕ) (ss : List (List ℕ)) (at x : List ℕ) → Contains (shown_at at (state_after s (showings n ss))) x → WasOr s at x (Contains ss x)
from_showings s n [] at x c = inl c
from_showings s n (y ∷ ss) at x c = elim (from_showings (after s (reply.Shown n y)) (n + 1) ss at x c) [
  | inl before ↦ elim (from_one s n y at x before) [
    | inl old ↦ inl old
    | inr now ↦ inr (now.0, subst (Contains (y ∷ ss)) (sym now.1) (Contains-append_left (y ∷ []) ss y (0, omega arith, refl)))
  ]
  | inr later ↦ inr (later.0, Contains-append_right (y ∷ []) ss x later.1)
]

-- scenarios, and then a reply that shows none
from_last : (s : State) (n : ℕ) (ss : List (List ℕ)) (xs : List Exchange) (r : Reply) (at x : List ℕ) → ShowsNone r → xs ≡ showings n ss ++ record { step = step.Next; reply = r } ∷ [] → Contains (shown_at at (state_after s xs)) x → WasOr s at x (Contains ss x)
from_last s n ss xs r at x none is c =
    let last : Exchange = record { step = step.Next; reply = r } in
    let joined : state_after s xs ≡ after (state_after s (showings n ss)) r = ap (state_after s) is ∙ states_join s (showings n ss) (last ∷ []) in
    from_showings s n ss at x (still (state_after s (showings n ss)) r at x none (subst (λ (t : State). Contains (shown_at at t) x) joined c))

-- the command is an `all` that failed
abbrev pub HidesAll : Command → Reply → Type 0
HidesAll c r = (n : ℕ) × (c ≡ command.All n) × IsFailure r

-- what counts as shown afterwards did before, or is shown by the reply, or was found by an `all` that failed
abbrev pub CameFrom : State → Command → Reply → List ℕ → List ℕ → Type 0
CameFrom s c r at x = WasOr s at x (Shows r x ⊎ HidesAll c r)

alone : (s : State) (st : Step) (r : Reply) (xs : List Exchange) (at x : List ℕ) → ShowsNone r → xs ≡ record { step = st; reply = r } ∷ [] → Contains (shown_at at (state_after s xs)) x → CameFrom s (command.Step st) r at x
alone s st r xs at x none is c = inl (still s r at x none (subst (λ (ys : List Exchange). Contains (shown_at at (state_after s ys)) x) is c))

hidden : (s : State) (n : ℕ) (r : Reply) (at x : List ℕ) (ss : List (List ℕ)) → IsFailure r → WasOr s at x (Contains ss x) → CameFrom s (command.All n) r at x
hidden s n r at x ss failed (inl old) = inl old
hidden s n r at x ss failed (inr now) = inr (now.0, inr (n, refl, failed))

pub came_from : (p : Bounded) (s : State) (c : Command) (r : Reply) (xs : List Exchange) (at x : List ℕ) → Serves p s c r xs → Contains (shown_at at (state_after s xs)) x → CameFrom s c r at x
came_from p s (command.Step st) (reply.Shown number scenario) xs at x h c =
    elim (from_one s number scenario at x (subst (λ (ys : List Exchange). Contains (shown_at at (state_after s ys)) x) h.read c)) [
      | inl old ↦ inl old
      | inr now ↦ inr (now.0, inl now.1)
    ]
came_from p s (command.Step st) (reply.End number proof) xs at x h c = alone s st (reply.End number proof) xs at x tt h.read c
came_from p s (command.Step st) (reply.Offers cells) xs at x h c = alone s st (reply.Offers cells) xs at x tt h.read c
came_from p s (command.Step st) (reply.Augmented floor) xs at x h c = alone s st (reply.Augmented floor) xs at x tt h.read c
came_from p s (command.Step st) reply.Back xs at x h c = alone s st reply.Back xs at x tt h.read c
came_from p s (command.Step st) (reply.BudgetSet budget) xs at x h c = alone s st (reply.BudgetSet budget) xs at x tt h.read c
came_from p s (command.Step st) (reply.All scenarios) xs at x h c = alone s st (reply.All scenarios) xs at x tt h.read c
came_from p s (command.Step st) (reply.Partly first scenarios) xs at x h c = alone s st (reply.Partly first scenarios) xs at x tt h.read c
came_from p s (command.Step st) (reply.Proof proof) xs at x h c = alone s st (reply.Proof proof) xs at x tt h.read c
came_from p s (command.Step st) (reply.Refused refusal) xs at x h c = alone s st (reply.Refused refusal) xs at x tt h.read c
came_from p s (command.Step st) reply.Memory xs at x h c = alone s st reply.Memory xs at x tt h.read c
came_from p s (command.All n) (reply.All scenarios) xs at x h c =
    let comes = h.read.0.comes in
    elim (from_last s comes.first comes.scenarios xs (reply.End h.read.0.number h.read.0.proof) at x tt comes.exchanges c) [
      | inl old ↦ inl old
      | inr now ↦
          let here = subst (λ (f : List ℕ). Contains (shown_at f (state_after s xs)) x) (now.0 ∙ sym (top_comes s n xs h.read.0)) c in
          inr (now.0, inl ((h.read.1.same x).1 here))
    ]
came_from p s (command.All n) (reply.Partly first scenarios) xs at x h c =
    elim (from_showings s first scenarios at x (subst (λ (ys : List Exchange). Contains (shown_at at (state_after s ys)) x) h.read.1 c)) [
      | inl old ↦ inl old
      | inr now ↦ inr (now.0, inl now.1)
    ]
came_from p s (command.All n) (reply.Refused refusal) xs at x h c =
    hidden s n (reply.Refused refusal) at x h.read.scenarios tt (from_last s h.read.first h.read.scenarios xs (reply.Refused refusal) at x tt h.read.exchanges c)
came_from p s (command.All n) reply.Memory xs at x h c = elim h.read [
  | inl comes ↦ hidden s n reply.Memory at x comes.scenarios tt (from_last s comes.first comes.scenarios xs reply.Memory at x tt comes.exchanges c)
  | inr ends ↦ hidden s n reply.Memory at x ends.comes.scenarios tt (from_last s ends.comes.first ends.comes.scenarios xs (reply.End ends.number ends.proof) at x tt ends.comes.exchanges c)
]
came_from p s (command.All n) (reply.Shown number scenario) xs at x h c = absurd h.read
came_from p s (command.All n) (reply.End number proof) xs at x h c = absurd h.read
came_from p s (command.All n) (reply.Offers cells) xs at x h c = absurd h.read
came_from p s (command.All n) (reply.Augmented floor) xs at x h c = absurd h.read
came_from p s (command.All n) reply.Back xs at x h c = absurd h.read
came_from p s (command.All n) (reply.BudgetSet budget) xs at x h c = absurd h.read
came_from p s (command.All n) (reply.Proof proof) xs at x h c = absurd h.read

-- ---- what a reply shows

-- afterwards it is among what was shown at the floor
pub shown_after : (p : Bounded) (s : State) (c : Command) (r : Reply) (xs : List Exchange) (x : List ℕ) → Serves p s c r xs → Shows r x → Contains (shown_at (top_floor s) (state_after s xs)) x
shown_after p s (command.Step st) (reply.Shown number scenario) xs x h is =
    let there : Contains (shown_at (top_floor s) (after s (reply.Shown number scenario))) scenario =
    subst (λ (zs : List (List ℕ)). Contains zs scenario) (sym (one_here s number scenario)) (Contains-push (shown_at (top_floor s) s) scenario) in
    subst (λ (ys : List Exchange). Contains (shown_at (top_floor s) (state_after s ys)) x) (sym h.read) (subst (Contains (shown_at (top_floor s) (after s (reply.Shown number scenario)))) (sym is) there)
shown_after p s (command.Step st) (reply.All scenarios) xs x h is = absurd (no_list p s st scenarios (answered p s st (reply.All scenarios) xs h))
shown_after p s (command.Step st) (reply.Partly first scenarios) xs x h is = absurd (no_part p s st first scenarios (answered p s st (reply.Partly first scenarios) xs h))
shown_after p s (command.All n) (reply.Shown number scenario) xs x h is = absurd h.read
shown_after p s (command.All n) (reply.All scenarios) xs x h is =
    subst (λ (f : List ℕ). Contains (shown_at f (state_after s xs)) x) (top_comes s n xs h.read.0) ((h.read.1.same x).0 is)
shown_after p s (command.All n) (reply.Partly first scenarios) xs x h is =
    subst (λ (ys : List Exchange). Contains (shown_at (top_floor s) (state_after s ys)) x) (sym h.read.1)
    (subst (λ (zs : List (List ℕ)). Contains zs x) (sym (showings_here s first scenarios)) (Contains-append_right (shown_at (top_floor s) s) scenarios x is))
shown_after p s c (reply.End number proof) xs x h is = absurd is
shown_after p s c (reply.Offers cells) xs x h is = absurd is
shown_after p s c (reply.Augmented floor) xs x h is = absurd is
shown_after p s c reply.Back xs x h is = absurd is
shown_after p s c (reply.BudgetSet budget) xs x h is = absurd is
shown_after p s c (reply.Proof proof) xs x h is = absurd is
shown_after p s c (reply.Refused refusal) xs x h is = absurd is
shown_after p s c reply.Memory xs x h is = absurd is

-- what it shows as new was not shown at the floor before
pub new_is_fresh : (p : Bounded) (s : State) (c : Command) (r : Reply) (xs : List Exchange) (x : List ℕ) → Serves p s c r xs → ShowsNew r x → Contains (shown_at (top_floor s) s) x → ⊥
new_is_fresh p s (command.Step st) (reply.Shown number scenario) xs x h is old =
    let next = shows_next p s st number scenario (answered p s st (reply.Shown number scenario) xs h) in
    next.fresh (subst (Contains (shown_here s)) is old)
new_is_fresh p s (command.Step st) (reply.Partly first scenarios) xs x h is old = no_part p s st first scenarios (answered p s st (reply.Partly first scenarios) xs h)
new_is_fresh p s (command.All n) (reply.Shown number scenario) xs x h is old = h.read
new_is_fresh p s (command.All n) (reply.Partly first scenarios) xs x h is old = fresh_showings p s first scenarios x (subst (MachineRun p s) h.read.1 h.run) is old
new_is_fresh p s c (reply.All scenarios) xs x h is old = is
new_is_fresh p s c (reply.End number proof) xs x h is old = is
new_is_fresh p s c (reply.Offers cells) xs x h is old = is
new_is_fresh p s c (reply.Augmented floor) xs x h is old = is
new_is_fresh p s c reply.Back xs x h is old = is
new_is_fresh p s c (reply.BudgetSet budget) xs x h is old = is
new_is_fresh p s c (reply.Proof proof) xs x h is old = is
new_is_fresh p s c (reply.Refused refusal) xs x h is old = is
new_is_fresh p s c reply.Memory xs x h is old = is

-- it is due at the floor
pub is_due : (p : Bounded) (s : State) (c : Command) (r : Reply) (xs : List Exchange) (x : List ℕ) → IsSound p (state_after s xs) → Serves p s c r xs → Shows r x → IsDue p (top_floor s) x
is_due p s c r xs x now h is =
    All-contains (IsDue p (top_floor s)) (shown_at (top_floor s) (state_after s xs)) x (now.due (top_floor s)) (shown_after p s c r xs x h is)

-- an end, offers, and lists

pub ends : (p : Bounded) (s : State) (c : Command) (number : ℕ) (proof : ProofOfEnd) (xs : List Exchange) → Serves p s c (reply.End number proof) xs → (number ≡ length (shown_here s)) × (HasEndedWith s proof ⊎ EndsNow p s)
ends p s (command.Step st) number proof xs h = ends_next p s st number proof (answered p s st (reply.End number proof) xs h)
ends p s (command.All n) number proof xs h = absurd h.read

pub all_is_shown : (p : Bounded) (s : State) (proof : ProofOfEnd) → IsSound p s → HasEndedWith s proof ⊎ EndsNow p s → (x : List ℕ) → IsDue p (top_floor s) x → Contains (shown_here s) x
all_is_shown p s proof sound (inl was) = sound.complete (top_floor s) (has_any (λ (x : EndedAt). bytes_eq x.floor (top_floor s)) s.ended (record { floor = top_floor s; proof = proof }) was ((bytes_eq-Decides (top_floor s) (top_floor s)).1 refl))
all_is_shown p s proof sound (inr now) = now.all_shown

pub offers : (p : Bounded) (s : State) (c : Command) (cells : List ℕ) (xs : List Exchange) → Serves p s c (reply.Offers cells) xs → OffersCells p s cells
offers p s (command.Step st) cells xs h = offers_next p s st cells (answered p s st (reply.Offers cells) xs h)
offers p s (command.All n) cells xs h = absurd h.read

-- the scenarios that are shown together are distinct
tail_pairs : (xs ys : List (List ℕ)) → AllPairs (λ x y. x ≢ y) (xs ++ ys) → AllPairs (λ x y. x ≢ y) ys
tail_pairs [] ys all = all
tail_pairs (x ∷ xs) ys all = tail_pairs xs ys (λ i j d l h. all (suc i) (suc j) d (omega arith) (omega arith))

pub once_partly : (p : Bounded) (s : State) (c : Command) (first : ℕ) (scenarios : List (List ℕ)) (xs : List Exchange) → IsSound p (state_after s xs) → Serves p s c (reply.Partly first scenarios) xs → AllPairs (λ x y. x ≢ y) scenarios
once_partly p s (command.Step st) first scenarios xs now h = absurd (no_part p s st first scenarios (answered p s st (reply.Partly first scenarios) xs h))
once_partly p s (command.All n) first scenarios xs now h =
    let same : shown_at (top_floor s) (state_after s xs) ≡ shown_at (top_floor s) s ++ scenarios = ap (λ (ys : List Exchange). shown_at (top_floor s) (state_after s ys)) h.read.1 ∙ showings_here s first scenarios in
    tail_pairs (shown_at (top_floor s) s) scenarios (subst (AllPairs (λ (x y : List ℕ). x ≢ y)) same (now.once (top_floor s)))

-- a list that ends a floor: its command, its order, and the floor that it ends
pub asked_by_all : (p : Bounded) (s : State) (c : Command) (scenarios : List (List ℕ)) (xs : List Exchange) → Serves p s c (reply.All scenarios) xs → (n : ℕ) × (c ≡ command.All n)
asked_by_all p s (command.Step st) scenarios xs h = absurd (no_list p s st scenarios (answered p s st (reply.All scenarios) xs h))
asked_by_all p s (command.All n) scenarios xs h = (n, refl)

pub listed_in_order : (p : Bounded) (s : State) (c : Command) (scenarios : List (List ℕ)) (xs : List Exchange) → Serves p s c (reply.All scenarios) xs → AllPairs IsEarlier scenarios
listed_in_order p s (command.Step st) scenarios xs h = absurd (no_list p s st scenarios (answered p s st (reply.All scenarios) xs h))
listed_in_order p s (command.All n) scenarios xs h = h.read.1.sorted

pub list_ends : (p : Bounded) (s : State) (n : ℕ) (scenarios : List (List ℕ)) (xs : List Exchange) → Serves p s (command.All n) (reply.All scenarios) xs → top_floor (state_after s xs) ≡ top_floor s
list_ends p s n scenarios xs h = top_comes s n xs h.read.0

-- how many scenarios a part has
pub part_count : (p : Bounded) (s : State) (c : Command) (first n : ℕ) (scenarios : List (List ℕ)) (xs : List Exchange) → c ≡ command.All n → Serves p s c (reply.Partly first scenarios) xs → length scenarios ≡ n
part_count p s c first n scenarios xs is h =
    let serves : Serves p s (command.All n) (reply.Partly first scenarios) xs = subst (λ (d : Command). Serves p s d (reply.Partly first scenarios) xs) is h in
    serves.read.0

-- an augmentation that succeeds, and one that no instance allows
pub record IsAugmentBy (p : Bounded) (s : State) (c : Command) (above : List ℕ) : Type 0 where
  pub name : List ℕ
  pub names : List AtomName
  pub command_is : c ≡ command.Step (step.Augment name names)
  pub augments : Augments p s name names above

augment_next : (p : Bounded) (s : State) (x : Step) (above : List ℕ) → MayAnswer p s x (reply.Augmented above) → IsAugmentBy p s (command.Step x) above
augment_next p s step.Next above may = absurd may
augment_next p s step.Offers above may = absurd may
augment_next p s (step.Augment name names) above may = record { name = name; names = names; command_is = refl; augments = may }
augment_next p s step.Back above may = absurd may
augment_next p s (step.Budget budget) above may = absurd may
augment_next p s step.Proof above may = absurd may

pub augments_by : (p : Bounded) (s : State) (c : Command) (above : List ℕ) (xs : List Exchange) → Serves p s c (reply.Augmented above) xs → IsAugmentBy p s c above
augments_by p s (command.Step st) above xs h = augment_next p s st above (answered p s st (reply.Augmented above) xs h)
augments_by p s (command.All n) above xs h = absurd h.read

pub record IsImpossibleBy (p : Bounded) (s : State) (c : Command) : Type 0 where
  pub name : List ℕ
  pub names : List AtomName
  pub command_is : c ≡ command.Step (step.Augment name names)
  pub asks : AsksImpossible p s name names

impossible_next : (p : Bounded) (s : State) (x : Step) (proof : ProofOfEnd) → MayAnswer p s x (reply.Refused (NoInstance proof)) → IsImpossibleBy p s (command.Step x)
impossible_next p s step.Next proof may = absurd may
impossible_next p s step.Offers proof may = absurd may
impossible_next p s (step.Augment name names) proof may = record { name = name; names = names; command_is = refl; asks = may }
impossible_next p s step.Back proof may = absurd may
impossible_next p s (step.Budget budget) proof may = absurd may
impossible_next p s step.Proof proof may = absurd may

pub impossible_by : (p : Bounded) (s : State) (c : Command) (proof : ProofOfEnd) (xs : List Exchange) → Serves p s c (reply.Refused (NoInstance proof)) xs → IsImpossibleBy p s c
impossible_by p s (command.Step st) proof xs h = impossible_next p s st proof (answered p s st (reply.Refused (NoInstance proof)) xs h)
impossible_by p s (command.All n) proof xs h =
    let last : Exchange = record { step = step.Next; reply = reply.Refused (NoInstance proof) } in
    let apart = runs_apart p s (showings h.read.first h.read.scenarios) (last ∷ []) (subst (MachineRun p s) h.read.exchanges h.run) in
    absurd apart.1.0

-- the floor that an augmentation leads to
pub augmented_top : (p : Bounded) (s : State) (c : Command) (above : List ℕ) (xs : List Exchange) → Serves p s c (reply.Augmented above) xs → top_floor (state_after s xs) ≡ above
augmented_top p s (command.Step st) above xs h = ap (λ (ys : List Exchange). top_floor (state_after s ys)) h.read
augmented_top p s (command.All n) above xs h = absurd h.read
