-- What a session is on the problem after a reply.
use Rattle.std.proofs.Common.{◌≡◌, ◌≤◌, ◌+◌, ◌-◌, ℕ, true, false, if◌then◌else◌, List, [], ◌∷◌, ◌++◌, map, filter, take, min, length, bytes_eq, length-append, All, Contains, refl, sym, subst, ap, ◌∙◌, arith}
use Rattle.std.proofs.lemmas.List.{length-take, map-append}
use Rattle.std.proofs.lemmas.List.Elements.{All-nil, All-append, All-map, All-take, All-weaker, Contains-append_left, filter-append}
use Rattle.rel_formula.specs.Bounds.{Bounded}
use Rattle.session_words.specs.declared.steps.Step.{Step}
use Rattle.session_rules.specs.ProofOfEnd.{ProofOfEnd}
use Rattle.session_rules.specs.States.{State, ShownAt, Start, top_floor, shown_at, shown_here, has_ended, after}
use Rattle.session_rules.specs.Steps.{MayAnswer, Exchange, MachineRun, state_after, IsReached}
use Rattle.session_rules.specs.Proofs.{IsCopy}
use Rattle.session_rules.specs.declared.answers.Reply.{Reply}
use Rattle.session_rules.proofs.Runs.{states_join, runs_joined}
use Rattle.session_rules.specs.declared.answers.Reply.TheVariants.{Shown, End}
use Rattle.session_state.specs.Store.Stored.{Stored, copies_after, copies_kept}
use Rattle.session_state.specs.Sessions.Fits.{FitsProblem}
use Rattle.session_state.proofs.Sessions.TopFloors.{CopyAt}

abbrev ended_by : State → ProofOfEnd → State
ended_by s proof = record s { ended = s.ended ++ record { floor = top_floor s; proof = proof } ∷ [] }

-- what was shown at a floor, and one more somewhere
module _ (floor : List ℕ) (s : State) (x : ShownAt) (y : List ℕ) where
  with_one : shown_at floor (record s { shown = s.shown ++ x ∷ [] }) ≡ shown_at floor s ++ map (λ (y : ShownAt). y.scenario) (filter (λ (y : ShownAt). bytes_eq y.floor floor) (x ∷ []))
  with_one =
      ap (map (λ (y : ShownAt). y.scenario)) (filter-append (λ (y : ShownAt). bytes_eq y.floor floor) s.shown (x ∷ []))
      ∙ map-append (λ (y : ShownAt). y.scenario) (filter (λ (y : ShownAt). bytes_eq y.floor floor) s.shown) (filter (λ (y : ShownAt). bytes_eq y.floor floor) (x ∷ []))

  still_there : Contains (shown_at floor s) y → Contains (shown_at floor (record s { shown = s.shown ++ x ∷ [] })) y
  still_there c =
      let more = map (λ (y : ShownAt). y.scenario) (filter (λ (y : ShownAt). bytes_eq y.floor floor) (x ∷ [])) in
      subst (λ (xs : List (List ℕ)). Contains xs y) (sym with_one) (Contains-append_left (shown_at floor s) more y c)

-- what was shown stays shown
shown_stays : (floor : List ℕ) (s : State) (reply : Reply) (x : List ℕ) → Contains (shown_at floor s) x → Contains (shown_at floor (after s reply)) x
shown_stays floor s (Shown number scenario) x c = still_there floor s (record { floor = top_floor s; scenario = scenario }) x c
shown_stays floor s (End number proof) x c =
    elim (has_ended (top_floor s) s) as (λ b. Contains (shown_at floor (if b then s else ended_by s proof)) x) [ true ↦ c | false ↦ c ]
shown_stays floor s reply x c = c

still_copy : (p : Bounded) (s : State) (reply : Reply) (x : ShownAt) → CopyAt p s x → CopyAt p (after s reply) x
still_copy p s reply x c = record {
  minimal = c.minimal;
  unsettled = c.unsettled;
  renamed = let r = c.renamed in (r.0, shown_stays x.floor s reply r.0 r.1, r.2);
}

abbrev at_top : State → List ℕ → ShownAt
at_top s x = record { floor = top_floor s; scenario = x }

old_copies : (p : Bounded) (s : State) (reply : Reply) (copies : List ShownAt) → All (CopyAt p s) copies → All (CopyAt p (after s reply)) copies
old_copies p s reply copies all = All-weaker (CopyAt p s) (CopyAt p (after s reply)) (still_copy p s reply) copies all

new_copies : (p : Bounded) (s : State) (reply : Reply) (most : ℕ) (found : List (List ℕ)) → All (IsCopy p (top_floor s) (shown_here s)) found → All (CopyAt p (after s reply)) (take most (map (at_top s) found))
new_copies p s reply most found all =
    All-take (CopyAt p (after s reply)) most (map (at_top s) found)
    (All-map (CopyAt p (after s reply)) (at_top s) found
    (All-weaker (IsCopy p (top_floor s) (shown_here s)) (λ (x : List ℕ). CopyAt p (after s reply) (at_top s x)) (λ x c. still_copy p s reply (at_top s x) c) found all))

copies_fit : (p : Bounded) (kept : Stored) (reply : Reply) (found : List (List ℕ)) → All (CopyAt p kept.state) kept.copies → All (IsCopy p (top_floor kept.state) (shown_here kept.state)) found → All (CopyAt p (after kept.state reply)) (copies_after kept reply found)
copies_fit p kept (Shown number scenario) found old new =
    let reply : Reply = Shown number scenario in
    All-append (CopyAt p (after kept.state reply)) kept.copies (copies_kept kept found) (old_copies p kept.state reply kept.copies old) (new_copies p kept.state reply (1000000 - length kept.copies) found new)
copies_fit p kept (End number proof) found old new =
    let reply : Reply = End number proof in
    All-append (CopyAt p (after kept.state reply)) kept.copies (copies_kept kept found) (old_copies p kept.state reply kept.copies old) (new_copies p kept.state reply (1000000 - length kept.copies) found new)
copies_fit p kept reply found old new = old_copies p kept.state reply kept.copies old

-- one more exchange of a run
reached_after : (p : Bounded) (s : State) (step : Step) (reply : Reply) → IsReached p s → MayAnswer p s step reply → IsReached p (after s reply)
reached_after p s step reply reached may =
    let first : State = Start reached.budget in
    let x : Exchange = record { step = step; reply = reply } in
    let here : MayAnswer p (state_after first reached.exchanges) step reply = subst (λ (s : State). MayAnswer p s step reply) reached.state may in
    record {
      budget = reached.budget;
      exchanges = reached.exchanges ++ x ∷ [];
      run = runs_joined p first reached.exchanges (x ∷ []) reached.run (here, tt);
      state = ap (λ (s : State). after s reply) reached.state ∙ sym (states_join first reached.exchanges (x ∷ []));
    }

pub fits_later : (p : Bounded) (kept new : Stored) (step : Step) (reply : Reply) (found : List (List ℕ)) → FitsProblem p kept → MayAnswer p kept.state step reply → All (IsCopy p (top_floor kept.state) (shown_here kept.state)) found →
    new.state ≡ after kept.state reply → new.copies ≡ copies_after kept reply found → FitsProblem p new
fits_later p kept new step reply found fits may copies state_is copies_are = record {
  reached = subst (IsReached p) (sym state_is) (reached_after p kept.state step reply fits.reached may);
  copies = subst (λ (s : State). All (CopyAt p s) new.copies) (sym state_is)
      (subst (All (CopyAt p (after kept.state reply))) (sym copies_are) (copies_fit p kept reply found fits.copies copies));
}

-- a session at the start
pub fits_first : (p : Bounded) (budget : ℕ) (kept : Stored) → kept.state ≡ Start budget → kept.copies ≡ [] → FitsProblem p kept
fits_first p budget kept state_is copies_are = record {
  reached = record { budget = budget; exchanges = []; run = tt; state = state_is };
  copies = subst (All (CopyAt p kept.state)) (sym copies_are) (All-nil (CopyAt p kept.state));
}

few_more : (xs ys : List ShownAt) → length xs ≤ 1000000 → length (xs ++ take (1000000 - length xs) ys) ≤ 1000000
few_more xs ys few =
    let all : length (xs ++ take (1000000 - length xs) ys) ≡ length xs + length (take (1000000 - length xs) ys) = length-append xs (take (1000000 - length xs) ys) in
    let some : length (take (1000000 - length xs) ys) ≡ min (1000000 - length xs) (length ys) = length-take (1000000 - length xs) ys in
    omega arith

-- room changes nothing of that
pub fits_still : (p : Bounded) (kept new : Stored) → new.state ≡ kept.state → new.copies ≡ kept.copies → FitsProblem p kept → FitsProblem p new
fits_still p kept new state_is copies_are fits = record {
  reached = subst (IsReached p) (sym state_is) fits.reached;
  copies = subst (λ (s : State). All (CopyAt p s) new.copies) (sym state_is) (subst (All (CopyAt p kept.state)) (sym copies_are) fits.copies);
}

-- one more was shown at most
pub one_more_shown : (s : State) (reply : Reply) → length (after s reply).shown ≤ length s.shown + 1
one_more_shown s (Shown number scenario) = let e = length-append s.shown (record { floor = top_floor s; scenario = scenario } ∷ []) in omega arith
one_more_shown s (End number proof) =
    elim (has_ended (top_floor s) s) as (λ b. length (if b then s else ended_by s proof).shown ≤ length s.shown + 1) [ true ↦ omega arith | false ↦ omega arith ]
one_more_shown s reply = omega arith
