-- Runs of the session machine, and what they keep.
use Rattle.std.proofs.Common.{◌≡◌, ◌≢◌, ◌⊎◌, ◌↔◌, inl, inr, ◌<◌, ◌≤◌, ℕ, suc, Bool, true, false, cond, if◌then◌else◌, List, [], ◌∷◌, ◌++◌, map, filter, drop, length, get_or, append-nil, All, AllPairs, Contains, bytes_eq, refl, sym, ◌∙◌, ap, subst, arith}
use Rattle.std.proofs.lemmas.Bool.{cases_Bool}
use Rattle.std.proofs.lemmas.List.{map-append, get_or_default}
use Rattle.std.proofs.lemmas.List.Elements.{filter-append, All-push, All-nil, All-cons, All-contains, Contains-append_left, Contains-push, Contains-push_cases, Contains-get_or}
use Rattle.std.proofs.lemmas.List.Quantifiers.{all_pairs_push}
use Rattle.std.proofs.lemmas.Slice.Eq.{bytes_eq-Decides}
use Rattle.rel_formula.specs.Bounds.{Bounded, cells_of}
use Rattle.rel_formula.specs.Instance.{IsScenario, with_cell}
use Rattle.rel_formula.proofs.Lists.{pairs_nil, some_below}
use Rattle.rel_formula.proofs.WithCell.{with_cell_has, with_cell_rises, all_of}
use Rattle.swap_symmetry.specs.Due.{IsDue}
use Rattle.translation_rules.proofs.Tests.{any_has, has_any}
use Rattle.session_words.specs.declared.atom_names.AtomName.{AtomName}
use Rattle.session_words.specs.declared.steps.Step.{Step}
use Rattle.session_words.specs.declared.steps.Step.TheVariants.{Next, Offers, Augment, Back, Budget, Proof}
use Rattle.session_rules.specs.ProofOfEnd.{ProofOfEnd}
use Rattle.session_rules.specs.States.{State, ShownAt, EndedAt, Start, top_floor, shown_at, shown_here, has_ended, HasEndedWith, after}
use Rattle.session_rules.specs.Steps.{ShowsNext, EndsNow, AsksFor, Augments, MayAnswer, Exchange, MachineRun, state_after}
use Rattle.session_rules.specs.Sound.{IsFloor, IsSound}
use Rattle.session_rules.specs.declared.answers.Reply.{Reply}
use Rattle.session_rules.specs.declared.answers.Reply.TheVariants.{Shown, End, Offers as OffersAre, Augmented, Back as WentBack, BudgetSet, Proof as ProofIs, Refused, Memory}

pub states_join : (s : State) (xs ys : List Exchange) → state_after s (xs ++ ys) ≡ state_after (state_after s xs) ys
states_join s [] ys = refl
states_join s (x ∷ xs) ys = states_join (after s x.reply) xs ys

module _ (p : Bounded) where
  pub runs_apart : (s : State) (xs ys : List Exchange) → MachineRun p s (xs ++ ys) → MachineRun p s xs × MachineRun p (state_after s xs) ys
  runs_apart s [] ys run = (tt, run)
  runs_apart s (x ∷ xs) ys (step, run) = let rest = runs_apart (after s x.reply) xs ys run in ((step, rest.0), rest.1)

  pub runs_joined : (s : State) (xs ys : List Exchange) → MachineRun p s xs → MachineRun p (state_after s xs) ys → MachineRun p s (xs ++ ys)
  runs_joined s [] ys run later = later
  runs_joined s (x ∷ xs) ys (step, run) later = (step, runs_joined (after s x.reply) xs ys run later)

-- a floor has ended exactly where some proof of it is kept
pub ended_with : (floor : List ℕ) (s : State) → has_ended floor s ≡ true → (proof : ProofOfEnd) × Contains s.ended (record { floor = floor; proof = proof })
ended_with floor s h =
    let f = any_has (λ (x : EndedAt). bytes_eq x.floor floor) s.ended h in
    let same : f.0.floor ≡ floor = (bytes_eq-Decides f.0.floor floor).0 f.2 in
    (f.0.proof, subst (λ (g : List ℕ). Contains s.ended (record { floor = g; proof = f.0.proof })) same f.1)

pub with_ended : (floor : List ℕ) (s : State) (proof : ProofOfEnd) → Contains s.ended (record { floor = floor; proof = proof }) → has_ended floor s ≡ true
with_ended floor s proof c = has_any (λ (x : EndedAt). bytes_eq x.floor floor) s.ended (record { floor = floor; proof = proof }) c ((bytes_eq-Decides floor floor).1 refl)

-- what was shown at a floor, where one more was shown: one more, or the same
module _ (floor : List ℕ) (s : State) (x : ShownAt) where
  with_one : (b : Bool) → bytes_eq x.floor floor ≡ b → shown_at floor (record s { shown = s.shown ++ x ∷ [] }) ≡ shown_at floor s ++ map (λ (y : ShownAt). y.scenario) (cond b (x ∷ []) [])
  with_one b e =
      ap (map (λ (y : ShownAt). y.scenario)) (filter-append (λ (y : ShownAt). bytes_eq y.floor floor) s.shown (x ∷ []))
      ∙ map-append (λ (y : ShownAt). y.scenario) (filter (λ (y : ShownAt). bytes_eq y.floor floor) s.shown) (filter (λ (y : ShownAt). bytes_eq y.floor floor) (x ∷ []))
      ∙ ap (λ b. shown_at floor s ++ map (λ (y : ShownAt). y.scenario) (cond b (x ∷ []) [])) e

  pub shown_more : ((x.floor ≡ floor) × (shown_at floor (record s { shown = s.shown ++ x ∷ [] }) ≡ shown_at floor s ++ x.scenario ∷ [])) ⊎ (shown_at floor (record s { shown = s.shown ++ x ∷ [] }) ≡ shown_at floor s)
  shown_more = elim (cases_Bool (bytes_eq x.floor floor)) [
    | inl t ↦ inl ((bytes_eq-Decides x.floor floor).0 t, with_one true t)
    | inr f ↦ inr (with_one false f ∙ append-nil (shown_at floor s))
  ]

contains_nothing : (n : ℕ) → ¬ Contains {X = ℕ} [] n
contains_nothing n (k, l, e) = absurd (omega arith)

-- a list without its first element
all_dropped : {X : Type 0} (P : X → Type 0) (xs : List X) → All P xs → All P (drop 1 xs)
all_dropped P [] all = all
all_dropped P (x ∷ xs) all = λ k d l. all (suc k) d (omega arith)

shorter : {X : Type 0} (xs : List X) (n : ℕ) → length xs ≤ n → length (drop 1 xs) ≤ n
shorter [] n l = l
shorter (x ∷ xs) n l = omega arith

module _ (p : Bounded) (s : State) (sound : IsSound p s) where
  -- what is current was shown, and so is a scenario
  current_in : (before : List (List ℕ)) (current : List ℕ) → shown_here s ≡ before ++ current ∷ [] → IsScenario p current
  current_in before current e =
      let shown : Contains (shown_here s) current = subst (λ (xs : List (List ℕ)). Contains xs current) (sym e) (Contains-push before current) in
      (All-contains (IsDue p (top_floor s)) (shown_here s) current (sound.due (top_floor s)) shown).minimal.instance_of.scenario

  -- the floor that is asked for is one
  asked_floor : (name : List ℕ) (names : List AtomName) (floor : List ℕ) → AsksFor p s name names floor → IsFloor p floor
  asked_floor name names floor asked =
      let cell = asked.cell in
      let current = current_in asked.is_current.0 asked.current asked.is_current.1 in
      let has : (n : ℕ) → Contains (with_cell cell asked.current) n ↔ (Contains asked.current n ⊎ (n ≡ cell)) = with_cell_has cell asked.current in
      let named = asked.named.3 in
      let below : cell < length (cells_of p) = some_below (cells_of p) cell _ named in
      subst (IsFloor p) (sym asked.floor_is) (record {
        scenario = record {
          cells = all_of (λ n. n < length (cells_of p)) (with_cell cell asked.current) (λ n c. elim ((has n).0 c) [
            | inl old ↦ All-contains (λ n. n < length (cells_of p)) asked.current n current.cells old
            | inr same ↦ subst (λ n. n < length (cells_of p)) (sym same) below
          ]);
          rising = with_cell_rises cell asked.current current.rising;
        };
        filled = λ e. contains_nothing cell (subst (λ (f : List ℕ). Contains f cell) e ((has cell).1 (inr refl)));
      })

  shows_sound : (number : ℕ) (scenario : List ℕ) → ShowsNext p s number scenario → IsSound p (after s (Shown number scenario))
  shows_sound number scenario h =
      let x : ShownAt = record { floor = top_floor s; scenario = scenario } in record {
        due = λ floor. elim (shown_more floor s x) [
          | inl one ↦ subst (All (IsDue p floor)) (sym one.1) (All-push (IsDue p floor) (shown_at floor s) scenario (sound.due floor) (subst (λ (f : List ℕ). IsDue p f scenario) one.0 h.due))
          | inr same ↦ subst (All (IsDue p floor)) (sym same) (sound.due floor)
        ];
        once = λ floor. elim (shown_more floor s x) [
          | inl one ↦
              let fresh : ¬ Contains (shown_at floor s) scenario = subst (λ (f : List ℕ). ¬ Contains (shown_at f s) scenario) one.0 h.fresh in
              subst (AllPairs (λ (a b : List ℕ). a ≢ b)) (sym one.1) (all_pairs_push (λ (a b : List ℕ). a ≢ b) (shown_at floor s) scenario (sound.once floor) (λ k d l e. fresh (k, l, get_or_default (shown_at floor s) k scenario d l ∙ e)))
          | inr same ↦ subst (AllPairs (λ (a b : List ℕ). a ≢ b)) (sym same) (sound.once floor)
        ];
        complete = λ floor has y due. elim (shown_more floor s x) [
          | inl one ↦ subst (λ (xs : List (List ℕ)). Contains xs y) (sym one.1) (Contains-append_left (shown_at floor s) (scenario ∷ []) y (sound.complete floor has y due))
          | inr same ↦ subst (λ (xs : List (List ℕ)). Contains xs y) (sym same) (sound.complete floor has y due)
        ];
        ends_once = sound.ends_once;
        floors = sound.floors;
        height = sound.height;
      }

  -- the top floor ends now, with this proof
  ends_sound : (proof : ProofOfEnd) → EndsNow p s → IsSound p (record s { ended = s.ended ++ record { floor = top_floor s; proof = proof } ∷ [] })
  ends_sound proof h = record {
    due = sound.due;
    once = sound.once;
    complete = λ floor has y due.
        let e : EndedAt = record { floor = top_floor s; proof = proof } in
        let with' = ended_with floor (record s { ended = s.ended ++ e ∷ [] }) has in
        elim (Contains-push_cases s.ended e (record { floor = floor; proof = with'.0 }) with'.1) [
          | inl before ↦ sound.complete floor (with_ended floor s with'.0 before) y due
          | inr now ↦
              let same : top_floor s ≡ floor = ap (λ (e : EndedAt). e.floor) now in
              subst (λ (f : List ℕ). Contains (shown_at f s) y) same (h.all_shown y (subst (λ (f : List ℕ). IsDue p f y) (sym same) due))
        ];
    ends_once = all_pairs_push (λ (x y : EndedAt). x.floor ≢ y.floor) s.ended (record { floor = top_floor s; proof = proof }) sound.ends_once (λ k d l same.
        let x : EndedAt = get_or s.ended k d in
        h.not_ended (has_any (λ (y : EndedAt). bytes_eq y.floor (top_floor s)) s.ended x (Contains-get_or s.ended k d l) ((bytes_eq-Decides x.floor (top_floor s)).1 same)));
    floors = sound.floors;
    height = sound.height;
  }

  -- after an end of a floor that has ended all is as before, and else it ends now
  end_sound : (number : ℕ) (proof : ProofOfEnd) → HasEndedWith s proof ⊎ EndsNow p s → IsSound p (after s (End number proof))
  end_sound number proof (inl was) =
      subst (λ b. IsSound p (if b then s else record s { ended = s.ended ++ record { floor = top_floor s; proof = proof } ∷ [] })) (sym (with_ended (top_floor s) s proof was)) sound
  end_sound number proof (inr now) = elim (cases_Bool (has_ended (top_floor s) s)) [
    | inl t ↦ absurd (now.not_ended t)
    | inr f ↦ subst (λ b. IsSound p (if b then s else record s { ended = s.ended ++ record { floor = top_floor s; proof = proof } ∷ [] })) (sym f) (ends_sound proof now)
  ]

  augments_sound : (name : List ℕ) (names : List AtomName) (floor : List ℕ) → Augments p s name names floor → IsSound p (after s (Augmented floor))
  augments_sound name names floor h = record {
    due = sound.due;
    once = sound.once;
    complete = sound.complete;
    ends_once = sound.ends_once;
    floors = All-cons (IsFloor p) floor s.above (asked_floor name names floor h.asked) sound.floors;
    height = let room = h.room in omega arith;
  }

  back_sound : IsSound p (after s WentBack)
  back_sound = record {
    due = sound.due;
    once = sound.once;
    complete = sound.complete;
    ends_once = sound.ends_once;
    floors = all_dropped (IsFloor p) s.above sound.floors;
    height = shorter s.above 64 sound.height;
  }

  budget_sound : (budget : ℕ) → IsSound p (after s (BudgetSet budget))
  budget_sound budget = record { due = sound.due; once = sound.once; complete = sound.complete; ends_once = sound.ends_once; floors = sound.floors; height = sound.height }

  pub answer_sound : (step : Step) (reply : Reply) → MayAnswer p s step reply → IsSound p (after s reply)
  answer_sound step (Refused refusal) h = sound
  answer_sound step Memory h = sound
  answer_sound Next (Shown number scenario) h = shows_sound number scenario h
  answer_sound Next (End number proof) h = end_sound number proof h.1
  answer_sound Offers (OffersAre cells) h = sound
  answer_sound (Augment name names) (Augmented floor) h = augments_sound name names floor h
  answer_sound Back WentBack h = back_sound
  answer_sound (Budget asked) (BudgetSet budget) h = budget_sound budget
  answer_sound Proof (ProofIs proof) h = sound
  answer_sound step reply h = absurd h

start_sound : (p : Bounded) (budget : ℕ) → IsSound p (Start budget)
start_sound p budget = record {
  due = λ floor. All-nil (IsDue p floor);
  once = λ floor. pairs_nil (λ (a b : List ℕ). a ≢ b);
  complete = λ floor has y due. absurd (let e : false ≡ true = has in cc);
  ends_once = pairs_nil (λ (x y : EndedAt). x.floor ≢ y.floor);
  floors = All-nil (IsFloor p);
  height = omega arith;
}

pub run_sound : (p : Bounded) (s : State) (xs : List Exchange) → IsSound p s → MachineRun p s xs → IsSound p (state_after s xs)
run_sound p s [] sound run = sound
run_sound p s (x ∷ xs) sound (step, run) = run_sound p (after s x.reply) xs (answer_sound p s sound x.step x.reply step) run

pub from_start : (p : Bounded) (budget : ℕ) (xs : List Exchange) → MachineRun p (Start budget) xs → IsSound p (state_after (Start budget) xs)
from_start p budget xs run = run_sound p (Start budget) xs (start_sound p budget) run
