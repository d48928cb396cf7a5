-- The numbers of floors, and what is found by them.
use Rattle.std.proofs.Common.{◌≡◌, ◌≢◌, ◌⊎◌, ◌||◌, zero, suc, inl, inr, ◌<◌, ◌≤◌, ◌==◌, ℕ, Bool, true, false, cond, List, [], ◌∷◌, ◌++◌, map, filter, length, get_or, slice_index_or, slice_get, length-append, take, ◌-◌, IsTrue, true≢false, Option, None, Some, bytes_eq, All, AllPairs, Contains, refl, sym, ap, subst, ◌∙◌, arith}
use Rattle.std.specs.List.{list_any}
use Rattle.std.specs.Option.{MatchOption}
use Rattle.std.proofs.lemmas.List.Folds.{list_any_none}
use Rattle.std.proofs.lemmas.Bool.{false_from_ne_true}
use Rattle.std.proofs.lemmas.Bool.Decides.{eqb_tells, Decides-eqb}
use Rattle.std.proofs.lemmas.Slice.Eq.{bytes_eq-Decides}
use Rattle.std.proofs.lemmas.List.{get_or_append_left, get_or-map, map-append, take-map, length-map}
use Rattle.std.proofs.lemmas.Simd.{map-map}
use Rattle.std.proofs.lemmas.Option.{get_or_from_slice_get, slice_get_within}
use Rattle.std.proofs.lemmas.List.Elements.{All-head, All-tail, All-nil, All-cons, All-append, All-take, All-weaker}
use Rattle.session_rules.specs.ProofOfEnd.{ProofOfEnd}
use Rattle.session_rules.specs.States.{State, ShownAt, EndedAt, top_floor, has_ended, HasEndedWith}
use Rattle.session_state.specs.declared.session_store.floors.Found.{Found}
use Rattle.session_state.specs.declared.session_store.floors.Ended.{Ended}
use Rattle.session_state.specs.Store.Numbered.{AreNumbered, floor_at, scenarios_at, found_there, ended_there, is_ended, state_of}

nat_compared : (a b : ℕ) → (a < b) ⊎ ((a ≡ b) ⊎ (b < a))
nat_compared zero zero = inr (inl refl)
nat_compared zero (suc b) = inl (omega arith)
nat_compared (suc a) zero = inr (inr (omega arith))
nat_compared (suc a) (suc b) = elim (nat_compared a b) [
  | inl l ↦ inl (omega arith)
  | inr r ↦ inr (elim r [ inl e ↦ inl (ap suc e) | inr l ↦ inr (omega arith) ])
]

module _ (floors : List (List ℕ)) (distinct : AllPairs (λ x y. x ≢ y) floors) where
  same_number : (n m : ℕ) → n < length floors → m < length floors → floor_at floors n ≡ floor_at floors m → n ≡ m
  same_number n m in_n in_m same = elim (nat_compared n m) [
    | inl less ↦ absurd (distinct n m [] less in_m same)
    | inr r ↦ elim r [ inl e ↦ e | inr more ↦ absurd (distinct m n [] more in_n (sym same)) ]
  ]

  -- the numbers are one exactly where the floors are
  pub same_floor : (n m : ℕ) → n < length floors → m < length floors → bytes_eq (floor_at floors n) (floor_at floors m) ≡ (n == m)
  same_floor n m in_n in_m = elim (eqb_tells n m) [
    | inl one ↦ (bytes_eq-Decides _ _).1 (ap (floor_at floors) one.1) ∙ sym one.0
    | inr two ↦ false_from_ne_true _ (λ t. two.1 (same_number n m in_n in_m ((bytes_eq-Decides _ _).0 t))) ∙ sym two.0
  ]

  -- what was found at a floor, by the floor and by its number
  pub found_by_number : (m : ℕ) → m < length floors → (found : List Found) → All (λ (x : Found). x.floor < length floors) found
      → map (λ (x : ShownAt). x.scenario) (filter (λ (x : ShownAt). bytes_eq x.floor (floor_at floors m)) (found_there floors found)) ≡ scenarios_at m found
  found_by_number m in_m [] ins = refl
  found_by_number m in_m (x ∷ xs) ins =
      let here = same_floor x.floor m (All-head (λ (x : Found). x.floor < length floors) x xs ins) in_m in
      let rest = found_by_number m in_m xs (All-tail (λ (x : Found). x.floor < length floors) x xs ins) in
      let y : ShownAt = record { floor = floor_at floors x.floor; scenario = x.scenario } in
      let there = filter (λ (x : ShownAt). bytes_eq x.floor (floor_at floors m)) (found_there floors xs) in
      let own = filter (λ (x : Found). x.floor == m) xs in
      let go : (b : Bool) → map (λ (x : ShownAt). x.scenario) (cond b (y ∷ there) there) ≡ map (λ (x : Found). x.scenario) (cond b (x ∷ own) own)
      = λ b. elim b as (λ b. map (λ (x : ShownAt). x.scenario) (cond b (y ∷ there) there) ≡ map (λ (x : Found). x.scenario) (cond b (x ∷ own) own)) [ true ↦ ap (λ ss. x.scenario ∷ ss) rest | false ↦ rest ] in
      ap (λ b. map (λ (x : ShownAt). x.scenario) (cond b (y ∷ there) there)) here ∙ go (x.floor == m)

  -- whether a floor has ended, by the floor and by its number
  pub ended_by_number : (m : ℕ) → m < length floors → (ended : List Ended) → All (λ (x : Ended). x.floor < length floors) ended
      → list_any (λ (x : EndedAt). bytes_eq x.floor (floor_at floors m)) (ended_there floors ended) ≡ is_ended m ended
  ended_by_number m in_m [] ins = refl
  ended_by_number m in_m (x ∷ xs) ins =
      let here = same_floor x.floor m (All-head (λ (x : Ended). x.floor < length floors) x xs ins) in_m in
      let rest = ended_by_number m in_m xs (All-tail (λ (x : Ended). x.floor < length floors) x xs ins) in
      ap (λ b. b || list_any (λ (x : EndedAt). bytes_eq x.floor (floor_at floors m)) (ended_there floors xs)) here ∙ ap (λ b. (x.floor == m) || b) rest

-- the top floor, by its number
pub top_by_number : (floors : List (List ℕ)) (above : List ℕ) → slice_get floors 0 ≡ Some [] → slice_index_or (map (floor_at floors) above) 0 [] ≡ floor_at floors (slice_index_or above 0 0)
top_by_number floors [] bottom = sym (get_or_from_slice_get floors 0 [] [] bottom)
top_by_number floors (n ∷ ns) bottom = refl

pub top_in : (floors : List (List ℕ)) (above : List ℕ) → slice_get floors 0 ≡ Some [] → All (λ n. n < length floors) above → slice_index_or above 0 0 < length floors
top_in floors [] bottom ins = slice_get_within floors 0 [] bottom
top_in floors (n ∷ ns) bottom ins = All-head (λ n. n < length floors) n ns ins

pub answered : {X : Type 0} (o : Option X) (P P' : Type 0) (Q Q' : X → Type 0) → (P → P') → ((x : X) → Q x → Q' x) → MatchOption o P Q → MatchOption o P' Q'
answered None P P' Q Q' none some m = none m
answered (Some x) P P' Q Q' none some m = some x m

contains_map : {X Y : Type 0} (f : X → Y) (xs : List X) (x : X) → Contains xs x → Contains (map f xs) (f x)
contains_map f xs x (k, l, e) = (k, simp length-map l, get_or-map f xs k x (f x) l ∙ ap f e)

-- ---- one floor more

map_same : {X Y : Type 0} (f g : X → Y) (xs : List X) → All (λ x. f x ≡ g x) xs → map f xs ≡ map g xs
map_same f g [] same = refl
map_same f g (x ∷ xs) same = ap (λ y. y ∷ map f xs) (All-head (λ x. f x ≡ g x) x xs same) ∙ ap (λ ys. g x ∷ ys) (map_same f g xs (All-tail (λ x. f x ≡ g x) x xs same))

module _ (floors new : List (List ℕ)) (floor : List ℕ) (grown : (new ≡ floors) ⊎ (new ≡ floors ++ floor ∷ [])) where
  pub floor_stays : (n : ℕ) → n < length floors → floor_at new n ≡ floor_at floors n
  floor_stays n in_n = elim grown [
    | inl same ↦ ap (λ fs. floor_at fs n) same
    | inr more ↦ ap (λ fs. floor_at fs n) more ∙ get_or_append_left floors (floor ∷ []) [] n in_n
  ]

  pub above_stays : (above : List ℕ) → All (λ n. n < length floors) above → map (floor_at new) above ≡ map (floor_at floors) above
  above_stays above ins = map_same (floor_at new) (floor_at floors) above (All-weaker (λ n. n < length floors) (λ n. floor_at new n ≡ floor_at floors n) floor_stays above ins)

  pub found_stays : (found : List Found) → All (λ (x : Found). x.floor < length floors) found → found_there new found ≡ found_there floors found
  found_stays found ins = map_same _ _ found (All-weaker (λ (x : Found). x.floor < length floors) _ (λ x in_x. ap {B = ShownAt} (λ (f : List ℕ). record { floor = f; scenario = x.scenario }) (floor_stays x.floor in_x)) found ins)

  pub ended_stays : (ended : List Ended) → All (λ (x : Ended). x.floor < length floors) ended → ended_there new ended ≡ ended_there floors ended
  ended_stays ended ins = map_same _ _ ended (All-weaker (λ (x : Ended). x.floor < length floors) _ (λ x in_x. ap {B = EndedAt} (λ (f : List ℕ). record { floor = f; proof = x.proof }) (floor_stays x.floor in_x)) ended ins)

  pub length_grows : length floors ≤ length new
  length_grows = elim grown [ inl same ↦ omega (arith, ap length same) | inr more ↦ omega (arith, ap length more, length-append floors (floor ∷ [])) ]

-- ---- the top floor of a state

module _ (floors : List (List ℕ)) (above : List ℕ) (shown : List Found) (ended : List Ended) (copies : List Found) (budget : ℕ) (numbered : AreNumbered floors above shown ended copies) where
  abbrev s : State
  s = state_of floors above shown ended budget

  abbrev n : ℕ
  n = slice_index_or above 0 0

  pub top_is : top_floor s ≡ floor_at floors n
  top_is = top_by_number floors above numbered.bottom

  in_range : n < length floors
  in_range = top_in floors above numbered.bottom numbered.above_in

  pub has_ended_is : has_ended (top_floor s) s ≡ is_ended n ended
  has_ended_is = ap (λ f. has_ended f s) top_is ∙ ended_by_number floors numbered.distinct n in_range ended numbered.ended_in

  -- an end of the top floor, where it has not ended before
  pub end_is : (proof : ProofOfEnd) → state_of floors above shown (cond (is_ended n ended) ended (ended ++ record { floor = n; proof = proof } ∷ [])) budget
      ≡ cond (has_ended (top_floor s) s) s (record s { ended = s.ended ++ record { floor = top_floor s; proof = proof } ∷ [] })
  end_is proof =
      let new : List ℕ → State = λ f. record s { ended = s.ended ++ record { floor = f; proof = proof } ∷ [] } in
      let one : Ended = record { floor = n; proof = proof } in
      let go : (b : Bool) → state_of floors above shown (cond b ended (ended ++ one ∷ [])) budget ≡ cond b s (new (floor_at floors n))
      = λ b. elim b as (λ b. state_of floors above shown (cond b ended (ended ++ one ∷ [])) budget ≡ cond b s (new (floor_at floors n))) [
        | true ↦ refl
        | false ↦ ap (λ (xs : List EndedAt). record s { ended = xs }) (map-append _ ended (one ∷ []))
      ] in
      go (is_ended n ended) ∙ ap (λ b. cond b s (new (floor_at floors n))) (sym has_ended_is) ∙ ap (λ f. cond (has_ended (top_floor s) s) s (new f)) (sym top_is)

  pub none_ended : All (λ (x : Ended). x.floor ≢ n) ended → ¬ IsTrue (has_ended (top_floor s) s)
  none_ended others h = true≢false (sym h ∙ has_ended_is ∙ list_any_none (λ (x : Ended). x.floor == n) ended
      (All-weaker (λ (x : Ended). x.floor ≢ n) (λ (x : Ended). (x.floor == n) ≡ false) (λ x other. false_from_ne_true (x.floor == n) (λ t. other ((Decides-eqb x.floor n).0 t))) ended others))

  pub ended_with : (proof : ProofOfEnd) → Contains ended (record { floor = n; proof = proof }) → HasEndedWith s proof
  ended_with proof there =
      let one : Ended = record { floor = n; proof = proof } in
      subst (λ (f : List ℕ). Contains s.ended (record { floor = f; proof = proof })) (sym top_is) (contains_map (λ (x : Ended). record { floor = floor_at floors x.floor; proof = x.proof }) ended one there)

  -- the copies found at the top floor, with the floor for its number
  pub copies_kept_is : (k : ℕ) (found : List (List ℕ)) → found_there floors (copies ++ take k (map (λ x. record { floor = n; scenario = x }) found))
      ≡ found_there floors copies ++ take k (map (λ x. record { floor = top_floor s; scenario = x }) found)
  copies_kept_is k found =
      let mk : List ℕ → Found = λ x. record { floor = n; scenario = x } in
      let there : Found → ShownAt = λ x. record { floor = floor_at floors x.floor; scenario = x.scenario } in
      let at : List ℕ → List ℕ → ShownAt = λ f x. record { floor = f; scenario = x } in
      map-append there copies (take k (map mk found))
      ∙ ap (λ xs. map there copies ++ xs) (sym (take-map there k (map mk found)) ∙ ap (take k) (map-map there mk found ∙ ap (λ f. map (at f) found) (sym top_is)))

  pub copies_long : length (found_there floors copies) ≡ length copies
  copies_long = simp length-map refl

  pub copies_in_range : (k : ℕ) (found : List (List ℕ)) → All (λ (x : Found). x.floor < length floors) (copies ++ take k (map (λ x. record { floor = n; scenario = x }) found))
  copies_in_range k found =
      let mk : List ℕ → Found = λ x. record { floor = n; scenario = x } in
      All-append (λ (x : Found). x.floor < length floors) copies (take k (map mk found)) numbered.copies_in
      (All-take (λ (x : Found). x.floor < length floors) k (map mk found) (all_map found))
    where
      all_map : (xs : List (List ℕ)) → All (λ (x : Found). x.floor < length floors) (map (λ x. record { floor = n; scenario = x }) xs)
      all_map [] = All-nil (λ (x : Found). x.floor < length floors)
      all_map (x ∷ xs) = All-cons (λ (x : Found). x.floor < length floors) (record { floor = n; scenario = x }) (map (λ x. record { floor = n; scenario = x }) xs) in_range (all_map xs)
