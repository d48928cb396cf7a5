-- What holds while a variable rises or sinks, and what a heap is after it.
use Rattle.std.proofs.Common.{◌≡◌, ◌<◌, ◌≤◌, ◌+◌, ◌-◌, ◌/◌, ℕ, Bool, true, false, List, length, get_or, set, map, replicate, arith, ap, sym, ◌∙◌, subst, refl, inl, inr, get_or-set_other, get_or-set_same, ltb}
use Rattle.std.proofs.lemmas.Bool.{cases_eq, cases_lt, lt-ltb, ltb-true, false≢true}
use Rattle.std.proofs.lemmas.List.{same_lists, length-map, get_or-map, get_or_past, set-get_or, length-replicate, get_or-replicate}
use Rattle.std.proofs.lemmas.List.Edits.{Swapped}
use Rattle.unit_propagation.specs.declared.activity_order.heap.VarHeap.{VarHeap}
use Rattle.unit_propagation.specs.Activity.OrderState.{Waits, NoneWaits, IsFirst}
use Rattle.unit_propagation.specs.Activity.Heap.{rank, rank_at, var_at, place_of, waiting_of, IsBelow, ArePlaces, IsIndexed, IsRankedFrom, IsRising, IsSinking, IsTopBelow, IsHeap, IsSwapped, IsRearranged}
use Rattle.unit_propagation.proofs.Activity.Ranks.{rising_step, sinking_step, top_rank, before_from_rank}
use Rattle.unit_propagation.proofs.Activity.Places.{ranks_swapped, waits_same}

pub unmoved : (h : VarHeap) → IsIndexed h → IsRearranged h h
unmoved h is = record { indexed = is; long = refl; count = refl; same = refl }

pub moved : (first old new : VarHeap) (one other : ℕ) → IsRearranged first old → IsSwapped one other old new → one < old.waiting → other < old.waiting → IsRearranged first new
moved first old new one other was sw h k = record {
  indexed = sw.indexed;
  long = sw.long ∙ was.long;
  count = sw.count ∙ was.count;
  same = waits_same one other old new was.indexed sw h k ∙ was.same;
}

-- a variable of the first heap has risen to this place
pub record Rises (activities : List ℕ) (first h : VarHeap) (at : ℕ) : Type 0 where
  pub same : IsRearranged first h
  pub in_range : at < h.waiting
  pub rising : IsRising h.waiting at (rank_at activities h)

pub rise_once : (activities : List ℕ) (first old new : VarHeap) (at above : ℕ) → Rises activities first old at → IsBelow above at → rank_at activities old above ≤ rank_at activities old at → IsSwapped at above old new → Rises activities first new above
rise_once activities first old new at above was over less sw =
    let high : above < old.waiting = omega (arith, over.0, was.in_range) in
    record {
      same = moved first old new at above was.same sw was.in_range high;
      in_range = omega (arith, high, sw.count);
      rising = subst (λ (n : ℕ). IsRising n above (rank_at activities new)) (sym sw.count)
          (rising_step old.waiting at above (rank_at activities old) (rank_at activities new) was.rising over was.in_range less (ranks_swapped activities at above old new sw));
    }

-- a variable of the first heap has sunk to this place
pub record Sinks (activities : List ℕ) (first h : VarHeap) (from at : ℕ) : Type 0 where
  pub same : IsRearranged first h
  pub low : from ≤ at
  pub in_range : at ≤ length h.variables.items
  pub sinking : IsSinking from h.waiting at (rank_at activities h)

pub sink_once : (activities : List ℕ) (first old new : VarHeap) (from at below : ℕ) → Sinks activities first old from at → IsTopBelow old.waiting at (rank_at activities old) below → rank_at activities old at ≤ rank_at activities old below → IsSwapped at below old new → Sinks activities first new from below
sink_once activities first old new from at below was top less sw =
    let here : at < old.waiting = omega (arith, top.is_below.0, top.in_range) in
    record {
      same = moved first old new at below was.same sw here top.in_range;
      low = omega (arith, was.low, top.is_below.0);
      in_range = omega (arith, top.in_range, was.same.indexed.front, sw.long);
      sinking = subst (λ (n : ℕ). IsSinking from n below (rank_at activities new)) (sym sw.count)
          (sinking_step from old.waiting at below (rank_at activities old) (rank_at activities new) was.sinking was.low top less (ranks_swapped activities at below old new sw));
    }

-- the places from this one on are in order
pub record Mends (activities : List ℕ) (first h : VarHeap) (from : ℕ) : Type 0 where
  pub same : IsRearranged first h
  pub ranked : IsRankedFrom from h.waiting (rank_at activities h)

pub mend_start : (activities : List ℕ) (h : VarHeap) → IsIndexed h → Mends activities h h (h.waiting / 2)
mend_start activities h is = record { same = unmoved h is; ranked = λ i j from in' below. absurd (omega (arith, below.0)) }

pub ranked_back : (n count : ℕ) (f : ℕ → ℕ) → 0 < n → IsRankedFrom n count f → IsRankedFrom ((n - 1) + 1) count f
ranked_back n count f some was i j from h below = was i j (omega arith) h below

pub mend_once : (activities : List ℕ) (first old new : VarHeap) (from : ℕ) → Mends activities first old from → IsRearranged old new → IsRankedFrom (from - 1) new.waiting (rank_at activities new) → Mends activities first new (from - 1)
mend_once activities first old new from was sunk ranked = record {
  same = record { indexed = sunk.indexed; long = sunk.long ∙ was.same.long; count = sunk.count ∙ was.same.count; same = sunk.same ∙ was.same.same };
  ranked = ranked;
}

pub mended : (activities : List ℕ) (first h : VarHeap) (from : ℕ) → from ≡ 0 → length activities ≡ length first.variables.items → Mends activities first h from → IsHeap activities h
mended activities first h from none long was = record {
  indexed = was.same.indexed;
  long = long ∙ sym was.same.long;
  ranked = λ i j le in' below. was.ranked i j (omega arith) in' below;
}

-- the first place is in order again once what stands there has sunk
pub ranked_less : (count last : ℕ) (f g : ℕ → ℕ) → IsRankedFrom 0 count f → Swapped f g 0 last → count ≡ last + 1 → IsRankedFrom (0 + 1) last g
ranked_less count last f g was sw is i j from h below =
    let gj : g j ≡ f j = sw.2 j (λ e. omega (arith, e, below.0)) (λ e. omega (arith, e, h)) in
    let gi : g i ≡ f i = sw.2 i (λ e. omega (arith, e, from)) (λ e. omega (arith, e, h, below.0)) in
    let old : f j ≤ f i = was i j (omega arith) (omega (arith, h, is)) below in
    omega arith

-- and the last place once what stands there has risen
pub rising_more : (count place : ℕ) (f g : ℕ → ℕ) → IsRankedFrom 0 count f → Swapped f g place count → count ≤ place → IsRising (count + 1) count g
rising_more count place f g was sw behind = record {
  others = λ i j h ne below.
      let gj : g j ≡ f j = sw.2 j (λ e. omega (arith, e, h, ne, behind)) ne in
      let gi : g i ≡ f i = sw.2 i (λ e. omega (arith, e, h, below.0, behind)) (λ e. omega (arith, e, h, below.0)) in
      let old : f j ≤ f i = was i j (omega arith) (omega (arith, h, ne)) below in
      omega arith;
  past = λ i j h over below. absurd (omega (arith, h, below.0));
}

-- what waits stands at one of the first places
pub waits_there : (h : VarHeap) (v : ℕ) → Waits (waiting_of h) v → (v < length h.places.items) × (place_of h v < h.waiting)
waits_there h v w =
    let f : ℕ → Bool = λ p. ltb p h.waiting in
    elim (cases_lt v (length h.places.items)) [
      | inl in' ↦ (in', ltb-true (place_of h v) h.waiting (sym (get_or-map f h.places.items v 0 false in') ∙ w))
      | inr out ↦ absurd (false≢true (sym (get_or_past (waiting_of h) v false (omega (arith, out, length-map h.places.items f))) ∙ w))
    ]

pub waits_from : (h : VarHeap) (v : ℕ) → v < length h.places.items → place_of h v < h.waiting → Waits (waiting_of h) v
waits_from h v in' less = get_or-map (λ p. ltb p h.waiting) h.places.items v 0 false in' ∙ lt-ltb (place_of h v) h.waiting less

pub none_waits : (h : VarHeap) → h.waiting ≡ 0 → NoneWaits (waiting_of h)
none_waits h none v w = let there = waits_there h v w in omega (arith, there.1, none)

-- what waits already goes on to
pub waits_already : (h : VarHeap) (v : ℕ) → v < length h.places.items → place_of h v < h.waiting → waiting_of h ≡ set (waiting_of h) v true
waits_already h v in' less =
    sym (ap (λ (b : Bool). set (waiting_of h) v b) (sym (waits_from h v in' less)) ∙ set-get_or (waiting_of h) v false)

-- the variable at the first place is the first one
pub first_is : (activities : List ℕ) (h : VarHeap) (var : ℕ) → IsHeap activities h → 0 < h.waiting → var ≡ var_at h 0 → IsFirst activities (waiting_of h) var
first_is activities h var heap some is =
    let places = heap.indexed.places in
    let at_first = places.of_place 0 (omega (arith, some, heap.indexed.front)) in
    let var_in : var < length h.variables.items = omega (arith, is, at_first.0) in
    let place : place_of h var ≡ 0 = ap (place_of h) is ∙ at_first.1 in
    record {
      in_range = omega (arith, var_in, places.long, length-map h.places.items (λ p. ltb p h.waiting));
      waits = waits_from h var (omega (arith, var_in, places.long)) (omega (arith, place, some));
      first = λ other w ne.
          let there = waits_there h other w in
          let other_in : other < length h.variables.items = omega (arith, there.0, places.long) in
          let back = places.at_place other other_in in
          let top : rank_at activities h (place_of h other) ≤ rank_at activities h 0 = top_rank h.waiting (rank_at activities h) heap.ranked (place_of h other) (place_of h other) (omega arith) there.1 in
          let here : rank_at activities h (place_of h other) ≡ rank activities other = ap (rank activities) back.1 in
          let best : rank_at activities h 0 ≡ rank activities var = ap (rank activities) (sym is) in
          before_from_rank activities var other (omega (arith, var_in, heap.indexed.few)) (omega (arith, other_in, heap.indexed.few)) ne (omega (arith, top, here, best));
    }

-- a greater activity may leave a variable too low
pub raised_rising : (activities more : List ℕ) (h : VarHeap) (var new : ℕ) → IsHeap activities h → var < length activities → get_or activities var 0 ≤ new → more ≡ set activities var new → IsRising h.waiting (place_of h var) (rank_at more h)
raised_rising activities more h var new heap in' le is =
    let places = heap.indexed.places in
    let here = places.at_place var (omega (arith, in', heap.long)) in
    let same : (i : ℕ) → i < length h.variables.items → (i ≡ place_of h var → ⊥) → rank_at more h i ≡ rank_at activities h i = λ i i_in ne.
    let other : var_at h i ≡ var → ⊥ = λ e. ne (sym (places.of_place i i_in).1 ∙ ap (place_of h) e) in
    let read : get_or more (var_at h i) 0 ≡ get_or activities (var_at h i) 0 = ap (λ (xs : List ℕ). get_or xs (var_at h i) 0) is ∙ get_or-set_other activities var (var_at h i) new 0 other in
    omega arith in
    let own : rank_at activities h (place_of h var) ≤ rank_at more h (place_of h var) =
    let read : get_or more var 0 ≡ new = ap (λ (xs : List ℕ). get_or xs var 0) is ∙ get_or-set_same activities var new 0 in' in
    let old : rank_at activities h (place_of h var) ≡ rank activities var = ap (rank activities) here.1 in
    let now : rank_at more h (place_of h var) ≡ rank more var = ap (rank more) here.1 in
    omega arith in
    let up : (i : ℕ) → i < length h.variables.items → rank_at activities h i ≤ rank_at more h i = λ i i_in. elim (cases_eq i (place_of h var)) [
      | inl e ↦
          let old : rank_at activities h i ≡ rank_at activities h (place_of h var) = ap (rank_at activities h) e in
          let now : rank_at more h i ≡ rank_at more h (place_of h var) = ap (rank_at more h) e in
          omega arith
      | inr ne ↦ let still : rank_at more h i ≡ rank_at activities h i = same i i_in ne in omega arith
    ] in
    let front = heap.indexed.front in
    record {
      others = λ i j h' ne below.
          let low : rank_at more h j ≡ rank_at activities h j = same j (omega (arith, h', front)) ne in
          let was : rank_at activities h j ≤ rank_at activities h i = heap.ranked i j (omega arith) h' below in
          let high : rank_at activities h i ≤ rank_at more h i = up i (omega (arith, h', front, below.0)) in
          omega arith;
      past = λ i j h' over below.
          let at_in : place_of h var < h.waiting = omega (arith, h', below.0) in
          let low : rank_at more h j ≡ rank_at activities h j = same j (omega (arith, h', front)) (λ e. omega (arith, e, below.0)) in
          let was : rank_at activities h j ≤ rank_at activities h (place_of h var) = heap.ranked (place_of h var) j (omega arith) h' below in
          let then' : rank_at activities h (place_of h var) ≤ rank_at activities h i = heap.ranked i (place_of h var) (omega arith) at_in over in
          let high : rank_at activities h i ≤ rank_at more h i = up i (omega (arith, at_in, front, over.0)) in
          omega arith;
    }

pub all_wait : (h : VarHeap) (n : ℕ) → h.waiting ≡ n → length h.places.items ≡ n → ((i : ℕ) → i < n → place_of h i ≡ i) → waiting_of h ≡ replicate n true
all_wait h n count long own =
    let f : ℕ → Bool = λ p. ltb p h.waiting in
    let long' : length (map f h.places.items) ≡ n = length-map h.places.items f ∙ long in
    same_lists (map f h.places.items) (replicate n true) (long' ∙ sym (length-replicate n true)) (λ i d h'.
    let in' : i < n = omega (arith, h', long') in
    get_or-map f h.places.items i 0 d (omega (arith, in', long)) ∙ (lt-ltb (place_of h i) h.waiting (omega (arith, own i in', in', count)) ∙ sym (get_or-replicate n i true d in')))

module _ (activities : List ℕ) (old new : VarHeap) (variables : new.variables.items ≡ old.variables.items) (places : new.places.items ≡ old.places.items) (count : new.waiting ≡ old.waiting) where
  -- a copy of a heap is one by the same activities
  pub heap_copied : IsHeap activities old → IsHeap activities new
  heap_copied was = record {
    indexed = record {
      places = subst (λ (vs : List ℕ). ArePlaces vs new.places.items) (sym variables) (subst (ArePlaces old.variables.items) (sym places) was.indexed.places);
      few = omega (arith, ap length variables, was.indexed.few);
      front = omega (arith, ap length variables, count, was.indexed.front);
    };
    long = was.long ∙ sym (ap length variables);
    ranked = subst (λ (vs : List ℕ). IsRankedFrom 0 new.waiting (λ i. rank activities (get_or vs i 0))) (sym variables) (subst (λ (n : ℕ). IsRankedFrom 0 n (rank_at activities old)) (sym count) was.ranked);
  }

  -- and the same variables wait in it
  pub waiting_copied : waiting_of new ≡ waiting_of old
  waiting_copied = ap (λ (ps : List ℕ). map (λ p. ltb p new.waiting) ps) places ∙ ap (λ (n : ℕ). map (λ p. ltb p n) old.places.items) count
