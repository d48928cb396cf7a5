-- What links and lists have to do with each other.
use Rattle.std.proofs.Common.{◌≡◌, ◌<◌, ◌≤◌, ◌++◌, [], ◌∷◌, ◌⊎◌, ℕ, zero, suc, false, List, length, get_or, All, arith, sym, ◌∙◌, ap, inl, inr, refl, subst, eqb}
use Rattle.std.proofs.lemmas.List.{get_or_default, same_lists, length-map}
use Rattle.std.proofs.lemmas.List.Elements.{Contains-get_or, Contains-append_left}
use Rattle.std.specs.List.{Contains, IsDistinct}
use Rattle.std.proofs.lemmas.List.Elements.{recursion_from_All}
use Rattle.std.proofs.lemmas.List.Folds.{Any-from_list_any}
use Rattle.std.proofs.lemmas.Map.Steps.{length-le_from_distinct_below}
use Rattle.std.proofs.lemmas.Bool.{eqb-true}
use Rattle.std.proofs.lemmas.Bool.Decides.{eqb_tells}
use Rattle.std.proofs.lemmas.List.{get_or-map}
use Rattle.unit_propagation.specs.declared.watch_lists.lists.Slot.{Slot}
use Rattle.unit_propagation.specs.Watches.Linked.{next_of, list_from, lists_of, IsLinked}
use Rattle.unit_propagation.specs.Watches.WatchState.{list_at, link_at}
use Rattle.unit_propagation.specs.Watches.Kept.{AreLists, IsOnce}

-- the list that is linked is the one that is found
pub found : (slots : List Slot) (fuel link : ℕ) (xs : List ℕ) → IsLinked slots link xs → length xs ≤ fuel → list_from slots fuel link ≡ xs
found slots zero link [] is h = refl
found slots (suc fuel) link [] is h = ap (λ (l : ℕ). list_from slots (suc fuel) l) is
found slots zero link (x ∷ xs) is h = absurd (omega arith)
found slots (suc fuel) link (x ∷ xs) (at, in', rest) h =
    let next : link ≡ suc x = omega arith in
    ap (λ (l : ℕ). list_from slots (suc fuel) l) next ∙ ap (λ (ys : List ℕ). x ∷ ys) (found slots fuel (next_of slots x) xs rest (omega arith))

pub Contains-head : (x : ℕ) (xs : List ℕ) → Contains (x ∷ xs) x
Contains-head x xs = (0, omega arith, refl)

pub Contains-tail : (x y : ℕ) (xs : List ℕ) → Contains xs y → Contains (x ∷ xs) y
Contains-tail x y xs (k, h, is) = (suc k, omega arith, is)

-- each slot of a list is one
pub linked_in_range : (slots : List Slot) (link : ℕ) (xs : List ℕ) → IsLinked slots link xs → All (λ x. x < length slots) xs
linked_in_range slots link [] is k d h = absurd (omega arith)
linked_in_range slots link (x ∷ xs) (at, in', rest) zero d h = in'
linked_in_range slots link (x ∷ xs) (at, in', rest) (suc k) d h = linked_in_range slots (next_of slots x) xs rest k d (omega arith)

-- slots that stay keep their lists
pub linked_frame : (slots news : List Slot) (link : ℕ) (xs : List ℕ) → length slots ≤ length news → ((x : ℕ) → Contains xs x → next_of news x ≡ next_of slots x) → IsLinked slots link xs → IsLinked news link xs
linked_frame slots news link [] long same is = is
linked_frame slots news link (x ∷ xs) long same (at, in', rest) =
    let here : next_of news x ≡ next_of slots x = same x (Contains-head x xs) in
    let later : IsLinked news (next_of slots x) xs = linked_frame slots news (next_of slots x) xs long (λ y h. same y (Contains-tail x y xs h)) rest in
    (at, omega arith, subst (λ (l : ℕ). IsLinked news l xs) (sym here) later)

-- the slot behind this one is passed over
pub linked_unlink : (slots news : List Slot) (link p x : ℕ) (front rest : List ℕ) → length slots ≤ length news → next_of news p ≡ next_of slots x → ((y : ℕ) → Contains front y → next_of news y ≡ next_of slots y) → ((y : ℕ) → Contains rest y → next_of news y ≡ next_of slots y) →
    IsLinked slots link (front ++ p ∷ (x ∷ rest)) → IsLinked news link (front ++ p ∷ rest)
linked_unlink slots news link p x [] rest long skip before after (at, in_p, is) =
    let later : IsLinked news (next_of slots x) rest = linked_frame slots news (next_of slots x) rest long after is.2 in
    (at, omega arith, subst (λ (l : ℕ). IsLinked news l rest) (sym skip) later)
linked_unlink slots news link p x (y ∷ ys) rest long skip before after (at, in_y, is) =
    let here : next_of news y ≡ next_of slots y = before y (Contains-head y ys) in
    let later = linked_unlink slots news (next_of slots y) p x ys rest long skip (λ z h. before z (Contains-tail y z ys h)) after is in
    (at, omega arith, subst (λ (l : ℕ). IsLinked news l (ys ++ p ∷ rest)) (sym here) later)

-- where the list is linked from here, the link at each place is known
pub linked_at : (slots : List Slot) (link : ℕ) (xs : List ℕ) → IsLinked slots link xs → link_at xs 0 ≡ link
linked_at slots link [] is = sym is
linked_at slots link (x ∷ xs) (at, in', rest) = sym at

pub linked_next : (slots : List Slot) (link : ℕ) (xs : List ℕ) (k : ℕ) → IsLinked slots link xs → k < length xs → link_at xs (suc k) ≡ next_of slots (get_or xs k 0)
linked_next slots link [] k is h = absurd (omega arith)
linked_next slots link (x ∷ xs) zero (at, in', rest) h = linked_at slots (next_of slots x) xs rest
linked_next slots link (x ∷ xs) (suc k) (at, in', rest) h = linked_next slots (next_of slots x) xs k rest (omega arith)

pub contains_cases : (x y : ℕ) (xs : List ℕ) → Contains (x ∷ xs) y → (x ≡ y) ⊎ Contains xs y
contains_cases x y xs (zero, h, is) = inl is
contains_cases x y xs (suc k, h, is) = inr (k, omega arith, is)

pub contains_past : (front rest : List ℕ) (x y : ℕ) → Contains (front ++ rest) y → Contains (front ++ x ∷ rest) y
contains_past [] rest x y h = Contains-tail x y rest h
contains_past (f ∷ fs) rest x y h = elim (contains_cases f y (fs ++ rest) h) [
  | inl is ↦ subst (λ (z : ℕ). Contains (f ∷ (fs ++ x ∷ rest)) z) is (Contains-head f (fs ++ x ∷ rest))
  | inr later ↦ Contains-tail f y (fs ++ x ∷ rest) (contains_past fs rest x y later)
]

pub contains_mid : (front rest : List ℕ) (x : ℕ) → Contains (front ++ x ∷ rest) x
contains_mid [] rest x = Contains-head x rest
contains_mid (f ∷ fs) rest x = Contains-tail f x (fs ++ x ∷ rest) (contains_mid fs rest x)

pub contains_other : (front rest : List ℕ) (x y : ℕ) → (x ≡ y → ⊥) → Contains (front ++ x ∷ rest) y → Contains (front ++ rest) y
contains_other [] rest x y ne h = elim (contains_cases x y rest h) [ inl is ↦ absurd (ne is) | inr later ↦ later ]
contains_other (f ∷ fs) rest x y ne h = elim (contains_cases f y (fs ++ x ∷ rest) h) [
  | inl is ↦ subst (λ (z : ℕ). Contains (f ∷ (fs ++ rest)) z) is (Contains-head f (fs ++ rest))
  | inr later ↦ Contains-tail f y (fs ++ rest) (contains_other fs rest x y ne later)
]

-- without the one in the middle, each stands there once, and it is another
pub once_middle : (front rest : List ℕ) (x : ℕ) → IsOnce (front ++ x ∷ rest) → IsOnce (front ++ rest) × ((y : ℕ) → Contains (front ++ rest) y → x ≡ y → ⊥)
once_middle [] rest x (none, once) = (once, λ y h same. none (subst (Contains rest) (sym same) h))
once_middle (f ∷ fs) rest x (none, once) =
    let later = once_middle fs rest x once in (
      (λ h. none (contains_past fs rest x f h), later.0),
      λ y h same. elim (contains_cases f y (fs ++ rest) h) [
        | inl is ↦ none (subst (Contains (fs ++ x ∷ rest)) (same ∙ sym is) (contains_mid fs rest x))
        | inr there ↦ later.1 y there same
      ],
    )

-- the slots before and behind the one in the middle are in the list
contains_front : (front rest : List ℕ) (y : ℕ) → Contains front y → Contains (front ++ rest) y
contains_front front rest y h = Contains-append_left front rest y h

pub apart_from_once : (xs : List ℕ) → IsOnce xs → IsDistinct eqb xs
unfolding IsDistinct
apart_from_once [] once = tt
apart_from_once (x ∷ xs) (none, once) = (
  recursion_from_All (λ y. eqb x y ≡ false) xs (λ k d h. elim (eqb_tells x (get_or xs k d)) [
    | inl (t, same) ↦ absurd (none (subst (Contains xs) (sym same) (Contains-get_or xs k d h)))
    | inr (f, differ) ↦ f
  ]),
  apart_from_once xs once,
)

-- a list has no more slots than there are
pub short : (slots : List Slot) (link : ℕ) (xs : List ℕ) → IsLinked slots link xs → IsOnce xs → length xs ≤ length slots
short slots link xs is once =
    length-le_from_distinct_below xs (length slots) (apart_from_once xs once) (λ q t.
    let some = Any-from_list_any (eqb q) xs t in
    let in' : get_or xs some.0 some.1 < length slots = linked_in_range slots link xs is some.0 some.1 some.2 in
    let same : q ≡ some.1 = eqb-true q some.1 some.4 in
    omega (arith, in', same, some.3))

-- so the lists are those that are found
pub lists_found : (slots : List Slot) (first : List ℕ) (lists : List (List ℕ)) → AreLists slots first lists → lists_of slots first ≡ lists
lists_found slots first lists are =
    let long : length (lists_of slots first) ≡ length first = length-map first (λ link. list_from slots (length slots) link) in
    same_lists (lists_of slots first) lists (omega (arith, long, are.long)) (λ c d h.
    let in' : c < length first = omega (arith, long) in
    get_or-map (λ link. list_from slots (length slots) link) first c 0 d in' ∙
    (found slots (length slots) (get_or first c 0) (list_at lists c) (are.linked c in') (short slots (get_or first c 0) (list_at lists c) (are.linked c in') (are.once c in')) ∙
    get_or_default lists c [] d (omega (arith, are.long))))
