-- Whether lists are the same, element by element.
use Rattle.std.proofs.Common.{◌≡◌, ◌<◌, ◌≤◌, ◌+◌, ◌∙◌, ◌++◌, ℕ, List, inl, inr, take, drop, length, get_or, sym, ap, subst, arith}
use Rattle.std.proofs.lemmas.Bool.{cases_lt}
use Rattle.std.proofs.lemmas.List.{get_or-drop, get_or_default, length-drop, same_lists, take-append-drop, take_all, take_more_same}

-- the lists agree so far, and at this place
pub same_more : {X : Type 0} (xs ys : List X) (i : ℕ) (x y : X) → i < length xs → i < length ys → x ≡ get_or xs i x → y ≡ get_or ys i y → x ≡ y → take i xs ≡ take i ys → take (i + 1) xs ≡ take (i + 1) ys
same_more xs ys i x y l l' at at' e before = take_more_same xs ys i x l l' before (sym at ∙ e ∙ at' ∙ get_or_default ys i y x l')

-- the lists agree, and are over
pub same_all : {X : Type 0} (xs ys : List X) (i : ℕ) → length xs ≤ i → length ys ≤ i → take i xs ≡ take i ys → xs ≡ ys
same_all xs ys i l l' same = sym (take_all i xs l) ∙ same ∙ take_all i ys l'

-- the elements from one place up to another are those of the second list, so many places further
pub record AreMovedTo {X : Type 0} (xs ys : List X) (from to more : ℕ) : Type 0 where
  pub each : (k : ℕ) (d : X) → from ≤ k → k < to → get_or xs k d ≡ get_or ys (k + more) d

pub moved_none : {X : Type 0} (xs ys : List X) (from more : ℕ) → AreMovedTo xs ys from from more
moved_none xs ys from more = record { each = λ k d low high. absurd (omega arith) }

pub moved_more : {X : Type 0} (xs ys : List X) (from i more : ℕ) (x y : X) → i < length xs → i + more < length ys → x ≡ get_or xs i x → y ≡ get_or ys (i + more) y → x ≡ y → AreMovedTo xs ys from i more → AreMovedTo xs ys from (i + 1) more
moved_more xs ys from i more x y l l' at at' e before = record {
  each = λ k d low high. elim (cases_lt k i) [
    | inl under ↦ before.each k d low under
    | inr over ↦
        let same : i ≡ k = omega arith in
        subst (λ (n : ℕ). get_or xs n d ≡ get_or ys (n + more) d) same (get_or_default xs i d x l ∙ sym at ∙ e ∙ at' ∙ get_or_default ys (i + more) y d l')
  ];
}

-- what stands in the first list from this place on are the last elements of the second one, which has so many more
pub moved_all : {X : Type 0} (xs ys : List X) (from i more : ℕ) → from ≤ length xs → length xs ≤ i → length ys ≡ length xs + more → AreMovedTo xs ys from i more → drop from xs ≡ drop (from + more) ys
moved_all xs ys from i more low all longer moved =
    same_lists (drop from xs) (drop (from + more) ys) (omega (arith, length-drop from xs, length-drop (from + more) ys)) (λ k d h.
    let within : from + k < length xs = omega (arith, length-drop from xs) in
    let next : from + k + more ≡ from + more + k = omega arith in
    get_or-drop from xs k d ∙ moved.each (from + k) d (omega arith) (omega arith) ∙ ap (λ (n : ℕ). get_or ys n d) next ∙ sym (get_or-drop (from + more) ys k d))

-- all of the first elements, and what is behind them
pub all_in_place : {X : Type 0} (xs ys : List X) (at from : ℕ) → at ≡ from → xs ≡ take at ys ++ drop from ys → xs ≡ ys
all_in_place xs ys at from here same = same ∙ ap (λ (n : ℕ). take n ys ++ drop from ys) here ∙ take-append-drop from ys
