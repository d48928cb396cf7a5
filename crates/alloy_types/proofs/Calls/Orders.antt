-- In an order, what is called stands before its callers.
use Rattle.std.proofs.Common.{◌≡◌, ℕ, zero, suc, ◌+◌, ◌<◌, ◌≤◌, Bool, true, false, ◌||◌, ◌==◌, if◌then◌else◌, List, [], ◌∷◌, map, length, take, Some, refl, sym, ap, ◌∙◌, subst, inl, inr, arith}
use Rattle.std.specs.List.{slice_get, slice_index_or}
use Rattle.std.proofs.lemmas.Bool.{cases_Bool, eqb-true}
use Rattle.std.proofs.lemmas.List.{length-map}
use Rattle.std.proofs.lemmas.List.Folds.{list_any_more}
use Rattle.std.proofs.lemmas.Option.{slice_get_within}
use Rattle.named_model.specs.Model.{CalleeTree, NamedTree}
use Rattle.named_model.specs.Faults.{callees_of}
use Rattle.reference_cycles.specs.Cycles.Walks.{row_of, among}
use Rattle.reference_cycles.specs.Cycles.Orders.{IsOrder}
use Rattle.alloy_types.specs.Headers.Called.{EachCalledBy, AreRanks}
use Rattle.alloy_types.specs.Headers.Bodies.{AreLow}
use Rattle.alloy_types.proofs.Calls.CallsIn.{called_by}

-- the first place of a number; as many as there are, where there is none
abbrev pub place_of : ℕ → List ℕ → ℕ
place_of n [] = 0
place_of n (x ∷ xs) = if x == n then 0 else suc (place_of n xs)

here : (n x : ℕ) (xs : List ℕ) → (x == n) ≡ true → place_of n (x ∷ xs) ≡ 0
here n x xs e = ap (λ (b : Bool). if b then 0 else suc (place_of n xs)) e

later : (n x : ℕ) (xs : List ℕ) → (x == n) ≡ false → place_of n (x ∷ xs) ≡ suc (place_of n xs)
later n x xs e = ap (λ (b : Bool). if b then 0 else suc (place_of n xs)) e

not_true : {b : Bool} → b ≡ true → b ≡ false → ⊥
not_true t f = absurd (go (sym t ∙ f))
  where
    go : true ≡ false → ⊥
    go h = absurd cc

elsewhere : (a b : Bool) → (a || b) ≡ true → a ≡ false → b ≡ true
elsewhere true b h e = absurd (not_true refl e)
elsewhere false b h e = h

pub place_below : (n : ℕ) (xs : List ℕ) → among n xs ≡ true → place_of n xs < length xs
place_below n [] h = absurd (not_true h refl)
place_below n (x ∷ xs) h = elim (cases_Bool (x == n)) [
  | inl e ↦ omega (arith, here n x xs e)
  | inr e ↦ omega (arith, later n x xs e, place_below n xs (elsewhere (x == n) (among n xs) h e))
]

pub at_place : (n d : ℕ) (xs : List ℕ) → among n xs ≡ true → slice_index_or xs (place_of n xs) d ≡ n
at_place n d [] h = absurd (not_true h refl)
at_place n d (x ∷ xs) h = elim (cases_Bool (x == n)) [
  | inl e ↦ ap (λ (k : ℕ). slice_index_or (x ∷ xs) k d) (here n x xs e) ∙ eqb-true x n e
  | inr e ↦ ap (λ (k : ℕ). slice_index_or (x ∷ xs) k d) (later n x xs e) ∙ at_place n d xs (elsewhere (x == n) (among n xs) h e)
]

pub place_front : (n j : ℕ) (xs : List ℕ) → among n (take j xs) ≡ true → place_of n xs < j
place_front n zero xs h = absurd (not_true h refl)
place_front n (suc j) [] h = absurd (not_true h refl)
place_front n (suc j) (x ∷ xs) h = elim (cases_Bool (x == n)) [
  | inl e ↦ omega (arith, here n x xs e)
  | inr e ↦ omega (arith, later n x xs e, place_front n j xs (elsewhere (x == n) (among n (take j xs)) h e))
]

pub in_front : (n i j : ℕ) (xs : List ℕ) → j ≤ i → among n (take j xs) ≡ true → among n (take i xs) ≡ true
in_front n i zero xs l h = absurd (not_true h refl)
in_front n zero (suc j) xs l h = absurd (omega (arith, l))
in_front n (suc i) (suc j) [] l h = absurd (not_true h refl)
in_front n (suc i) (suc j) (x ∷ xs) l h = elim (cases_Bool (x == n)) [
  | inl e ↦ ap (λ (b : Bool). b || among n (take i xs)) e
  | inr e ↦ ap (λ (b : Bool). b || among n (take i xs)) e ∙ in_front n i j xs (omega (arith, l)) (elsewhere (x == n) (among n (take j xs)) h e)
]

pub one_more : (order : List ℕ) (i n k : ℕ) → i < length order → n ≡ slice_index_or order i n → among k (take (i + 1) order) ≡ (among k (take i order) || (n == k))
one_more order i n k l e = list_any_more (λ y. y == k) order i n l ∙ ap (λ (y : ℕ). among k (take i order) || (y == k)) (sym e)

row_at : (cs : List CalleeTree) (n : ℕ) (c : CalleeTree) → slice_get cs n ≡ Some c → slice_index_or (map callees_of cs) n [] ≡ callees_of c
row_at [] n c e = absurd cc
row_at (d ∷ cs) zero c e = ap callees_of (some_is d c e)
  where
    some_is : (x y : CalleeTree) → Some x ≡ Some y → x ≡ y
    some_is x y e = cc
row_at (d ∷ cs) (suc n) c e = row_at cs n c e

module _ (m : NamedTree) (rows : List (List ℕ)) (rows_are : rows ≡ map callees_of m.callees) (order : List ℕ) (is : IsOrder rows order) where
  abbrev pub rank : ℕ → ℕ
  rank n = place_of n order

  row_is : (n : ℕ) (c : CalleeTree) → slice_get m.callees n ≡ Some c → row_of rows n ≡ callees_of c
  row_is n c e = ap (λ (rs : List (List ℕ)). row_of rs n) rows_are ∙ row_at m.callees n c e

  count : length rows ≡ length m.callees
  count = ap length rows_are ∙ length-map m.callees callees_of

  pub is_there : (n : ℕ) (c : CalleeTree) → slice_get m.callees n ≡ Some c → among n order ≡ true
  is_there n c e = is.all n (omega (arith, count, slice_get_within m.callees n c e))

  -- what a predicate or function calls stands before its place
  pub calls_before : (i n : ℕ) (c : CalleeTree) → i < length order → slice_index_or order i n ≡ n → slice_get m.callees n ≡ Some c → EachCalledBy (λ k. among k (take i order) ≡ true) c
  calls_before i n c l at e =
      called_by (λ k. among k (take i order) ≡ true) c
      (λ r h. is.before i n l r (subst (λ (row : List ℕ). among r row ≡ true) (sym (ap (row_of rows) at ∙ row_is n c e)) h))

  weaken_calls : (i j n : ℕ) (c : CalleeTree) → j < length order → j ≤ i → slice_index_or order j n ≡ n → slice_get m.callees n ≡ Some c → EachCalledBy (λ k. among k (take i order) ≡ true) c
  weaken_calls i j n c l few at e =
      called_by (λ k. among k (take i order) ≡ true) c
      (λ r h. in_front r i j order few (is.before j n l r (subst (λ (row : List ℕ). among r row ≡ true) (sym (ap (row_of rows) at ∙ row_is n c e)) h)))

  -- what is done calls what is done
  pub calls_done : (i n : ℕ) (c : CalleeTree) → slice_get m.callees n ≡ Some c → among n (take i order) ≡ true → EachCalledBy (λ k. among k (take i order) ≡ true) c
  calls_done i n c e h =
      let place : place_of n order < i = place_front n i order h in
      weaken_calls i (place_of n order) n c (place_below n order (is_there n c e)) (omega (arith, place)) (at_place n n order (is_there n c e)) e

  pub ranked : AreRanks m rank
  ranked n c e =
      let p = place_of n order in
      let l = place_below n order (is_there n c e) in
      let at = at_place n n order (is_there n c e) in
      called_by (λ k. place_of k order < p) c
      (λ r h. place_front r p order (is.before p n l r (subst (λ (row : List ℕ). among r row ≡ true) (sym (ap (row_of rows) at ∙ row_is n c e)) h)))

  pub low : AreLow m rank
  low n c e = omega (arith, place_below n order (is_there n c e), is.long, count)

  pub all_done : (n : ℕ) → n < length m.callees → among n order ≡ true
  all_done n l = is.all n (omega (arith, count, l))
