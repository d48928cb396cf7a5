-- The numbers of a scenario, each in the place of its cell's image, and then in rising order.
use Rattle.std.proofs.Common.{◌≡◌, ℕ, suc, ◌+◌, ◌<◌, ◌≤◌, ◌↔◌, inl, inr, false, List, [], ◌∷◌, map, length, get_or, set, slice_get, Option, Some, None, refl, sym, ◌∙◌, ap, subst, arith, eqb}
use Rattle.std.specs.List.{IsDistinct, AllByRecursion}
use Rattle.std.specs.List.Sorted.{IsPermutation, IsNonDecreasing}
use Rattle.std.proofs.lemmas.Bool.{cases_lt, cases_eq, eq-eqb, ne_eqb}
use Rattle.std.proofs.lemmas.List.{get_or_default, length-set, get_or-set_same, get_or-set_other}
use Rattle.std.proofs.lemmas.List.Kept.{AllPairs-from_increasing}
use Rattle.std.proofs.lemmas.List.Sorted.{IsPermutation-sym, Contains-permutation, All-permutation}
use Rattle.std.proofs.lemmas.Map.Keys.{IsDistinct-cons, IsDistinct-IsPermutation, IsStrictlyIncreasing-from_distinct}
use Rattle.tuple_core.specs.declared.atom.Atom.{Atom}
use Rattle.tuple_core.specs.Swap.{swap_atoms}
use Rattle.rel_formula.specs.Bounds.{Bounded, IsProblem, cell_of, cells_of}
use Rattle.rel_formula.specs.Instance.{AreCells}
use Rattle.rel_formula.specs.Renaming.{KeepsBounds, IsCellImage, IsImage}
use Rattle.rel_formula.proofs.RisingNumbers.{Rises}
use Rattle.rel_formula.proofs.Lists.{get-Some, some_below}
use Rattle.rel_formula.proofs.OpenCells.{cell_once}
use Rattle.rel_formula.proofs.Images.{cell_parts, one_row, image_cell}
use Rattle.rel_formula.proofs.SwapLaws.{swap_back}

-- below the place stand the numbers of the images, and from there on what stood there before
pub record Halfway (p : Bounded) (f : Atom → Atom) (xs ys : List ℕ) (place : ℕ) : Type 0 where
  pub long : length ys ≡ length xs
  pub done : (k : ℕ) → k < place → IsCellImage p f (get_or xs k 0) (get_or ys k 0)
  pub left : (k : ℕ) → place ≤ k → get_or ys k 0 ≡ get_or xs k 0

module _ (p : Bounded) (f : Atom → Atom) where
  pub begun : (xs : List ℕ) → Halfway p f xs xs 0
  begun xs = record { long = refl; done = λ k l. absurd (omega arith); left = λ k l. refl }

  -- one more number gives way to that of its image
  pub one_more : (xs ys : List ℕ) (place m : ℕ) → place < length ys → IsCellImage p f (get_or ys place 0) m → Halfway p f xs ys place → Halfway p f xs (set ys place m) (place + 1)
  one_more xs ys place m l image h = record {
    long = length-set ys place m ∙ h.long;
    done = λ k d. elim (cases_lt k place) [
      | inl less ↦ subst (λ n. IsCellImage p f (get_or xs k 0) n) (sym (get_or-set_other ys place k m 0 (λ e. omega arith))) (h.done k less)
      | inr past ↦
          let same : place ≡ k = omega arith in
          let here : IsCellImage p f (get_or xs place 0) (get_or (set ys place m) place 0) =
          subst (λ n. IsCellImage p f (get_or xs place 0) n) (sym (get_or-set_same ys place m 0 l)) (subst (λ n. IsCellImage p f n m) (h.left place (omega arith)) image) in
          subst (λ i. IsCellImage p f (get_or xs i 0) (get_or (set ys place m) i 0)) same here
    ];
    left = λ k d. get_or-set_other ys place k m 0 (λ e. omega arith) ∙ h.left k (omega arith);
  }

-- a number is the same as no later one
none_same : (y : ℕ) (ys : List ℕ) → ((k : ℕ) → k < length ys → y ≡ get_or ys k 0 → ⊥) → AllByRecursion (λ z. eqb y z ≡ false) ys
none_same y [] h = tt
none_same y (z ∷ zs) h = (ne_eqb y z (h 0 (omega arith)), none_same y zs (λ k l. h (suc k) (omega arith)))

all_differ : (ys : List ℕ) → ((i j : ℕ) → i < j → j < length ys → get_or ys i 0 ≡ get_or ys j 0 → ⊥) → IsDistinct eqb ys
unfolding IsDistinct
all_differ [] h = tt
all_differ (y ∷ ys) h = IsDistinct-cons eqb y ys (none_same y ys (λ k l. h 0 (suc k) (omega arith) (omega arith))) (all_differ ys (λ i j l d. h (suc i) (suc j) (omega arith) (omega arith)))

flips : (x y : ℕ) → eqb x y ≡ eqb y x
flips x y = elim (cases_eq x y) [
  | inl e ↦ eq-eqb x y e ∙ sym (eq-eqb y x (sym e))
  | inr n ↦ ne_eqb x y n ∙ sym (ne_eqb y x (λ e. n (sym e)))
]

module _ (p : Bounded) (well : IsProblem p) (f : Atom → Atom) (back : (a : Atom) → f (f a) ≡ a) (keeps : KeepsBounds p f)
    (xs ys zs : List ℕ) (up : Rises xs) (long : length ys ≡ length xs) (images : (k : ℕ) → k < length xs → IsCellImage p f (get_or xs k 0) (get_or ys k 0))
    (moved : IsPermutation ys zs) (sorted : IsNonDecreasing zs) where
  -- two cells have two images
  apart : (i j : ℕ) → i < j → j < length ys → get_or ys i 0 ≡ get_or ys j 0 → ⊥
  apart i j less l e =
      let a = images i (omega arith) in
      let b = images j (omega arith) in
      let parts = cell_parts (get_or ys j 0) a.0 b.0 (map f a.1) (map f b.1) (cells_of p) (subst (λ n. slice_get (cells_of p) n ≡ Some (cell_of a.0 (map f a.1))) e a.3) b.3 in
      let row : a.1 ≡ b.1 = one_row p f f back keeps a.1 b.1 parts.1 in
      let here : slice_get (cells_of p) (get_or xs i 0) ≡ Some (cell_of b.0 b.1) = a.2 ∙ ap (λ q. Some (cell_of q a.1)) parts.0 ∙ ap (λ t. Some (cell_of b.0 t)) row in
      let same : get_or xs i 0 ≡ get_or xs j 0 = cell_once p (get_or xs i 0) (get_or xs j 0) b.0 b.1 well here b.2 in
      let rises = up i j 0 less (omega arith) in
      omega arith

  pub image_rises : Rises zs
  image_rises = AllPairs-from_increasing zs (IsStrictlyIncreasing-from_distinct zs sorted (IsDistinct-IsPermutation eqb flips ys zs moved (all_differ ys apart)))

  pub image_cells : AreCells p zs
  image_cells = All-permutation (λ n. n < length (cells_of p)) ys zs moved (λ k d l.
      let a = images k (omega arith) in
      subst (λ n. n < length (cells_of p)) (get_or_default ys k 0 d l) (some_below (cells_of p) (get_or ys k 0) (cell_of a.0 (map f a.1)) a.3))

  pub image_is : IsImage p f xs zs
  image_is r row = (
    λ (n, c, e).
        let a = images c.0 c.1 in
        let at : get_or xs c.0 0 ≡ n = get_or_default xs c.0 0 n c.1 ∙ c.2 in
        let parts = cell_parts n a.0 r a.1 row (cells_of p) (subst (λ k. slice_get (cells_of p) k ≡ Some (cell_of a.0 a.1)) at a.2) e in
        let m = get_or ys c.0 0 in
        let l : c.0 < length ys = let h = c.1 in omega arith in
        (m, Contains-permutation ys zs m moved (c.0, l, get_or_default ys c.0 m 0 l), a.3 ∙ ap (λ q. Some (cell_of q (map f a.1))) parts.0 ∙ ap (λ t. Some (cell_of r (map f t))) parts.1),
    λ (m, c, e).
        let k = Contains-permutation zs ys m (IsPermutation-sym ys zs moved) c in
        let l : k.0 < length xs = let h = k.1 in omega arith in
        let a = images k.0 l in
        let at : get_or ys k.0 0 ≡ m = get_or_default ys k.0 0 m k.1 ∙ k.2 in
        let parts = cell_parts m a.0 r (map f a.1) (map f row) (cells_of p) (subst (λ k. slice_get (cells_of p) k ≡ Some (cell_of a.0 (map f a.1))) at a.3) e in
        let n = get_or xs k.0 0 in
        (n, (k.0, l, get_or_default xs k.0 n 0 l), a.2 ∙ ap (λ q. Some (cell_of q a.1)) parts.0 ∙ ap (λ t. Some (cell_of r t)) (one_row p f f back keeps a.1 row parts.1)),
  )

-- a swap that keeps the bounds takes a cell to a cell
pub never_missing : (p : Bounded) (a b : Atom) (n : ℕ) (image : Option ℕ) → n < length (cells_of p) → KeepsBounds p (swap_atoms a b) →
    ((m : ℕ) → (image ≡ Some m) ↔ IsCellImage p (swap_atoms a b) n m) → image ≡ None → ⊥
never_missing p a b n image l keeps is none =
    let c = get_or (cells_of p) n (cell_of 0 []) in
    let here : slice_get (cells_of p) n ≡ Some (cell_of c.relation c.tuple) = get-Some (cells_of p) n (cell_of 0 []) l in
    let there = image_cell p (swap_atoms a b) (swap_atoms a b) (swap_back a b) keeps n c.relation c.tuple here in
    let some : image ≡ Some there.0 = (is there.0).1 (c.relation, c.tuple, here, there.1) in
    cc
