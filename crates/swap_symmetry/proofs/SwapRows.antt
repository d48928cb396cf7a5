-- The rows of a table of images.
use Rattle.std.proofs.Common.{◌≡◌, ℕ, ◌+◌, ◌<◌, ◌↔◌, inl, inr, List, [], ◌∷◌, ◌++◌, map, take, length, get_or, Option, Some, None, All, Contains, sym, ◌∙◌, ap, subst, arith}
use Rattle.std.proofs.lemmas.Bool.{cases_lt}
use Rattle.std.proofs.lemmas.List.{get_or_default, get_or_push, get_or_append_left, length_push, map-append, take_more}
use Rattle.std.proofs.lemmas.List.Elements.{All-contains}
use Rattle.tuple_core.specs.declared.atom.Atom.{Atom}
use Rattle.tuple_core.specs.Swap.{swap_atoms}
use Rattle.rel_formula.specs.Bounds.{Bounded, cell_of, cells_of}
use Rattle.rel_formula.specs.Renaming.{IsCellImage}
use Rattle.rel_formula.proofs.Lists.{get-Some, some_at, some_below}
use Rattle.rel_formula.proofs.OpenCells.{map_has, has_map}
use Rattle.swap_symmetry.specs.Swaps.{AreNeighbours, SwapIsEarlier, IsFreeOf, IsSettledBeside}
use Rattle.swap_symmetry.specs.declared.images.SwapRow.{SwapRow}
use Rattle.swap_symmetry.specs.Images.{pair_in, IsSwapRow}

module _ (p : Bounded) (a b : Atom) where
  -- this is what the swap makes of the cell of this number
  abbrev pub Tells : ℕ → Option ℕ → Type 0
  Tells n image = (m : ℕ) → (image ≡ Some m) ↔ IsCellImage p (swap_atoms a b) n m

  -- each entry is what the swap makes of its cell
  pub record TellsAll (images : List (Option ℕ)) : Type 0 where
    pub each : (n : ℕ) → n < length images → Tells n (get_or images n None)

  pub tells_none : TellsAll []
  tells_none = record { each = λ n l. absurd (omega arith) }

  pub tells_more : (images : List (Option ℕ)) (image : Option ℕ) → TellsAll images → Tells (length images) image → TellsAll (images ++ image ∷ [])
  tells_more images image so_far here = record {
    each = λ n l. elim (cases_lt n (length images)) [
      | inl less ↦ subst (Tells n) (sym (get_or_append_left images (image ∷ []) None n less)) (so_far.each n less)
      | inr past ↦
          let long = length_push images image in
          let same : length images ≡ n = omega arith in
          subst (Tells n) (sym (get_or_push images image None n same)) (subst (λ k. Tells k image) same here)
    ];
  }

module _ (p : Bounded) (row : SwapRow) where
  pub row_is : length row.images.items ≡ length (cells_of p) → TellsAll p row.first row.second row.images.items → IsSwapRow p row
  row_is count told =
      let images = row.images.items in record {
        count = count;
        images = λ n m. (
          λ e. (told.each n (some_below images n (Some m) e) m).0 (some_at images n (Some m) None e),
          λ (r, t, here, there).
              let inside = some_below (cells_of p) n (cell_of r t) here in
              let l : n < length images = omega arith in
              get-Some images n None l ∙ ap (λ (x : Option ℕ). Some x) ((told.each n l m).1 (r, t, here, there)),
        );
      }

  -- what stands at the number of a cell is what the swap makes of the cell
  pub row_tells : IsSwapRow p row → (n : ℕ) (image : Option ℕ) → n < length (cells_of p) → image ≡ get_or row.images.items n image → Tells p row.first row.second n image
  row_tells is n image inside at m =
      let images = row.images.items in
      let count = is.count in
      let l : n < length images = omega arith in (
        λ e. (is.images n m).0 (get-Some images n image l ∙ ap (λ (x : Option ℕ). Some x) (sym at ∙ e)),
        λ i. at ∙ some_at images n (Some m) image ((is.images n m).1 i),
      )

-- the pairs of one more row are one more pair
pub pairs_more : (pairs : List (Atom × Atom)) (rows : List SwapRow) (row : SwapRow) (i : ℕ) (d : Atom × Atom) → map pair_in rows ≡ take i pairs → i < length pairs → pair_in row ≡ get_or pairs i d →
    map pair_in (rows ++ row ∷ []) ≡ take (i + 1) pairs
pairs_more pairs rows row i d so_far inside at =
    let here : pair_in row ≡ get_or pairs i (pair_in row) = at ∙ get_or_default pairs i d (pair_in row) inside in
    map-append pair_in rows (row ∷ []) ∙ ap (λ xs. xs ++ pair_in row ∷ []) so_far ∙ ap (λ (x : Atom × Atom). take i pairs ++ x ∷ []) here ∙ sym (take_more pairs i (pair_in row) inside)

-- the row's swap is not free of the floor, or does not make the scenario earlier
abbrev pub DoesNothing : Bounded → List ℕ → List ℕ → SwapRow → Type 0
DoesNothing p floor s row = IsFreeOf p floor row.first row.second × SwapIsEarlier p row.first row.second (Contains s) → ⊥

module _ (p : Bounded) (rows : List SwapRow) (exactly : (a b : Atom) → Contains (map pair_in rows) (a, b) ↔ AreNeighbours p a b) where
  -- each row is that of two neighbours
  pub row_next : (row : SwapRow) → Contains rows row → AreNeighbours p row.first row.second
  row_next row c = (exactly row.first row.second).0 (has_map pair_in rows row c)

  -- a scenario is settled where no row's swap makes it earlier
  pub settled_by_rows : (floor s : List ℕ) → All (DoesNothing p floor s) rows → IsSettledBeside p floor s
  settled_by_rows floor s none a b w earlier =
      let found = map_has pair_in rows (a, b) ((exactly a b).1 w.0) in
      let row : SwapRow = found.0 in
      let does : IsFreeOf p floor row.first row.second × SwapIsEarlier p row.first row.second (Contains s) =
      subst (λ (pair : Atom × Atom). IsFreeOf p floor pair.0 pair.1 × SwapIsEarlier p pair.0 pair.1 (Contains s)) found.2 (w.1, earlier) in
      All-contains (DoesNothing p floor s) rows row none found.1 does
