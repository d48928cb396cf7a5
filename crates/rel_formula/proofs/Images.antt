-- The image of a scenario under a renaming.
use Rattle.std.proofs.Common.{◌≡◌, ℕ, ◌<◌, inl, inr, List, [], ◌∷◌, map, length, get_or, refl, sym, ◌∙◌, ap, subst, arith, Some, slice_get}
use Rattle.std.proofs.lemmas.List.Elements.{All-contains, All-nil, All-head, All-tail}
use Rattle.tuple_core.specs.declared.atom.Atom.{Atom}
use Rattle.rel_formula.specs.declared.problem.Cell.{Cell}
use Rattle.rel_formula.specs.Bounds.{Bounded, cell_of, cells_of}
use Rattle.rel_formula.specs.Instance.{AreCells, IsScenario, with_cell}
use Rattle.rel_formula.specs.Renaming.{KeepsBounds, IsImage}
use Rattle.rel_formula.proofs.Lists.{pairs_nil, get-Some, some_at, some_below}
use Rattle.rel_formula.proofs.WithCell.{all_of, with_cell_has, with_cell_rises}
use Rattle.rel_formula.proofs.OpenCells.{open_cell, cell_open, cons_cases, cons_first, cons_later}

-- a map of the atoms, undone
pub map_undone : (f g : Atom → Atom) → ((a : Atom) → f (g a) ≡ a) → (row : List Atom) → map f (map g row) ≡ row
map_undone f g h [] = refl
map_undone f g h (a ∷ row) = ap (λ b. b ∷ map f (map g row)) (h a) ∙ ap (λ r. a ∷ r) (map_undone f g h row)

pub cell_parts : (n r q : ℕ) (s t : List Atom) (cells : List Cell) → slice_get cells n ≡ Some (cell_of r s) → slice_get cells n ≡ Some (cell_of q t) → (r ≡ q) × (s ≡ t)
cell_parts n r q s t cells e f =
    let same : cell_of r s ≡ cell_of q t = sym (some_at cells n (cell_of r s) (cell_of 0 []) e) ∙ some_at cells n (cell_of q t) (cell_of 0 []) f in
    (ap (λ (c : Cell). c.relation) same, ap (λ (c : Cell). c.tuple) same)

module _ (p : Bounded) (f g : Atom → Atom) (back : (a : Atom) → g (f a) ≡ a) (keeps : KeepsBounds p f) where
  pub image_cell : (n r : ℕ) (row : List Atom) → slice_get (cells_of p) n ≡ Some (cell_of r row) → (m : ℕ) × (slice_get (cells_of p) m ≡ Some (cell_of r (map f row)))
  image_cell n r row e =
      let o = cell_open p n r row e in
      open_cell p r (map f row) o.0 ((keeps.upper r row).0 o.1) (λ low. o.2 ((keeps.lower r row).1 low))

  pub one_row : (s t : List Atom) → map f s ≡ map f t → s ≡ t
  one_row s t e = sym (map_undone g f back s) ∙ ap (map g) e ∙ map_undone g f back t

  record Image (s : List ℕ) : Type 0 where
    list : List ℕ
    scenario : IsScenario p list
    image : IsImage p f s list

  images_of : (s : List ℕ) → AreCells p s → Image s
  images_of [] all = record {
    list = [];
    scenario = record { cells = All-nil (λ n. n < length (cells_of p)); rising = pairs_nil (λ m n. m < n) };
    image = λ r row. (λ h. absurd (let l = h.1.1 in omega arith), λ h. absurd (let l = h.1.1 in omega arith));
  }
  images_of (n ∷ ns) all =
      let c = get_or (cells_of p) n (cell_of 0 []) in
      let l = All-head (λ n. n < length (cells_of p)) n ns all in
      let here : slice_get (cells_of p) n ≡ Some (cell_of c.relation c.tuple) = get-Some (cells_of p) n (cell_of 0 []) l in
      let m = image_cell n c.relation c.tuple here in
      let rest = images_of ns (All-tail (λ n. n < length (cells_of p)) n ns all) in
      let new = with_cell m.0 rest.list in
      let has = with_cell_has m.0 rest.list in
      record {
        list = new;
        scenario = record {
          cells = all_of (λ k. k < length (cells_of p)) new (λ k h. elim ((has k).0 h) [
            | inl d ↦ All-contains (λ k. k < length (cells_of p)) rest.list k rest.scenario.cells d
            | inr e ↦ subst (λ i. i < length (cells_of p)) (sym e) (some_below (cells_of p) m.0 (cell_of c.relation (map f c.tuple)) m.1)
          ]);
          rising = with_cell_rises m.0 rest.list rest.scenario.rising;
        };
        image = λ r row. (
          λ h. elim (cons_cases n ns h.0 h.1) [
            | inl e ↦ let parts = cell_parts n c.relation r c.tuple row (cells_of p) here (subst (λ k. slice_get (cells_of p) k ≡ Some (cell_of r row)) (sym e) h.2) in
                (m.0, (has m.0).1 (inr refl), m.1 ∙ ap (λ q. Some (cell_of q (map f c.tuple))) parts.0 ∙ ap (λ t. Some (cell_of r (map f t))) parts.1)
            | inr d ↦ let j = (rest.image r row).0 (h.0, d, h.2) in (j.0, (has j.0).1 (inl j.1), j.2)
          ],
          λ h. elim ((has h.0).0 h.1) [
            | inl d ↦ let j = (rest.image r row).1 (h.0, d, h.2) in (j.0, cons_later n ns j.0 j.1, j.2)
            | inr e ↦ let parts = cell_parts m.0 c.relation r (map f c.tuple) (map f row) (cells_of p) m.1 (subst (λ k. slice_get (cells_of p) k ≡ Some (cell_of r (map f row))) e h.2) in
                (n, cons_first n ns, here ∙ ap (λ q. Some (cell_of q c.tuple)) parts.0 ∙ ap (λ t. Some (cell_of r t)) (one_row c.tuple row parts.1))
          ],
        );
      }

  pub has_image : (s : List ℕ) → AreCells p s → (t : List ℕ) × IsScenario p t × IsImage p f s t
  has_image s all = let i = images_of s all in (i.list, i.scenario, i.image)
