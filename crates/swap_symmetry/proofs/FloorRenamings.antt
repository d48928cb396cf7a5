-- Renamings that keep the atoms of a floor.
use Rattle.std.proofs.Common.{◌≡◌, ℕ, ◌<◌, List, [], ◌∷◌, map, map-id, length, get_or, slice_get, Some, Contains, refl, sym, ◌∙◌, ap, subst}
use Rattle.std.proofs.lemmas.List.Elements.{All-contains}
use Rattle.tuple_core.specs.declared.atom.Atom.{Atom}
use Rattle.tuple_core.specs.Swap.{swap_atoms}
use Rattle.rel_formula.specs.Bounds.{Bounded, IsProblem, IsAtomOf, cell_of, cells_of}
use Rattle.rel_formula.specs.Instance.{AreCells, IsScenario, HasCell, StandsIn, Includes, IsMinimalAbove}
use Rattle.rel_formula.specs.Renaming.{IsRenaming, IsImage, IsRenamingBeside, IsSymmetric}
use Rattle.rel_formula.proofs.Images.{map_undone}
use Rattle.rel_formula.proofs.Lists.{get-Some}
use Rattle.rel_formula.proofs.OpenCells.{cons_first, cons_later, cell_once}
use Rattle.rel_formula.proofs.Renamed.{minimal_moved}
use Rattle.rel_formula.proofs.SwapLaws.{laws_of, renames}
use Rattle.swap_symmetry.specs.Swaps.{IsFreeOf}

-- one renaming and then another are a renaming
renaming_then : (p : Bounded) (f g h k : Atom → Atom) → IsRenaming p f g → IsRenaming p h k → IsRenaming p (λ a. h (f a)) (λ a. g (k a))
renaming_then p f g h k one two = record {
  there = λ a. ap h (one.there (k a)) ∙ two.there a;
  back = λ a. ap g (two.back (f a)) ∙ one.back a;
  tops = λ a. two.tops (f a) ∙ one.tops a;
  atoms = λ a is. two.atoms (f a) (one.atoms a is);
  atoms_back = λ a is. one.atoms_back (k a) (two.atoms_back a is);
}

-- a row renamed twice
map_twice : (h f : Atom → Atom) (row : List Atom) → map h (map f row) ≡ map (λ a. h (f a)) row
map_twice h f [] = refl
map_twice h f (a ∷ row) = ap (λ r. h (f a) ∷ r) (map_twice h f row)

-- the image of an image is an image
image_then : (p : Bounded) (f h : Atom → Atom) (s t u : List ℕ) → IsImage p f s t → IsImage p h t u → IsImage p (λ a. h (f a)) s u
image_then p f h s t u one two r row =
    let same = map_twice h f row in (
      λ c. subst (HasCell p (Contains u) r) same ((two r (map f row)).0 ((one r row).0 c)),
      λ c. (one r row).1 ((two r (map f row)).1 (subst (HasCell p (Contains u) r) (sym same) c)),
    )

-- a row whose atoms stay is itself
row_stays : (f : Atom → Atom) (row : List Atom) → ((a : Atom) → Contains row a → f a ≡ a) → map f row ≡ row
row_stays f [] stays = refl
row_stays f (a ∷ row) stays =
    let first : f a ≡ a = stays a (cons_first a row) in
    let others : map f row ≡ row = row_stays f row (λ b c. stays b (cons_later a row b c)) in
    cc

module _ (p : Bounded) (floor : List ℕ) where
  -- to rename nothing
  pub beside_itself : (s : List ℕ) → IsRenamingBeside p floor s s
  beside_itself s = record {
    there = λ a. a;
    back = λ a. a;
    renaming = record { there = λ a. refl; back = λ a. refl; tops = λ a. refl; atoms = λ a is. is; atoms_back = λ a is. is };
    image = λ r row. (subst (HasCell p (Contains s) r) (sym (map-id row)), subst (HasCell p (Contains s) r) (map-id row));
    keeps = λ a h. refl;
  }

  -- one after another
  pub beside_then : (s t u : List ℕ) → IsRenamingBeside p floor s t → IsRenamingBeside p floor t u → IsRenamingBeside p floor s u
  beside_then s t u one two = record {
    there = λ a. two.there (one.there a);
    back = λ a. one.back (two.back a);
    renaming = renaming_then p one.there one.back two.there two.back one.renaming two.renaming;
    image = image_then p one.there two.there s t u one.image two.image;
    keeps = λ a h. ap two.there (one.keeps a h) ∙ two.keeps a h;
  }

  -- a swap that is free of the floor
  pub beside_swap : (a b : Atom) → IsAtomOf p a → IsAtomOf p b → a.top ≡ b.top → IsFreeOf p floor a b → (s t : List ℕ) → IsImage p (swap_atoms a b) s t → IsRenamingBeside p floor s t
  beside_swap a b first second one free s t image =
      let laws = laws_of a b one in
      record {
        there = swap_atoms a b;
        back = swap_atoms a b;
        renaming = renames p a b laws first second;
        image = image;
        keeps = λ x there. laws.others x (λ e. free.0 (subst (StandsIn p floor) e there)) (λ e. free.1 (subst (StandsIn p floor) e there));
      }

  module _ (s t : List ℕ) (beside : IsRenamingBeside p floor s t) where
    keeps_back : (a : Atom) → StandsIn p floor a → beside.back a ≡ a
    keeps_back a there = ap beside.back (sym (beside.keeps a there)) ∙ beside.renaming.back a

    -- gives the floor itself
    floor_stays : IsImage p beside.there floor floor
    floor_stays r row = (
      λ h. subst (HasCell p (Contains floor) r) (sym (row_stays beside.there row (λ a c. beside.keeps a (r, row, h, c)))) h,
      λ h.
          let moved = map beside.there row in
          let same : map beside.back moved ≡ moved = row_stays beside.back moved (λ a c. keeps_back a (r, moved, h, c)) in
          subst (HasCell p (Contains floor) r) (sym same ∙ map_undone beside.back beside.there beside.renaming.back row) h,
    )

    -- keeps the floor's cells
    pub includes_beside : IsProblem p → AreCells p s → Includes s floor → Includes t floor
    includes_beside well cells above n c =
        let l = All-contains (λ k. k < length (cells_of p)) s n cells (above n c) in
        let cell = get_or (cells_of p) n (cell_of 0 []) in
        let at : slice_get (cells_of p) n ≡ Some (cell_of cell.relation cell.tuple) = get-Some (cells_of p) n (cell_of 0 []) l in
        let stays = row_stays beside.there cell.tuple (λ a d. beside.keeps a (cell.relation, cell.tuple, (n, c, at), d)) in
        let has = (beside.image cell.relation cell.tuple).0 (n, above n c, at) in
        let same : slice_get (cells_of p) has.0 ≡ Some (cell_of cell.relation cell.tuple) = has.2 ∙ ap (λ row. Some (cell_of cell.relation row)) stays in
        subst (Contains t) (cell_once p has.0 n cell.relation cell.tuple well same at) has.1

    -- keeps what is minimal above the floor
    pub minimal_beside : IsProblem p → IsSymmetric p → IsScenario p floor → IsScenario p t → IsMinimalAbove p floor s → IsMinimalAbove p floor t
    minimal_beside well symmetric floor_in scenario = minimal_moved p beside.there beside.back well beside.renaming.there beside.renaming.back
        (symmetric beside.there beside.back beside.renaming) s t floor floor scenario floor_in floor_in beside.image floor_stays
