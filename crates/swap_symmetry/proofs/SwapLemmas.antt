-- What a swap does to a scenario, cell by cell and as a whole.
use Rattle.std.proofs.Common.{◌≡◌, ℕ, ◌<◌, ◌↔◌, List, [], map, length, Contains, Option, Some, None, sym, subst, arith, get_or}
use Rattle.std.proofs.lemmas.List.Elements.{All-contains}
use Rattle.tuple_core.specs.declared.atom.Atom.{Atom}
use Rattle.tuple_core.specs.Swap.{swap_atoms}
use Rattle.rel_formula.specs.Bounds.{Bounded, IsProblem, cell_of, cells_of}
use Rattle.rel_formula.specs.Instance.{AreCells, IsScenario, HasCell, StandsIn}
use Rattle.rel_formula.specs.Renaming.{IsCellImage, IsImage, IsSymmetric}
use Rattle.rel_formula.proofs.Lists.{get-Some}
use Rattle.rel_formula.proofs.OpenCells.{cell_once}
use Rattle.rel_formula.proofs.Images.{map_undone, has_image}
use Rattle.rel_formula.proofs.SwapLaws.{Laws, laws_of, renames}
use Rattle.swap_symmetry.specs.Order.{IsEarlier}
use Rattle.swap_symmetry.specs.Swaps.{AreNeighbours, IsTakenInto, SwapIsEarlier, IsSettled, IsSettledBeside}

-- a number is there or not, and only one
no_some : (o : Option ℕ) (k : ℕ) → o ≡ None → o ≡ Some k → ⊥
no_some o k e f = cc

one_some : (o : Option ℕ) (m k : ℕ) → o ≡ Some m → o ≡ Some k → k ≡ m
one_some o m k e f = cc

-- a cell is taken into some cells exactly where its image is one of them
module _ (p : Bounded) (a b : Atom) (number : ℕ) (image : Option ℕ) (is : (n : ℕ) → (image ≡ Some n) ↔ IsCellImage p (swap_atoms a b) number n) (C : ℕ → Type 0) where
  pub taken_at : (m : ℕ) → image ≡ Some m → IsTakenInto p a b C number ↔ C m
  taken_at m at = (
    λ (r, row, here, (k, c, e)). subst C (one_some image m k at ((is k).1 (r, row, here, e))) c,
    λ c. let i = (is m).0 at in (i.0, i.1, i.2, (m, c, i.3)),
  )

  pub taken_nowhere : image ≡ None → IsTakenInto p a b C number → ⊥
  taken_nowhere none (r, row, here, (k, c, e)) = no_some image k none ((is k).1 (r, row, here, e))

module _ (p : Bounded) (well : IsProblem p) (a b : Atom) (laws : Laws a b) where
  -- a cell is in an image exactly where the swap takes it into the scenario
  pub taken : (s t : List ℕ) → IsScenario p t → IsImage p (swap_atoms a b) s t → (n : ℕ) → Contains t n ↔ IsTakenInto p a b (Contains s) n
  taken s t scenario image n = (
    λ c.
        let l = All-contains (λ k. k < length (cells_of p)) t n scenario.cells c in
        let x = get-Some (cells_of p) n (cell_of 0 []) l in
        let r = (get_or (cells_of p) n (cell_of 0 [])).relation in
        let row = (get_or (cells_of p) n (cell_of 0 [])).tuple in
        let there : HasCell p (Contains t) r (map (swap_atoms a b) (map (swap_atoms a b) row)) =
        subst (HasCell p (Contains t) r) (sym (map_undone (swap_atoms a b) (swap_atoms a b) laws.back row)) (n, c, x) in
        (r, row, x, (image r (map (swap_atoms a b) row)).1 there),
    λ h.
        let there = (image h.0 (map (swap_atoms a b) h.1)).0 h.3 in
        let at = subst (HasCell p (Contains t) h.0) (map_undone (swap_atoms a b) (swap_atoms a b) laws.back h.1) there in
        subst (Contains t) (cell_once p at.0 n h.0 h.1 well at.2 h.2) at.1,
  )

  pub earlier_from : (s t : List ℕ) → IsScenario p t → IsImage p (swap_atoms a b) s t → IsEarlier t s ↔ SwapIsEarlier p a b (Contains s)
  earlier_from s t scenario image =
      let go = taken s t scenario image in (
        λ e. (e.0, (go e.0).0 e.1, e.2, λ m l. (λ h. (e.3 m l).0 ((go m).1 h), λ h. (go m).0 ((e.3 m l).1 h))),
        λ e. (e.0, (go e.0).1 e.1, e.2, λ m l. (λ h. (e.3 m l).0 ((go m).0 h), λ h. (go m).1 ((e.3 m l).1 h))),
      )

module _ (p : Bounded) (well : IsProblem p) (symmetric : IsSymmetric p) (s : List ℕ) (cells : AreCells p s) where
  -- no image of the scenario under a swap of neighbours is earlier
  abbrev NoImageIsEarlier : Type 0
  NoImageIsEarlier = (a b : Atom) → AreNeighbours p a b → (t : List ℕ) → IsScenario p t → IsImage p (swap_atoms a b) s t → IsEarlier t s → ⊥

  pub settled_by_images : IsSettled p s ↔ NoImageIsEarlier
  settled_by_images = (
    λ settled a b next t scenario image earlier.
        settled a b next ((earlier_from p well a b (laws_of a b next.one_top) s t scenario image).0 earlier),
    λ none a b next earlier.
        let laws = laws_of a b next.one_top in
        let renaming = renames p a b laws next.first next.second in
        let image = has_image p (swap_atoms a b) (swap_atoms a b) laws.back (symmetric (swap_atoms a b) (swap_atoms a b) renaming) s cells in
        none a b next image.0 image.1 image.2 ((earlier_from p well a b laws s image.0 image.1 image.2).1 earlier),
  )

-- no atom stands in the empty floor
nowhere_stands : (p : Bounded) (a : Atom) → StandsIn p [] a → ⊥
nowhere_stands p a h = let l = h.2.1.1 in omega arith

pub settled_beside_nothing : (p : Bounded) (s : List ℕ) → IsSettled p s ↔ IsSettledBeside p [] s
settled_beside_nothing p s = (
  λ settled a b w earlier. settled a b w.0 earlier,
  λ settled a b next earlier. settled a b (next, (nowhere_stands p a, nowhere_stands p b)) earlier,
)
