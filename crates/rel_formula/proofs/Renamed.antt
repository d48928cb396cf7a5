-- A renaming keeps instances and minimal scenarios.
use Rattle.std.proofs.Common.{◌≡◌, ℕ, ◌<◌, List, [], inl, inr, map, slice_get, get_or, length, Some, Contains, sym, subst}
use Rattle.std.proofs.lemmas.List.Elements.{All-contains}
use Rattle.tuple_core.specs.declared.atom.Atom.{Atom}
use Rattle.rel_formula.specs.Bounds.{Bounded, IsProblem, relation_at, cell_of, cells_of}
use Rattle.rel_formula.specs.Instance.{AreCells, IsScenario, HasCell, InRelation, structure_of, IsInstance, Includes, IsMinimalAbove}
use Rattle.rel_formula.specs.Renaming.{KeepsBounds, IsImage}
use Rattle.rel_formula.proofs.Lists.{get-Some}
use Rattle.rel_formula.proofs.OpenCells.{cell_once}
use Rattle.rel_formula.proofs.Images.{map_undone, has_image}
use Rattle.rel_formula.proofs.RenamedAtoms.{Renames, truth_moved}

-- the tuples that the one scenario gives to the relations, the other gives too
abbrev Covers : Bounded → List ℕ → List ℕ → Type 0
Covers p s floor = (r : ℕ) (row : List Atom) → HasCell p (Contains floor) r row → HasCell p (Contains s) r row

covers : (p : Bounded) (s floor : List ℕ) → Includes s floor → Covers p s floor
covers p s floor h r row c = (c.0, h c.0 c.1, c.2)

includes : (p : Bounded) (s floor : List ℕ) → IsProblem p → AreCells p floor → Covers p s floor → Includes s floor
includes p s floor well all h n c =
    let cell = get_or (cells_of p) n (cell_of 0 []) in
    let at : slice_get (cells_of p) n ≡ Some (cell_of cell.relation cell.tuple) = get-Some (cells_of p) n (cell_of 0 []) (All-contains (λ n. n < length (cells_of p)) floor n all c) in
    let has = h cell.relation cell.tuple (n, c, at) in
    subst (Contains s) (cell_once p has.0 n cell.relation cell.tuple well has.2 at) has.1

module _ (p : Bounded) (f g : Atom → Atom) (there : (a : Atom) → f (g a) ≡ a) (back : (a : Atom) → g (f a) ≡ a) (keeps : KeepsBounds p f) where
  values_to : (s t : List ℕ) → IsImage p f s t → (r : ℕ) (u : List Atom) → InRelation p (Contains s) r u → InRelation p (Contains t) r (map f u)
  values_to s t image r u v = elim v [ inl low ↦ inl ((keeps.lower r u).0 low) | inr c ↦ inr ((image r u).0 c) ]

  values_from : (s t : List ℕ) → IsImage p f s t → (r : ℕ) (u : List Atom) → InRelation p (Contains t) r u → InRelation p (Contains s) r (map g u)
  values_from s t image r u v =
      let same : u ≡ map f (map g u) = sym (map_undone f g there u) in
      elim v [
        | inl low ↦ inl ((keeps.lower r (map g u)).1 (subst (Contains (relation_at p.relations r).lower.rows) same low))
        | inr c ↦ inr ((image r (map g u)).1 (subst (HasCell p (Contains t) r) same c))
      ]

  pub scenario_moved : (s t : List ℕ) → IsImage p f s t → Renames (structure_of p (Contains s)) (structure_of p (Contains t)) f g
  scenario_moved s t image = record {
    there = there;
    back = back;
    to = values_to s t image;
    from = values_from s t image;
    universe_to = λ u h. (h.0, h.1, values_to s t image h.0 u h.2);
    universe_from = λ u h. (h.0, h.1, values_from s t image h.0 u h.2);
  }

  pub instance_moved : (s t : List ℕ) → IsScenario p t → IsImage p f s t → IsInstance p s → IsInstance p t
  instance_moved s t is image h = record {
    scenario = is;
    holds = truth_moved (structure_of p (Contains s)) (structure_of p (Contains t)) f g (scenario_moved s t image) [] p.formula h.holds;
  }

  covers_moved : (s t floor image : List ℕ) → IsImage p f s t → IsImage p f floor image → Covers p s floor → Covers p t image
  covers_moved s t floor image i j h r row c =
      let same = map_undone f g there row in
      subst (HasCell p (Contains t) r) same ((i r (map g row)).0 (h r (map g row) ((j r (map g row)).1 (subst (HasCell p (Contains image) r) (sym same) c))))

  covers_back : (s t floor image : List ℕ) → IsImage p f s t → IsImage p f floor image → Covers p t image → Covers p s floor
  covers_back s t floor image i j h r row c = (i r row).1 (h r (map f row) ((j r row).0 c))

  image_back : (u w : List ℕ) → IsImage p g u w → IsImage p f w u
  image_back u w i r row =
      let same = map_undone g f back row in
      (λ c. (i r (map f row)).1 (subst (HasCell p (Contains w) r) (sym same) c), λ c. subst (HasCell p (Contains w) r) same ((i r (map f row)).0 c))

  keeps_back : KeepsBounds p g
  keeps_back = record {
    lower = λ r t. let rows = (relation_at p.relations r).lower.rows in let same = map_undone f g there t in
        (λ c. (keeps.lower r (map g t)).1 (subst (Contains rows) (sym same) c), λ c. subst (Contains rows) same ((keeps.lower r (map g t)).0 c));
    upper = λ r t. let rows = (relation_at p.relations r).upper.rows in let same = map_undone f g there t in
        (λ c. (keeps.upper r (map g t)).1 (subst (Contains rows) (sym same) c), λ c. subst (Contains rows) same ((keeps.upper r (map g t)).0 c));
  }

-- the other way
instance_back : (p : Bounded) (f g : Atom → Atom) → ((a : Atom) → f (g a) ≡ a) → ((a : Atom) → g (f a) ≡ a) → KeepsBounds p f → (u w : List ℕ) → IsScenario p w → IsImage p g u w → IsInstance p u → IsInstance p w
instance_back p f g there back keeps u w is i h = instance_moved p g f back there (keeps_back p f g there back keeps) u w is i h

pub minimal_moved : (p : Bounded) (f g : Atom → Atom) → IsProblem p → ((a : Atom) → f (g a) ≡ a) → ((a : Atom) → g (f a) ≡ a) → KeepsBounds p f →
    (s t floor image : List ℕ) → IsScenario p t → IsScenario p floor → IsScenario p image → IsImage p f s t → IsImage p f floor image →
    IsMinimalAbove p floor s → IsMinimalAbove p image t
minimal_moved p f g well there back keeps s t floor image st sf si i j h = record {
  instance_of = instance_moved p f g there back keeps s t st i h.instance_of;
  above = includes p t image well si.cells (covers_moved p f g there back keeps s t floor image i j (covers p s floor h.above));
  least = λ u iu above part.
      let w = has_image p g f there (keeps_back p f g there back keeps) u iu.scenario.cells in
      let k : IsImage p f w.0 u = image_back p f g there back keeps u w.0 w.2 in
      let iw = instance_back p f g there back keeps u w.0 w.1 w.2 iu in
      let over = includes p w.0 floor well sf.cells (covers_back p f g there back keeps w.0 u floor image k j (covers p u image above)) in
      let more = includes p s w.0 well w.1.cells (covers_back p f g there back keeps s t w.0 u i k (covers p t u part)) in
      includes p u t well st.cells (covers_moved p f g there back keeps w.0 u s t k i (covers p w.0 s (h.least w.0 iw over more)));
}
