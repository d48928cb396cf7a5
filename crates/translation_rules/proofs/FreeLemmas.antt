-- The test for the swaps that leave a floor alone.
use Rattle.std.proofs.Common.{◌≡◌, ◌↔◌, ◌<◌, ℕ, inl, inr, true, List, [], length, get_or, Contains, IsTrue, refl, sym, ap, subst, arith}
use Rattle.std.specs.List.{list_any}
use Rattle.std.proofs.lemmas.Bool.{cases_lt}
use Rattle.std.proofs.lemmas.List.{get_or_past}
use Rattle.tuple_core.specs.declared.atom.Atom.{Atom}
use Rattle.tuple_core.specs.Swap.{atom_eq}
use Rattle.tuple_core.proofs.Atoms.{atom_eq-decides}
use Rattle.rel_formula.specs.declared.problem.Cell.{Cell}
use Rattle.rel_formula.specs.Bounds.{Bounded, cell_of, cells_of}
use Rattle.rel_formula.specs.Instance.{StandsIn}
use Rattle.rel_formula.proofs.Lists.{get-Some, some_at}
use Rattle.swap_symmetry.specs.Swaps.{IsFreeOf, IsSettledBeside, NoSwapIsEarlier}
use Rattle.translation_rules.specs.Free.{IsPicked, tuple_at, stands_in, is_free_of}
use Rattle.translation_rules.proofs.Tests.{any_has, has_any, neither}

module _ (p : Bounded) (floor : List ℕ) where
  -- a cell whose tuple has an atom is there
  is_cell : (n : ℕ) (a : Atom) → Contains (tuple_at p n) a → n < length (cells_of p)
  is_cell n a c = elim (cases_lt n (length (cells_of p))) [
    | inl less ↦ less
    | inr past ↦ absurd (let none = subst (λ (x : Cell). Contains x.tuple a) (get_or_past (cells_of p) n (cell_of 0 []) past) c in let l = none.1 in omega arith)
  ]

  stands : (a : Atom) → (stands_in p floor a ≡ true) ↔ StandsIn p floor a
  stands a = (
    λ h.
        let n = any_has (λ n. list_any (atom_eq a) (tuple_at p n)) floor h in
        let x = any_has (atom_eq a) (tuple_at p n.0) n.2 in
        let c = get_or (cells_of p) n.0 (cell_of 0 []) in
        let same : a ≡ x.0 = (atom_eq-decides a x.0).0 x.2 in
        (c.relation, c.tuple, (n.0, n.1, get-Some (cells_of p) n.0 (cell_of 0 []) (is_cell n.0 x.0 x.1)), subst (Contains c.tuple) (sym same) x.1),
    λ (r, t, (n, c, e), d).
        let at : tuple_at p n ≡ t = ap (λ (x : Cell). x.tuple) (some_at (cells_of p) n (cell_of r t) (cell_of 0 []) e) in
        has_any (λ n. list_any (atom_eq a) (tuple_at p n)) floor n c (has_any (atom_eq a) (tuple_at p n) a (subst (λ u. Contains u a) (sym at) d) ((atom_eq-decides a a).1 refl)),
  )

  pub tested : (a b : Atom) → IsTrue (is_free_of p floor a b) ↔ IsFreeOf p floor a b
  tested a b = neither (stands_in p floor a) (stands_in p floor b) (StandsIn p floor a) (StandsIn p floor b) (stands a) (stands b)

  pub settled_by_test : (s : List ℕ) → IsSettledBeside p floor s ↔ NoSwapIsEarlier p (IsPicked p (is_free_of p floor)) (Contains s)
  settled_by_test s = (
    λ settled a b w earlier. settled a b (w.0, (tested a b).0 w.1) earlier,
    λ settled a b w earlier. settled a b (w.0, (tested a b).1 w.1) earlier,
  )
