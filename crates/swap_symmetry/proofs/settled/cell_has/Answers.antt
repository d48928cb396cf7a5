use Rattle.std.proofs.Common.{◌≡◌, ◌↔◌, ◌<◌, true, false, List, get_or, length, Some, slice_get, Contains, refl, sym, ◌∙◌, ap, subst, arith}
use Rattle.std.specs.List.{list_any}
use Rattle.std.proofs.lemmas.Bool.{le-ltb}
use Rattle.std.proofs.lemmas.List.Folds.{Any-from_list_any, list_any-from_Any}
use Rattle.tuple_core.specs.declared.atom.Atom.{Atom}
use Rattle.tuple_core.specs.Swap.{atom_eq}
use Rattle.tuple_core.proofs.Atoms.{atom_eq-decides}
use Rattle.rel_formula.specs.declared.problem.Cell.{Cell}
use Rattle.rel_formula.specs.Bounds.{cell_of, cells_of}
use Rattle.rel_formula.proofs.Lists.{get-Some, some_at, some_below}
use Rattle.swap_symmetry.proofs.settled.cell_has.Goals as goal

-- the test whether an atom stands in a tuple
any_atom : (a : Atom) (xs : List Atom) → (list_any (λ x. atom_eq x a) xs ≡ true) ↔ Contains xs a
any_atom a xs = (
  λ e. let f = Any-from_list_any (λ x. atom_eq x a) xs e in subst (Contains xs) ((atom_eq-decides f.1 a).0 f.4) (f.0, f.2, f.3),
  λ c. list_any-from_Any (λ x. atom_eq x a) xs (c.0, a, c.1, c.2, (atom_eq-decides a a).1 refl),
)

pub returns-then-number-cells : goal.returns-then-number-cells
returns-then-number-cells c =
    let cells = cells_of c.args.problem.now in
    let n = c.args.number in
    let a = c.args.atom in
    let cell : Cell = c.index-cells-number.result in
    let any = any_atom a cell.tuple in
    let is : c.contains.result ≡ list_any (λ x. atom_eq x a) cell.tuple = c.contains.ensures.value ∙ ap (λ (xs : List Atom). list_any (λ x. atom_eq x a) xs) (c.atoms.ensures.value ∙ ap (λ (x : Cell). x.tuple) (sym c.index-cells-number.is)) in
    let l : n < length cells = let h = c.if-number-cells.true in let e = ap length c.all_cells-cells.ensures in omega arith in
    let here : cell ≡ get_or cells n cell = c.index-cells-number.is ∙ ap (λ (xs : List Cell). get_or xs n cell) c.all_cells-cells.ensures in
    let at : slice_get cells n ≡ Some (cell_of cell.relation cell.tuple) = get-Some cells n cell l ∙ ap (λ (x : Cell). Some x) (sym here) in (
      λ e. (cell.relation, cell.tuple, at, any.0 (sym is ∙ e)),
      λ h.
          let same : cell ≡ cell_of h.0 h.1 = here ∙ some_at cells n (cell_of h.0 h.1) cell h.2 in
          is ∙ any.1 (subst (λ (x : Cell). Contains x.tuple a) (sym same) h.3),
    )

pub returns-else-number-cells : goal.returns-else-number-cells
returns-else-number-cells c = (
  λ e. absurd (let h = le-ltb c.args.number (length c.all_cells-cells.result.now) c.if-number-cells.false in let yes = e in cc),
  λ h. absurd (let l = some_below (cells_of c.args.problem.now) c.args.number (cell_of h.0 h.1) h.2 in let k = c.if-number-cells.false in let e = ap length c.all_cells-cells.ensures in omega arith),
)
