use Rattle.std.proofs.Common.{◌≡◌, ◌<◌, Bool, true, false, ℕ, List, [], ◌∷◌, get_or, length, ◌||◌, refl, sym, ◌∙◌, ap, inl, inr, arith}
use Rattle.std.specs.List.{list_any}
use Rattle.std.proofs.lemmas.Bool.{cases_Bool}
use Rattle.std.proofs.lemmas.List.{get_or_default}
use Rattle.tuple_core.specs.declared.atom.Atom.{Atom}
use Rattle.tuple_core.specs.Swap.{atom_eq}
use Rattle.tuple_core.proofs.Atoms.{atom_eq-decides}
use Rattle.rel_formula.specs.declared.problem.Cell.{Cell}
use Rattle.rel_formula.specs.Bounds.{cell_of, cells_of}
use Rattle.session_state.proofs.search_rounds.locals.cell_has.Goals as goal

-- two atoms are compared either way round
either_way : (a b : Atom) → atom_eq a b ≡ atom_eq b a
either_way a b = elim (cases_Bool (atom_eq a b)) [
  | inl t ↦ t ∙ sym ((atom_eq-decides b a).1 (sym ((atom_eq-decides a b).0 t)))
  | inr f ↦ elim (cases_Bool (atom_eq b a)) [
    | inl t ↦ absurd (let u = (atom_eq-decides a b).1 (sym ((atom_eq-decides b a).0 t)) in cc)
    | inr g ↦ f ∙ sym g
  ]
]

same_test : (a : Atom) (xs : List Atom) → list_any (λ x. atom_eq x a) xs ≡ list_any (atom_eq a) xs
same_test a [] = refl
same_test a (x ∷ xs) = ap (λ b. b || list_any (λ y. atom_eq y a) xs) (either_way x a) ∙ ap (λ b. atom_eq a x || b) (same_test a xs)

pub returns : goal.returns
returns c =
    let cells = cells_of c.args.problem.now in
    let n = c.args.number in
    let a = c.args.atom in
    let cell : Cell = c.index-cells-number.result in
    let l : n < length cells = c.requires in
    let here : cell ≡ get_or cells n (cell_of 0 []) =
    c.index-cells-number.is ∙ ap (λ (xs : List Cell). get_or xs n cell) c.all_cells-cells.ensures ∙ get_or_default cells n cell (cell_of 0 []) l in
    c.contains.ensures.value ∙ ap (λ (xs : List Atom). list_any (λ x. atom_eq x a) xs) (c.atoms.ensures.value ∙ ap (λ (x : Cell). x.tuple) (sym c.index-cells-number.is))
    ∙ same_test a cell.tuple ∙ ap (λ (x : Cell). list_any (atom_eq a) x.tuple) here
