use Rattle.std.proofs.Common.{◌↔◌, ◌+◌, List, [], ◌∷◌, take, Contains, sym, subst}
use Rattle.std.proofs.lemmas.List.{take_all}
use Rattle.tuple_core.specs.declared.atom.Atom.{Atom}
use Rattle.tuple_core.specs.Order.{IsAscending}
use Rattle.rel_formula.specs.Bounds.{InAtoms}
use Rattle.swap_symmetry.proofs.Adjacent.{row_is}
use Rattle.renaming_classes.proofs.Moved.{rows_more, all_movable}
use Rattle.renaming_classes.proofs.placing.movable.Goals as goal

pub loop-row-preserved : goal.loop-row-preserved
loop-row-preserved c =
    let p = c.args.problem.now in
    let rows = c.rows-row-items.result.now in
    let i = c.loop-row.row-index in
    let x = c.first.result in
    let row : List Atom = c.row-item.result in
    let up : IsAscending rows = subst IsAscending (sym c.rows-row-items.ensures.value) c.rows-row-items.ensures.well.ascending in
    let just : (t : List Atom) → Contains rows t ↔ InAtoms p t = subst (λ (xs : List (List Atom)). (t : List Atom) → Contains xs t ↔ InAtoms p t) (sym c.rows-row-items.ensures.value) c.atoms.ensures.value.just in
    let at = row_is p rows up just i row x row c.first.ensures.0 c.loop-row-test.true c.row-item.is c.first.ensures.1 in
    subst (λ (xs : List Atom). (a : Atom) → Contains xs a ↔ Contains (take (i + 1) rows) (a ∷ [])) (sym c.in_ok-push.ensures.items)
    (rows_more rows i x c.loop-row.atoms.items c.loop-row-test.true at c.loop-row.invariant)

pub returns-clause-atoms : goal.returns-clause-atoms
returns-clause-atoms c =
    let p = c.args.problem.now in
    let rows = c.rows-row-items.result.now in
    let atoms = c.loop-row.atoms.items in
    let just : (t : List Atom) → Contains rows t ↔ InAtoms p t = subst (λ (xs : List (List Atom)). (t : List Atom) → Contains xs t ↔ InAtoms p t) (sym c.rows-row-items.ensures.value) c.atoms.ensures.value.just in
    all_movable p rows atoms just (subst (λ (xs : List (List Atom)). (a : Atom) → Contains atoms a ↔ Contains xs (a ∷ [])) (take_all c.loop-row.row-index rows c.loop-row-test.false) c.loop-row.invariant)
