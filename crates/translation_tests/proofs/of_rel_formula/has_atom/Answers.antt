use Rattle.std.proofs.Common.{◌≡◌, ◌∷◌, [], sym, ◌∙◌, subst, Contains, List}
use Rattle.tuple_core.specs.declared.atom.Atom.{Atom}
use Rattle.rel_formula.specs.Bounds.{IsAtomOf}
use Rattle.rel_formula.proofs.OneSetOfAtoms.{only_one}
use Rattle.rel_formula.proofs.OpenCells.{cons_first}
use Rattle.translation_tests.proofs.of_rel_formula.has_atom.Goals as goal

pub returns : goal.returns
returns c is =
    let p = c.args.problem.now in
    let a = c.args.atom in
    let row = c.contains.ensures.0 is in
    let there = (c.atoms.ensures.value.just c.single.result).0 row in
    let same : there.0 ≡ a = only_one there.0 a (subst (λ (t : List Atom). Contains t a) (sym c.single.ensures ∙ there.2) (cons_first a [])) in
    subst (IsAtomOf p) same there.1
