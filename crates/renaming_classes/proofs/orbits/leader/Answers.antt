use Rattle.std.proofs.Common.{◌≡◌, ◌↔◌, ◌∙◌, ℕ, List, map, Some, slice_get, ap, subst}
use Rattle.std.proofs.lemmas.List.{take_all}
use Rattle.tuple_core.specs.declared.atom.Atom.{Atom}
use Rattle.rel_formula.specs.Bounds.{cell_of, cells_of}
use Rattle.renaming_classes.specs.Orbits.{stand_in}
use Rattle.renaming_classes.proofs.orbits.leader.Goals as goal

pub returns : goal.returns
returns c =
    let stand = stand_in c.args.kept.now c.args.others.now in
    let cell = c.args.cell.now in
    let xs : List Atom = c.atoms-atom-items.result.now in
    let tuple : c.of.result ≡ map stand cell.tuple =
    c.of.ensures ∙ c.deref.ensures.value ∙ c.loop-atom.invariant ∙ ap (map stand) (take_all c.loop-atom.atom-index xs c.loop-atom-test.false) ∙ ap (map stand) c.atoms-atom-items.ensures.value in
    subst (λ (t : List Atom). (n : ℕ) → (c.number_of.result ≡ Some n) ↔ (slice_get (cells_of c.args.problem.now) n ≡ Some (cell_of cell.relation t))) tuple c.number_of.ensures
