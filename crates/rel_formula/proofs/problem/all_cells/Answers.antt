use Rattle.std.proofs.Common.{◌≡◌, ◌∙◌, ap, sym, ◌++◌, map, take}
use Rattle.rel_formula.specs.declared.problem.Relation.{Relation}
use Rattle.rel_formula.specs.Bounds.{cell_of, cells_from, open_tuples}
use Rattle.rel_formula.proofs.Cells.{cells_more}
use Rattle.rel_formula.proofs.problem.all_cells.Goals as goal

pub loop-number-preserved : goal.loop-number-preserved
loop-number-preserved c =
    let relations = c.args.relations.now in
    let i = c.loop-number.number in
    let x = c.index-relations-number.result in
    let base : c.loop-number.cells.items ≡ cells_from 0 (take i relations) = c.loop-number.invariant in
    c.in_ok-add_cells.ensures ∙ ap (λ b. b ++ map (cell_of i) (open_tuples x)) base
    ∙ ap (λ (y : Relation). cells_from 0 (take i relations) ++ map (cell_of i) (open_tuples y)) c.index-relations-number.is ∙ sym (cells_more relations i x c.loop-number-test.true)
