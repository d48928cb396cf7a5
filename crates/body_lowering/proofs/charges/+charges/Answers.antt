use Rattle.std.proofs.Common.{inl, arith}
use Rattle.rel_formula.specs.View.{formula_tree}
use Rattle.body_lowering.proofs.FormulaNodes.{some_formula_node, junction_taken, junction_has_more, formulas_turn, formulas_end, formulas_have_more}
use Rattle.body_lowering.proofs.Nodes.{in_error}
use Rattle.body_lowering.proofs.charges.+charges.Goals as goal

pub charge_formula-returns-in_err-take-clause-err : goal.charge_formula-returns-in_err-take-clause-err
charge_formula-returns-in_err-take-clause-err t c = let some = some_formula_node (formula_tree c.args.f.now) in in_error c.from_residual.result (inl (omega (arith, some, c.in_err-take.ensures.few)))

pub charge_formula-returns-in_ok-charge_formulas-in-Junction-clause-ok : goal.charge_formula-returns-in_ok-charge_formulas-in-Junction-clause-ok
charge_formula-returns-in_ok-charge_formulas-in-Junction-clause-ok t c =
    junction_taken c.in-Junction.field-0 c.in-Junction.parts c.args.f.now c.in-Junction.is c.deref-in-Junction.result.now c.deref-in-Junction.ensures.value _ _ _ c.in_ok-take.ensures.ok c.in_ok-charge_formulas-in-Junction.ensures.ok

pub charge_formula-returns-in_err-charge_formulas-in-Junction-clause-err : goal.charge_formula-returns-in_err-charge_formulas-in-Junction-clause-err
charge_formula-returns-in_err-charge_formulas-in-Junction-clause-err t c =
    in_error c.from_residual-in_err-charge_formulas-in-Junction.result
    (junction_has_more c.in-Junction.field-0 c.in-Junction.parts c.args.f.now c.in-Junction.is c.deref-in-Junction.result.now c.deref-in-Junction.ensures.value _ _ _ c.in_ok-take.ensures.ok c.in_err-charge_formulas-in-Junction.ensures.err)

pub charge_formulas-loop-part-preserved : goal.charge_formulas-loop-part-preserved
charge_formulas-loop-part-preserved t c =
    let turn = formulas_turn c.args.parts.now c.loop-part.part-index c.part-item.result c.loop-part-test.true c.part-item.is in
    omega (arith, c.loop-part.invariant, turn, c.in_ok-charge_formula.ensures.ok)

pub charge_formulas-returns-in_err-charge_formula-clause-err : goal.charge_formulas-returns-in_err-charge_formula-clause-err
charge_formulas-returns-in_err-charge_formula-clause-err t c =
    in_error c.from_residual.result
    (formulas_have_more c.args.parts.now c.loop-part.part-index c.part-item.result c.args.room.now.nodes c.loop-part.room.nodes c.args.levels c.loop-part-test.true c.part-item.is c.loop-part.invariant c.in_err-charge_formula.ensures.err)

pub charge_formulas-returns-clause-ok : goal.charge_formulas-returns-clause-ok
charge_formulas-returns-clause-ok t c =
    let none = formulas_end c.args.parts.now c.loop-part.part-index c.loop-part-test.false in
    omega (arith, c.loop-part.invariant, none)
