use Rattle.std.proofs.Common.{◌∙◌, ◌-◌, ap, sym, subst, arith, length, List, Bool}
use Rattle.circuit_cnf.proofs.OutputMarks.{HasPassed, passes_on, are_marks, written_back}
use Rattle.circuit_cnf.proofs.marks.marks_of.Goals as goal

pub loop-i-preserved : goal.loop-i-preserved
loop-i-preserved c =
    let was = subst (λ (ms : List Bool). HasPassed c.args.circuit.now c.args.output c.loop-i.i ms) (sym c.deref_mut.ensures.value) c.loop-i.invariant in
    subst (λ (ms : List Bool). HasPassed c.args.circuit.now c.args.output (c.loop-i.i - 1) ms)
    (sym (written_back c.mark_operands.new.marks c.loop-i.marks.items c.loop-i.marks.len (sym c.deref_mut.ensures.len ∙ ap length c.deref_mut.ensures.value) (c.mark_operands.ensures.count ∙ ap length c.deref_mut.ensures.value)))
    (passes_on c.args.circuit.now c.args.output (c.loop-i.i - 1) c.args.circuit.now.inputs c.at.result c.deref_mut.result.now c.mark_operands.new.marks
    c.at.ensures.is c.at.ensures.before c.mark_operands.ensures.count c.mark_operands.ensures.marked c.loop-i.i (omega (arith, c.loop-i-test.true)) was)

pub returns : goal.returns
returns c = are_marks c.args.circuit.now c.args.output _ (subst (λ n. HasPassed c.args.circuit.now c.args.output n c.loop-i.marks.items) (omega (arith, c.loop-i-test.false)) c.loop-i.invariant)
