use Rattle.std.proofs.Common.{sym, ◌∙◌}
use Rattle.renaming_classes.proofs.Decided.{first_here, first_later, first_nowhere}
use Rattle.renaming_classes.proofs.orbits.first_of.Goals as goal

pub loop-atom-preserved : goal.loop-atom-preserved
loop-atom-preserved c = sym (first_later c.args.atoms.now c.loop-atom.atom-index c.args.top (record { top = 0; place = 0 }) c.loop-atom-test.true c.if-atom-top.false) ∙ c.loop-atom.invariant

pub returns-then-atom-top : goal.returns-then-atom-top
returns-then-atom-top c = sym (first_here c.args.atoms.now c.loop-atom.atom-index c.args.top (record { top = 0; place = 0 }) c.loop-atom-test.true c.if-atom-top.true) ∙ c.loop-atom.invariant

pub returns : goal.returns
returns c = sym (first_nowhere c.args.atoms.now c.loop-atom.atom-index c.args.top (record { top = 0; place = 0 }) c.loop-atom-test.false) ∙ c.loop-atom.invariant
