use Rattle.std.proofs.Common.{sym, ◌∙◌}
use Rattle.alloy_syntax.specs.View.{paragraph_view}
use Rattle.named_model.specs.Faults.{command_faults}
use Rattle.sig_resolve.proofs.Commands.Commands.{first_later, first_here, none_left}
use Rattle.sig_resolve.proofs.command_names.faults.first_of.Goals as goal

pub loop-paragraph-preserved : goal.loop-paragraph-preserved
loop-paragraph-preserved c = λ ps are.
    first_later paragraph_view (command_faults ps c.args.names.now.globals) c.args.paragraphs.now c.loop-paragraph.paragraph-index _ (c.loop-paragraph.invariant ps are) c.paragraph-item.result c.loop-paragraph-test.true c.paragraph-item.is c.fault_of-fault.result (sym c.is_some.ensures ∙ c.if-is_some.false) (c.fault_of-fault.ensures ps are)

pub returns-then-is_some : goal.returns-then-is_some
returns-then-is_some c = λ ps are.
    first_here paragraph_view (command_faults ps c.args.names.now.globals) c.args.paragraphs.now c.loop-paragraph.paragraph-index _ (c.loop-paragraph.invariant ps are) c.paragraph-item.result c.loop-paragraph-test.true c.paragraph-item.is c.fault_of-fault.result (sym c.is_some.ensures ∙ c.if-is_some.true) (c.fault_of-fault.ensures ps are)

pub returns : goal.returns
returns c = λ ps are. none_left paragraph_view (command_faults ps c.args.names.now.globals) c.args.paragraphs.now c.loop-paragraph.paragraph-index _ (c.loop-paragraph.invariant ps are) c.loop-paragraph-test.false
