use Rattle.std.proofs.Common.{ap, ◌∙◌, sym}
use Rattle.alloy_syntax.specs.declared.tree.Paragraph.{Paragraph}
use Rattle.alloy_syntax.specs.View.{paragraph_view}
use Rattle.named_model.specs.Answers.{first_in}
use Rattle.named_model.specs.Faults.{command_faults}
use Rattle.sig_resolve.proofs.command_names.faults.fault_of.Goals as goal

pub returns-in-Command : goal.returns-in-Command
returns-in-Command c = λ ps are. c.command_fault.ensures ps are ∙ ap (λ (p : Paragraph). first_in (command_faults ps c.args.names.now.globals (paragraph_view p))) (sym c.in-Command.is)

pub returns-in-Signatures : goal.returns-in-Signatures
returns-in-Signatures c = λ ps are. ap (λ (p : Paragraph). first_in (command_faults ps c.args.names.now.globals (paragraph_view p))) (sym c.in-Signatures.is)

pub returns-in-Fact : goal.returns-in-Fact
returns-in-Fact c = λ ps are. ap (λ (p : Paragraph). first_in (command_faults ps c.args.names.now.globals (paragraph_view p))) (sym c.in-Fact.is)

pub returns-in-Predicate : goal.returns-in-Predicate
returns-in-Predicate c = λ ps are. ap (λ (p : Paragraph). first_in (command_faults ps c.args.names.now.globals (paragraph_view p))) (sym c.in-Predicate.is)

pub returns-in-Function : goal.returns-in-Function
returns-in-Function c = λ ps are. ap (λ (p : Paragraph). first_in (command_faults ps c.args.names.now.globals (paragraph_view p))) (sym c.in-Function.is)

pub returns-in-Assertion : goal.returns-in-Assertion
returns-in-Assertion c = λ ps are. ap (λ (p : Paragraph). first_in (command_faults ps c.args.names.now.globals (paragraph_view p))) (sym c.in-Assertion.is)
