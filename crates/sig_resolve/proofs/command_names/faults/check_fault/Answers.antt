use Rattle.std.proofs.Common.{ap, ◌∙◌, sym}
use Rattle.named_model.specs.Names.{number_of}
use Rattle.sig_resolve.proofs.Commands.Commands.{one_to_check, none_to_check}
use Rattle.sig_resolve.proofs.command_names.faults.check_fault.Goals as goal

pub returns-in-Some : goal.returns-in-Some
returns-in-Some c =
    let g = c.args.names.now.globals in
    one_to_check g c.args.name.now c.in-Some.field-0 (ap (number_of g.assertions) (sym c.text.ensures.value) ∙ sym c.assertion.ensures ∙ c.in-Some.is)

pub returns-in-None : goal.returns-in-None
returns-in-None c =
    let g = c.args.names.now.globals in
    none_to_check g c.args.name.now (ap (number_of g.assertions) (sym c.text.ensures.value) ∙ sym c.assertion.ensures ∙ c.in-None.is)
