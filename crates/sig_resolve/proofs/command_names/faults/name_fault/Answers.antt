use Rattle.std.proofs.Common.{ap, ◌∙◌, sym}
use Rattle.alloy_syntax.specs.declared.tree.CommandKind.{CommandKind}
use Rattle.named_model.specs.Answers.{first_in}
use Rattle.named_model.specs.Faults.{run_faults}
use Rattle.sig_resolve.specs.Commands.Predicates.{name_faults}
use Rattle.sig_resolve.proofs.Commands.Runs.{runs_at}
use Rattle.sig_resolve.proofs.command_names.faults.name_fault.Goals as goal

pub returns-in-Run : goal.returns-in-Run
returns-in-Run c = λ ps are.
    let n = c.args.name.now in
    c.fault.ensures _ are
    ∙ ap (λ bs. first_in (run_faults n.place bs)) (sym (runs_at n.text ps))
    ∙ ap (λ (k : CommandKind). first_in (name_faults ps c.args.names.now.globals k n)) (sym c.in-Run.is)

pub returns-in-Check : goal.returns-in-Check
returns-in-Check c = λ ps are.
    c.check_fault.ensures
    ∙ ap (λ (k : CommandKind). first_in (name_faults ps c.args.names.now.globals k c.args.name.now)) (sym c.in-Check.is)
