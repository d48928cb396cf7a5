use Rattle.std.proofs.Common.{false}
use Rattle.sig_resolve.proofs.Commands.Runs.{runs_more}
use Rattle.sig_resolve.proofs.command_names.predicates.enter.Goals as goal

pub returns : goal.returns
returns c = λ runs are.
    runs_more runs c.args.all.now.names _ c.args.all.now.higher.items _ c.args.name.now.text c.args.is_higher (record { name = c.text.result.now; is_function = false; parameters = 0 })
    c.in_ok-declare_callee.ensures.ok c.text.ensures.value c.in_ok-push.ensures.items are
