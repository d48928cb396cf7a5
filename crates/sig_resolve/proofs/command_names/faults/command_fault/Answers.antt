use Rattle.std.proofs.Common.{ap, ◌∙◌, sym, option_map}
use Rattle.alloy_syntax.specs.declared.tree.Target.{Target}
use Rattle.alloy_syntax.specs.Tree.{command}
use Rattle.alloy_syntax.specs.View.{block_view, scope_view, target_view}
use Rattle.named_model.specs.Answers.{first_in}
use Rattle.named_model.specs.Faults.{command_faults}
use Rattle.sig_resolve.proofs.Commands.Commands.{named_faults, block_faults}
use Rattle.sig_resolve.proofs.command_names.faults.command_fault.Goals as goal

pub returns-in-Named : goal.returns-in-Named
returns-in-Named c = λ ps are.
    let g = c.args.names.now.globals in
    let x = c.args.command.now in
    let scope = option_map scope_view x.scope in
    c.name_fault.ensures ps are
    ∙ ap first_in (named_faults ps g x.kind x.place c.in-Named.name scope x.expected)
    ∙ ap (λ (t : Target). first_in (command_faults ps g (command x.kind x.place (target_view t) scope x.expected))) (sym c.in-Named.is)

pub returns-in-Block : goal.returns-in-Block
returns-in-Block c = λ ps are.
    let g = c.args.names.now.globals in
    let x = c.args.command.now in
    let scope = option_map scope_view x.scope in
    block_faults ps g x.kind x.place c.in-Block.field-0 (block_view c.in-Block.field-1) scope x.expected
    ∙ ap (λ (t : Target). first_in (command_faults ps g (command x.kind x.place (target_view t) scope x.expected))) (sym c.in-Block.is)
