use Rattle.std.proofs.Common.{◌≡◌, suc, ◌-◌, ◌∙◌, sym, arith}
use Rattle.named_model.specs.View.{named_view}
use Rattle.rel_lower.proofs.Numbers.{command_behind}
use Rattle.rel_lower.proofs.commands.command_at.Goals as goal

pub returns : goal.returns
returns c =
    let e : c.args.number ≡ suc (c.args.number - 1) = omega arith in
    c.command_behind.ensures ∙ sym (command_behind (named_view c.args.model.now) c.args.number (c.args.number - 1) e)
