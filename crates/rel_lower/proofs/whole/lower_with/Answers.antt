use Rattle.std.proofs.Common.{option_map, sym, ap, ◌∙◌}
use Rattle.named_model.specs.View.{command_view, named_view}
use Rattle.rel_lower.proofs.whole.lower_with.Goals as goal

pub returns-in-Err : goal.returns-in-Err
returns-in-Err c =
    c.of_sizes.ensures (named_view c.args.model.now) c.args.command c.args.facts.now (command_view c.in-Some.declared.now)
    (sym c.command_at.ensures ∙ ap (option_map (λ command. command_view command.now)) c.in-Some.is) c.in-Err.ensures
