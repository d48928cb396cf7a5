use Rattle.std.proofs.Common.{◌≡◌, rules, length, take, ap, ◌∙◌}
use Rattle.named_model.specs.View.{phrases_view, named_view}
use Rattle.lowering_rules.specs.Lowering.{base_within, behind_values}
use Rattle.body_lowering.specs.Locals.{locals_view}
use Rattle.body_lowering.proofs.Entered.{left_again, values_inside}
use Rattle.body_lowering.proofs.rules.Rules.bound_by_let.Goals as goal

pub returns-clause-locals : goal.returns-clause-locals
returns-clause-locals g c =
    let base = base_within c.args.at.calls (named_view c.args.model.now) in
    let d = c.args.at.binders in
    let old = c.args.locals.now.items in
    let all = c.lower.new.locals.items in
    let values = phrases_view c.args.given.now in
    let cut : c.truncate.new.self.items ≡ take (length old) all = search rules in
    ap locals_view cut ∙ left_again all old (behind_values base (locals_view old) d values) (c.in_ok-part.ensures.locals ∙ c.in_ok-values.ensures) (values_inside base d values (locals_view old))
