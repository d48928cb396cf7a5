use Rattle.std.proofs.Common.{◌≡◌, rules, map, length, take, ap, ◌∙◌}
use Rattle.named_model.specs.Phrase.{domains_of}
use Rattle.named_model.specs.View.{domain_view}
use Rattle.lowering_rules.specs.Binders.{behind_domains}
use Rattle.body_lowering.specs.Locals.{locals_view}
use Rattle.body_lowering.proofs.Entered.{left_again, domains_inside}
use Rattle.body_lowering.proofs.rules.Rules.quantify.Goals as goal

pub returns-clause-locals : goal.returns-clause-locals
returns-clause-locals g c =
    let d = c.args.at.binders in
    let old = c.args.locals.now.items in
    let all = c.formula.new.locals.items in
    let ds = domains_of (map domain_view c.args.domains.now) in
    let cut : c.truncate.new.self.items ≡ take (length old) all = search rules in
    ap locals_view cut ∙ left_again all old (behind_domains d ds (locals_view old)) (c.in_ok-body.ensures.locals ∙ c.in_ok-variables.ensures.locals) (domains_inside d ds (locals_view old))
