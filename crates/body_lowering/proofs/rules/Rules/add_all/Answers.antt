use Rattle.std.proofs.Common.{◌≡◌, ◌+◌, ◌++◌, map, drop, sym, ◌∙◌, append-nil, arith}
use Rattle.rel_formula.specs.View.{expression_tree}
use Rattle.named_model.specs.Phrase.{domains_of}
use Rattle.named_model.specs.View.{domain_view, named_view}
use Rattle.lowering_rules.specs.Binders as binders
use Rattle.lowering_rules.specs.Binders.{behind_domains, variables_in}
use Rattle.lowering_rules.specs.Lowering.{base_within, domains_lowered}
use Rattle.body_lowering.specs.Locals.{locals_view}
use Rattle.body_lowering.proofs.Loops.{loop_more, loop_all}
use Rattle.body_lowering.proofs.Domains.{counted, entered, added}
use Rattle.body_lowering.proofs.rules.Rules.add_all.Goals as goal

pub loop-domain-preserved : goal.loop-domain-preserved
loop-domain-preserved g c =
    let base = base_within c.args.at.calls (named_view c.args.model.now) in
    let ds = c.args.domains.now in
    let i = c.loop-domain.domain-index in
    let x = c.domain-item.result in
    let rest = domains_of (map domain_view (drop (i + 1) ds)) in
    let n = c.loop-domain.binders in
    let k = c.in_ok-binders.binders in
    let now = locals_view c.loop-domain.locals.items in
    let after = locals_view c.add_domain.new.locals.items in
    let es = map expression_tree c.loop-domain.all.items in
    let fs = map expression_tree c.add_domain.new.all.items in
    let e = c.in_ok-binders.ensures.binders in
    let f = c.in_ok-binders.ensures.locals in
    record {
      count = loop_more
          (λ ys. n + variables_in (domains_of (map domain_view ys)))
          (λ ys. k + variables_in (domains_of (map domain_view ys)))
          ds i x (c.args.at.binders + variables_in (domains_of (map domain_view ds))) c.loop-domain-test.true c.domain-item.is
          (counted (domain_view x) rest n k e) c.loop-domain.invariant.count;
      behind = loop_more
          (λ ys. behind_domains n (domains_of (map domain_view ys)) now)
          (λ ys. behind_domains k (domains_of (map domain_view ys)) after)
          ds i x (behind_domains c.args.at.binders (domains_of (map domain_view ds)) (locals_view c.args.locals.now.items)) c.loop-domain-test.true c.domain-item.is
          (entered (domain_view x) rest n k now after e f) c.loop-domain.invariant.behind;
      left = loop_more
          (λ ys. es ++ domains_lowered base now n (domains_of (map domain_view ys)))
          (λ ys. fs ++ domains_lowered base after k (domains_of (map domain_view ys)))
          ds i x (map expression_tree c.args.all.now.items ++ domains_lowered base (locals_view c.args.locals.now.items) c.args.at.binders (domains_of (map domain_view ds))) c.loop-domain-test.true c.domain-item.is
          (added (domain_view x) rest base n k now after es fs e f c.in_ok-binders.ensures.value) c.loop-domain.invariant.left;
    }

pub returns-clause-value : goal.returns-clause-value
returns-clause-value g c =
    let base = base_within c.args.at.calls (named_view c.args.model.now) in
    let ds = c.args.domains.now in
    let es = map expression_tree c.loop-domain.all.items in
    sym (append-nil es) ∙ loop_all (λ ys. es ++ domains_lowered base (locals_view c.loop-domain.locals.items) c.loop-domain.binders (domains_of (map domain_view ys))) ds c.loop-domain.domain-index (map expression_tree c.args.all.now.items ++ domains_lowered base (locals_view c.args.locals.now.items) c.args.at.binders (domains_of (map domain_view ds))) c.loop-domain-test.false c.loop-domain.invariant.left

pub returns-clause-binders : goal.returns-clause-binders
returns-clause-binders g c =
    let ds = c.args.domains.now in
    let sum : c.loop-domain.binders + 0 ≡ c.args.at.binders + variables_in (domains_of (map domain_view ds)) = loop_all (λ ys. c.loop-domain.binders + variables_in (domains_of (map domain_view ys))) ds c.loop-domain.domain-index (c.args.at.binders + variables_in (domains_of (map domain_view ds))) c.loop-domain-test.false c.loop-domain.invariant.count in
    omega (arith, sum)

pub returns-clause-locals : goal.returns-clause-locals
returns-clause-locals g c =
    let ds = c.args.domains.now in
    loop_all (λ ys. behind_domains c.loop-domain.binders (domains_of (map domain_view ys)) (locals_view c.loop-domain.locals.items)) ds c.loop-domain.domain-index (behind_domains c.args.at.binders (domains_of (map domain_view ds)) (locals_view c.args.locals.now.items)) c.loop-domain-test.false c.loop-domain.invariant.behind
