use Rattle.std.proofs.Common.{◌+◌, ◌++◌, map, drop, sym, ◌∙◌, append-nil}
use Rattle.rel_formula.specs.View.{formula_tree}
use Rattle.named_model.specs.Phrase.{domains_of}
use Rattle.named_model.specs.View.{domain_view}
use Rattle.lowering_rules.specs.Binders.{differences_in}
use Rattle.body_lowering.proofs.Loops.{loop_more, loop_all}
use Rattle.body_lowering.proofs.Domains.{apart}
use Rattle.body_lowering.proofs.quantifiers.differences.Goals as goal

pub loop-domain-preserved : goal.loop-domain-preserved
loop-domain-preserved c =
    let ds = c.args.domains.now in
    let i = c.loop-domain.domain-index in
    let x = c.domain-item.result in
    let n = c.loop-domain.level in
    let k = c.in_ok-level.level in
    let fs = map formula_tree c.loop-domain.formulas.items in
    let gs = map formula_tree c.add_apart.new.formulas.items in
    loop_more
    (λ ys. fs ++ differences_in c.args.depth n (domains_of (map domain_view ys)))
    (λ ys. gs ++ differences_in c.args.depth k (domains_of (map domain_view ys)))
    ds i x (differences_in c.args.depth c.args.first (domains_of (map domain_view ds))) c.loop-domain-test.true c.domain-item.is
    (apart (domain_view x) (domains_of (map domain_view (drop (i + 1) ds))) c.args.depth n k fs gs c.in_ok-level.ensures.level c.in_ok-level.ensures.value) c.loop-domain.invariant

pub returns : goal.returns
returns c =
    let ds = c.args.domains.now in
    let fs = map formula_tree c.loop-domain.formulas.items in
    sym (append-nil fs) ∙ loop_all (λ ys. fs ++ differences_in c.args.depth c.loop-domain.level (domains_of (map domain_view ys))) ds c.loop-domain.domain-index (differences_in c.args.depth c.args.first (domains_of (map domain_view ds))) c.loop-domain-test.false c.loop-domain.invariant
