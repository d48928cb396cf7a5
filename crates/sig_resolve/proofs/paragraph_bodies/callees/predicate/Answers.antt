use Rattle.std.proofs.Common.{◌≡◌, List, [], map, ◌∙◌, subst}
use Rattle.std.proofs.lemmas.Result.{err_from_is_err_and}
use Rattle.alloy_syntax.specs.declared.tree.Node.{Node}
use Rattle.alloy_syntax.specs.Tree.{declarations_of, trees_of}
use Rattle.alloy_syntax.specs.View.{declaration_view, block_view, views}
use Rattle.named_model.specs.Names.{behind_declarations, all_faults, all_resolved}
use Rattle.named_model.specs.Phrase.{domains_of}
use Rattle.named_model.specs.View.{domain_view, phrases_view}
use Rattle.name_tables.specs.InForce.{InForce}
use Rattle.name_tables.specs.Told.{IsTold}
use Rattle.sig_resolve.proofs.Paragraphs.ParagraphParts.{left_all, predicate_all, predicate_told, predicate_body_told}
use Rattle.sig_resolve.proofs.paragraph_bodies.callees.predicate.Goals as goal

pub returns-clause-value : goal.returns-clause-value
returns-clause-value c =
    let first : InForce = c.parameters.new.names in
    let body = subst (λ (xs : List Node). (all_faults first.globals first.locals (trees_of (views xs)) ≡ []) × (phrases_view c.in_ok-body.body.items ≡ all_resolved first.globals first.locals (trees_of (views xs)))) c.deref.ensures.value c.in_ok-body.ensures.value in
    predicate_all c.args.names.now c.requires.global (map declaration_view c.args.declarations.now) c.args.name.now (block_view c.args.block.now) first (domains_of (map domain_view c.in_ok-domains.domains.items)) (phrases_view c.in_ok-body.body.items) c.in_ok-domains.ensures.names c.in_ok-domains.ensures.value body

pub returns-clause-names : goal.returns-clause-names
returns-clause-names c =
    left_all c.args.names.now c.formulas.new.names c.leave_until.new.names (behind_declarations c.args.names.now.locals (declarations_of (map declaration_view c.args.declarations.now))) c.requires.global (c.in_ok-body.ensures.names ∙ c.in_ok-domains.ensures.names) c.leave_until.ensures.left

pub returns-in_err-domains-clause-value : goal.returns-in_err-domains-clause-value
returns-in_err-domains-clause-value c =
    let p = err_from_is_err_and c.from_residual.result c.from_residual.ensures.1 in
    rw (p.1, p.2) (predicate_told c.args.names.now c.requires.global (map declaration_view c.args.declarations.now) c.args.name.now (block_view c.args.block.now) c.in_err-domains.field-0.0 c.in_err-domains.ensures.value)

pub returns-in_err-body-clause-value : goal.returns-in_err-body-clause-value
returns-in_err-body-clause-value c =
    let first : InForce = c.parameters.new.names in
    let e = c.in_err-body.field-0.0 in
    let p = err_from_is_err_and c.from_residual-in_err-body.result c.from_residual-in_err-body.ensures.1 in
    let told = subst (λ (xs : List Node). IsTold e (all_faults first.globals first.locals (trees_of (views xs)))) c.deref.ensures.value c.in_err-body.ensures.value in
    rw (p.1, p.2) (predicate_body_told c.args.names.now c.requires.global (map declaration_view c.args.declarations.now) c.args.name.now (block_view c.args.block.now) e first (domains_of (map domain_view c.in_ok-domains.domains.items)) c.in_ok-domains.ensures.names c.in_ok-domains.ensures.value told)
