use Rattle.std.proofs.Common.{◌≡◌, List, [], map, ◌∙◌, subst}
use Rattle.std.proofs.lemmas.Result.{err_from_is_err_and}
use Rattle.alloy_syntax.specs.declared.tree.Declaration.{Declaration}
use Rattle.alloy_syntax.specs.Tree.{declarations_of}
use Rattle.alloy_syntax.specs.View.{declaration_view, view}
use Rattle.named_model.specs.Names.{behind_declarations, resolved, faults_of, parameter_faults, declarations_resolved}
use Rattle.named_model.specs.Phrase.{domains_of, DomainTrees}
use Rattle.named_model.specs.View.{domain_view, phrase_view}
use Rattle.name_tables.specs.InForce.{InForce, with_locals}
use Rattle.name_tables.specs.Told.{IsTold}
use Rattle.sig_resolve.proofs.Paragraphs.ParagraphParts.{left_all, function_all, function_told, function_range_told, function_body_told}
use Rattle.sig_resolve.proofs.paragraph_bodies.callees.function.Goals as goal

-- what is known behind the parameters, for the list of them that the function has
abbrev AreBehind : InForce → InForce → List Declaration → Type 0
AreBehind n first ds = first ≡ with_locals n (behind_declarations n.locals (declarations_of (map declaration_view ds)))

abbrev AreParameters : InForce → DomainTrees → List Declaration → Type 0
AreParameters n xs ds = (parameter_faults n.globals n.locals (map declaration_view ds) ≡ []) × (xs ≡ declarations_resolved n.globals n.locals (declarations_of (map declaration_view ds)))

-- the names are the same for the range and for the body
pub returns-clause-value : goal.returns-clause-value
returns-clause-value c =
    let n : InForce = c.args.names.now in
    let f = c.args.function.now in
    let xs = domains_of (map domain_view c.in_ok-domains.domains.items) in
    let behind = subst (AreBehind n c.parameters.new.names) c.deref.ensures.value c.in_ok-domains.ensures.names in
    let params = subst (AreParameters n xs) c.deref.ensures.value c.in_ok-domains.ensures.value in
    let other = subst (λ (m : InForce). (faults_of m.globals m.locals 0 (view f.body) ≡ []) × (phrase_view c.in_ok-body.body ≡ resolved m.globals m.locals (view f.body))) c.in_ok-range.ensures.names c.in_ok-body.ensures.value in
    function_all n c.requires.global (map declaration_view f.parameters.items) f.name f.mark (view f.range) (view f.body) c.parameters.new.names xs (phrase_view c.in_ok-range.range) (phrase_view c.in_ok-body.body) behind params c.in_ok-range.ensures.value other

pub returns-clause-names : goal.returns-clause-names
returns-clause-names c =
    let n : InForce = c.args.names.now in
    let ds = map declaration_view c.args.function.now.parameters.items in
    let behind = subst (AreBehind n c.parameters.new.names) c.deref.ensures.value c.in_ok-domains.ensures.names in
    left_all n c.expression-2.new.names c.leave_until.new.names (behind_declarations n.locals (declarations_of ds)) c.requires.global (c.in_ok-body.ensures.names ∙ c.in_ok-range.ensures.names ∙ behind) c.leave_until.ensures.left

pub returns-in_err-domains-clause-value : goal.returns-in_err-domains-clause-value
returns-in_err-domains-clause-value c =
    let n : InForce = c.args.names.now in
    let f = c.args.function.now in
    let e = c.in_err-domains.field-0.0 in
    let p = err_from_is_err_and c.from_residual.result c.from_residual.ensures.1 in
    let told = subst (λ (ds : List Declaration). IsTold e (parameter_faults n.globals n.locals (map declaration_view ds))) c.deref.ensures.value c.in_err-domains.ensures.value in
    rw (p.1, p.2) (function_told n c.requires.global (map declaration_view f.parameters.items) f.name f.mark (view f.range) (view f.body) e told)

pub returns-in_err-range-clause-value : goal.returns-in_err-range-clause-value
returns-in_err-range-clause-value c =
    let n : InForce = c.args.names.now in
    let f = c.args.function.now in
    let e = c.in_err-range.field-0.0 in
    let xs = domains_of (map domain_view c.in_ok-domains.domains.items) in
    let p = err_from_is_err_and c.from_residual-in_err-range.result c.from_residual-in_err-range.ensures.1 in
    let behind = subst (AreBehind n c.parameters.new.names) c.deref.ensures.value c.in_ok-domains.ensures.names in
    let params = subst (AreParameters n xs) c.deref.ensures.value c.in_ok-domains.ensures.value in
    rw (p.1, p.2) (function_range_told n c.requires.global (map declaration_view f.parameters.items) f.name f.mark (view f.range) (view f.body) e c.parameters.new.names xs behind params c.in_err-range.ensures.value)

pub returns-in_err-body-clause-value : goal.returns-in_err-body-clause-value
returns-in_err-body-clause-value c =
    let n : InForce = c.args.names.now in
    let f = c.args.function.now in
    let e = c.in_err-body.field-0.0 in
    let xs = domains_of (map domain_view c.in_ok-domains.domains.items) in
    let p = err_from_is_err_and c.from_residual-in_err-body.result c.from_residual-in_err-body.ensures.1 in
    let behind = subst (AreBehind n c.parameters.new.names) c.deref.ensures.value c.in_ok-domains.ensures.names in
    let params = subst (AreParameters n xs) c.deref.ensures.value c.in_ok-domains.ensures.value in
    let told = subst (λ (m : InForce). IsTold e (faults_of m.globals m.locals 0 (view f.body))) c.in_ok-range.ensures.names c.in_err-body.ensures.value in
    rw (p.1, p.2) (function_body_told n c.requires.global (map declaration_view f.parameters.items) f.name f.mark (view f.range) (view f.body) e c.parameters.new.names xs (phrase_view c.in_ok-range.range) behind params c.in_ok-range.ensures.value told)
