use Rattle.std.proofs.Common.{◌≡◌, ◌+◌, [], drop, ap, ◌∙◌, sym, subst}
use Rattle.std.proofs.lemmas.Result.{err_from_is_err_and}
use Rattle.alloy_syntax.specs.View.{declaration_view}
use Rattle.named_model.specs.Names as spec
use Rattle.named_model.specs.Names.{Globals}
use Rattle.named_model.specs.View as seen
use Rattle.name_tables.specs.InForce.{InForce}
use Rattle.name_tables.specs.Told.{IsTold}
use Rattle.sig_resolve.specs.Bodies.Each.{domain_resolved}
use Rattle.sig_resolve.proofs.Bodies.Variables.{ParametersLeft, declarations_behind, parameters_more, parameters_fault, parameters_all}
use Rattle.sig_resolve.proofs.body_names.headers.parameters.Goals as goal

pub loop-declaration-preserved : goal.loop-declaration-preserved
loop-declaration-preserved c =
    let n : InForce = c.args.names.now in
    let x = c.declaration-item.result in
    let y = c.in_ok-another.another in
    let inner = c.loop-declaration.names.locals in
    let one = subst (λ (g : Globals). (spec.faults_of g inner 0 (declaration_view x).domain ≡ []) × (seen.domain_view y ≡ domain_resolved g inner (declaration_view x))) c.loop-declaration.invariant.same c.in_ok-another.ensures.value in
    let names_are = c.in_ok-another.ensures.names in
    let locals_are : c.domain.new.names.locals ≡ spec.onto (declaration_view x).names inner = ap (λ (m : InForce). m.locals) names_are in
    record {
      same = ap (λ (m : InForce). m.globals) names_are ∙ c.loop-declaration.invariant.same;
      behind = rw locals_are (declarations_behind c.args.declarations.now c.loop-declaration.declaration-index x inner _ c.loop-declaration-test.true c.declaration-item.is c.loop-declaration.invariant.behind);
      left = subst (λ ls. ParametersLeft n.globals n.locals c.args.declarations.now ls (drop (c.loop-declaration.declaration-index + 1) c.args.declarations.now) c.push.new.self.items) (sym locals_are) (parameters_more n.globals n.locals c.args.declarations.now inner c.loop-declaration.declaration-index x y c.loop-declaration.all.items c.push.new.self.items c.loop-declaration-test.true c.declaration-item.is c.in_ok-push.ensures.items one c.loop-declaration.invariant.left);
    }

pub returns-in_err-another-clause-value : goal.returns-in_err-another-clause-value
returns-in_err-another-clause-value c =
    let n : InForce = c.args.names.now in
    let p = err_from_is_err_and c.from_residual.result c.from_residual.ensures.1 in
    let inner = c.loop-declaration.names.locals in
    let told = subst (λ (g : Globals). IsTold c.in_err-another.field-0.0 (spec.faults_of g inner 0 (declaration_view c.declaration-item.result).domain)) c.loop-declaration.invariant.same c.in_err-another.ensures.value in
    rw (p.1, p.2) (parameters_fault n.globals n.locals c.args.declarations.now inner c.loop-declaration.declaration-index c.declaration-item.result c.loop-declaration.all.items c.in_err-another.field-0.0 c.loop-declaration-test.true c.declaration-item.is told c.loop-declaration.invariant.left)

pub returns-clause-value : goal.returns-clause-value
returns-clause-value c =
    let n : InForce = c.args.names.now in
    parameters_all n.globals n.locals c.args.declarations.now c.loop-declaration.names.locals c.loop-declaration.declaration-index c.loop-declaration.all.items c.loop-declaration-test.false c.loop-declaration.invariant.left
