use Rattle.std.proofs.Common.{false, List, map, ap, sym, ◌∙◌}
use Rattle.std.proofs.lemmas.Result.{err_from_is_err_and}
use Rattle.named_model.specs.declared.phrase.Domain.{Domain}
use Rattle.named_model.specs.Phrase.{domains_of}
use Rattle.named_model.specs.View.{domain_view, meaning_view, callee_view}
use Rattle.model_types.specs.Typing.{Local, domains_settled}
use Rattle.overload_resolution.specs.Settling.Same.{Asks}
use Rattle.overload_resolution.specs.Scopes.Declaring.{declared_by}
use Rattle.overload_resolution.proofs.Scopes.Standing.{same_types}
use Rattle.alloy_types.specs.Meanings.{shared_in_meaning}
use Rattle.alloy_types.proofs.NamedRelations.{callee_told, callee_is}
use Rattle.alloy_types.proofs.callees.callee_settled.Goals.{then-is_in_domains, else-is_in_domains}
use Rattle.alloy_types.proofs.callees.callee_settled.Goals as goal

pub returns-in_err-meaning : goal.returns-in_err-meaning
returns-in_err-meaning c =
    let d = declared_by c.args.setting.now in
    let callee = callee_view c.args.callee.now in
    let asked = c.if-is_in_domains.asked in
    let found = c.in_ok-parameters.ensures.value in
    let asks : Asks (shared_in_meaning callee.meaning) asked = elim c.if-is_in_domains.branch [
      | then-is_in_domains w ↦ λ e. w.asked-is ∙ w.if-is_in_domains.true
      | else-is_in_domains w ↦ λ e. w.asked-is ∙ w.is_in_meaning-asked.ensures ∙ e
    ] in
    let are = ap (λ (ls : List Local). domains_settled false d ls callee.parameters) (sym c.new.ensures) ∙ ap (λ (xs : List Domain). domains_settled false d c.new.result (domains_of (map domain_view xs))) (sym c.deref-2.ensures.value) ∙ found.1 in
    let p = err_from_is_err_and c.from_residual-in_err-meaning.result c.from_residual-in_err-meaning.ensures.1 in
    rw (p.1, p.2) (callee_told d (same_types c.args.setting.now c.requires) callee asked (domains_of (map domain_view c.in_ok-parameters.parameters.items)) c.domains.new.scope.locals found.0 are found.2 asks c.in_err-meaning.field-0.0 c.in_err-meaning.ensures)

pub returns : goal.returns
returns c =
    let d = declared_by c.args.setting.now in
    let callee = callee_view c.args.callee.now in
    let asked = c.if-is_in_domains.asked in
    let found = c.in_ok-parameters.ensures.value in
    let asks : Asks (shared_in_meaning callee.meaning) asked = elim c.if-is_in_domains.branch [
      | then-is_in_domains w ↦ λ e. w.asked-is ∙ w.if-is_in_domains.true
      | else-is_in_domains w ↦ λ e. w.asked-is ∙ w.is_in_meaning-asked.ensures ∙ e
    ] in
    let are = ap (λ (ls : List Local). domains_settled false d ls callee.parameters) (sym c.new.ensures) ∙ ap (λ (xs : List Domain). domains_settled false d c.new.result (domains_of (map domain_view xs))) (sym c.deref-2.ensures.value) ∙ found.1 in
    callee_is d (same_types c.args.setting.now c.requires) callee asked (domains_of (map domain_view c.in_ok-parameters.parameters.items)) c.domains.new.scope.locals found.0 are found.2 asks (meaning_view c.in_ok-meaning.meaning) c.in_ok-meaning.ensures
