use Rattle.std.proofs.Common.{List, [], ap, sym, ◌∙◌}
use Rattle.named_model.specs.declared.named.Meaning.{Meaning}
use Rattle.named_model.specs.View.{phrase_view, meaning_view}
use Rattle.model_types.specs.Typing.{Local, settled}
use Rattle.overload_resolution.specs.Scopes.Declaring.{declared_by}
use Rattle.alloy_types.specs.Headers.Bodies.{tree_of, body_in}
use Rattle.alloy_types.specs.Calls.Meanings.{kind_in, kind_with}
use Rattle.alloy_types.proofs.Calls.Grouped.{range_is}
use Rattle.alloy_types.proofs.known_callees.callee.meaning_known.Goals as goal

pub returns-in_ok-body-in-Value-clause-kind : goal.returns-in_ok-body-in-Value-clause-kind
returns-in_ok-body-in-Value-clause-kind c =
    let d = declared_by c.args.setting.now in
    let locals : List Local = c.args.scope.now.locals in
    c.range_kind.ensures ∙ ap kind_with c.in_ok-range-in-Value.ensures.value ∙ sym (range_is (settled d locals [] (phrase_view c.in-Value.range)))
    ∙ ap (λ (m : Meaning). kind_in d locals (meaning_view m)) (sym c.in-Value.is)

pub returns-in_ok-body-in-Value-clause-body : goal.returns-in_ok-body-in-Value-clause-body
returns-in_ok-body-in-Value-clause-body c =
    let d = declared_by c.args.setting.now in
    let locals : List Local = c.args.scope.now.locals in
    c.in_ok-body-in-Value.ensures ∙ ap (λ (ls : List Local). tree_of (settled d ls [] (phrase_view c.in-Value.body))) c.in_ok-range-in-Value.ensures.locals
    ∙ ap (λ (m : Meaning). body_in d locals (meaning_view m)) (sym c.in-Value.is)
