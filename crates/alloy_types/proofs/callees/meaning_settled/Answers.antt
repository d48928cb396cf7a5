use Rattle.std.proofs.Common.{ap, ◌∙◌, Ok}
use Rattle.std.proofs.lemmas.Result.{err_from_is_err_and}
use Rattle.named_model.specs.Phrase.{PhraseTree}
use Rattle.named_model.specs.Model.{value}
use Rattle.named_model.specs.View.{phrase_view, meaning_view}
use Rattle.model_types.specs.Models.{meaning_settled}
use Rattle.overload_resolution.proofs.Settling.Reaching.{told_then}
use Rattle.overload_resolution.specs.Scopes.Declaring.{declared_by}
use Rattle.alloy_types.specs.Meanings.{value_settled}
use Rattle.alloy_types.proofs.NamedRelations.{value_apart}
use Rattle.alloy_types.proofs.callees.meaning_settled.Goals as goal

pub returns-in_err-range-in-Value : goal.returns-in_err-range-in-Value
returns-in_err-range-in-Value c =
    let d = declared_by c.args.setting.now in
    let ls = c.args.scope.now.locals in
    let range = phrase_view c.in-Value.range in
    let body = phrase_view c.in-Value.body in
    let p = err_from_is_err_and c.from_residual-in_err-range-in-Value.result c.from_residual-in_err-range-in-Value.ensures.1 in
    rw (p.1, p.2) (told_then c.in_err-range-in-Value.field-0.0 (value_settled d ls range body) (λ (r : PhraseTree × PhraseTree). Ok (value r.0 r.1)) (meaning_settled d ls (meaning_view c.args.meaning.now))
    (ap (λ m. meaning_settled d ls (meaning_view m)) c.in-Value.is ∙ value_apart d ls range body) c.in_err-range-in-Value.ensures)
