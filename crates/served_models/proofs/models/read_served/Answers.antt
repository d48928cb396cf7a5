use Rattle.std.proofs.Common.{subst}
use Rattle.std.proofs.lemmas.Result.{err_from_is_err_and}
use Rattle.named_model.specs.View.{named_view}
use Rattle.model_texts.specs.declared.typed_texts.reading.ModelText.{ModelText}
use Rattle.model_texts.specs.Texts.ModelText.{IsReading}
use Rattle.served_models.proofs.Usables.{found_of_served}
use Rattle.served_models.proofs.models.read_served.Goals as goal

pub returns-in_ok-served-in-Typed-clause-found : goal.returns-in_ok-served-in-Typed-clause-found
returns-in_ok-served-in-Typed-clause-found c =
    let says = subst (λ (found : ModelText). IsReading c.args.text.now found) c.in-Typed.is c.in_ok-model.ensures in
    found_of_served c.args.purpose c.args.sessions.now c.args.place (named_view c.in-Typed.model) c.args.text.now c.in_ok-served-in-Typed.field-0 says c.in_ok-served-in-Typed.ensures.found

pub returns-in_err-served-in-Typed-clause-large : goal.returns-in_err-served-in-Typed-clause-large
returns-in_err-served-in-Typed-clause-large c =
    let says = subst (λ (found : ModelText). IsReading c.args.text.now found) c.in-Typed.is c.in_ok-model.ensures in
    let p = err_from_is_err_and c.from_residual-in_err-served-in-Typed.result c.from_residual-in_err-served-in-Typed.ensures.1 in
    rw (p.1, p.2) (λ is. (named_view c.in-Typed.model, says, c.in_err-served-in-Typed.ensures.large is))
