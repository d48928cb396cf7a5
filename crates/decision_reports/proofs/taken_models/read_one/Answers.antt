use Rattle.std.proofs.Common.{subst}
use Rattle.named_model.specs.View.{named_view}
use Rattle.model_texts.specs.declared.typed_texts.reading.ModelText.{ModelText}
use Rattle.model_texts.specs.Texts.ModelText.{IsReading}
use Rattle.decision_reports.proofs.FoundModels.{found_of_model}
use Rattle.decision_reports.proofs.taken_models.read_one.Goals as goal

pub returns-in_ok-of_model-in-Typed : goal.returns-in_ok-of_model-in-Typed
returns-in_ok-of_model-in-Typed c =
    let says = subst (λ (found : ModelText). IsReading c.args.text.now found) c.in-Typed.is c.in_ok-model.ensures in
    found_of_model c.args.kind c.args.text.now (named_view c.in-Typed.model) c.in_ok-of_model-in-Typed.field-0 says c.in_ok-of_model-in-Typed.ensures
