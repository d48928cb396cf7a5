use Rattle.std.proofs.lemmas.Result.{IfOk-weaker}
use Rattle.named_model.specs.View.{named_view}
use Rattle.model_types.specs.Models.{declared_in}
use Rattle.overload_resolution.specs.Scopes.Declaring.{declared_by}
use Rattle.alloy_types.specs.Outcomes.{AreOutcomes}
use Rattle.alloy_types.proofs.DeclarationLemmas.{outcomes_alike}
use Rattle.alloy_types.proofs.outcomes.outcomes_of.Goals as goal

pub returns : goal.returns
returns c =
    let m = named_view c.args.model.now in
    let d = declared_by c.in_ok-setting.setting in
    let e = declared_in m in
    IfOk-weaker c.outcomes_over.result (AreOutcomes m d) (AreOutcomes m e) (outcomes_alike d e c.in_ok-setting.ensures.value m) c.outcomes_over.ensures
