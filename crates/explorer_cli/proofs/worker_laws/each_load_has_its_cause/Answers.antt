use Rattle.std.proofs.Common.{ℕ, List}
use Rattle.script_format.specs.declared.entries.Script.{Script}
use Rattle.script_format.specs.Generated.{generated}
use Rattle.named_model.specs.Model.{NamedTree}
use Rattle.served_models.specs.declared.purposes.Purpose.TheVariants.{Lists}
use Rattle.explorer_cli.specs.Load.{IsSummaryOf}
use Rattle.explorer_cli.proofs.Statuses.{fault_answer, model_answer, told_answer}
use Rattle.explorer_cli.proofs.worker_laws.each_load_has_its_cause.Goals as goal

pub returns : goal.returns
returns c =
    let law = c.models_are_used_one_way.ensures in
    let Told : Script → List NamedTree → List ℕ → Type 0 = λ s models text. IsSummaryOf 20000 s.sessions models text in
    record {
      fault = λ number workers bytes. fault_answer law.models law.refused law.either Lists Told (generated number);
      model = λ number workers bytes. model_answer law.models law.refused law.either Lists Told (generated number);
      load = λ number workers bytes. told_answer law.models law.refused law.either Lists Told (generated number);
    }
