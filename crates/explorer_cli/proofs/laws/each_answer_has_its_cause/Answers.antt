use Rattle.std.proofs.Common.{ℕ, List}
use Rattle.script_format.specs.declared.entries.Script.{Script}
use Rattle.named_model.specs.Model.{NamedTree}
use Rattle.served_models.specs.declared.purposes.Purpose.TheVariants.{Lists}
use Rattle.explorer_cli.specs.Outcome.{AreToldRuns}
use Rattle.explorer_cli.proofs.Statuses.{fault_answer, model_answer, told_answer}
use Rattle.explorer_cli.proofs.laws.each_answer_has_its_cause.Goals as goal

pub returns : goal.returns
returns c =
    let law = c.models_are_used_one_way.ensures in
    let Told : ℕ → Script → List NamedTree → List ℕ → Type 0 = λ budget s models text. AreToldRuns Lists budget s.sessions models text in
    record {
      fault = λ workers budget. fault_answer law.models law.refused law.either Lists (Told budget);
      model = λ workers budget. model_answer law.models law.refused law.either Lists (Told budget);
      run = λ workers budget. told_answer law.models law.refused law.either Lists (Told budget);
    }
