use Rattle.named_model.specs.View.{named_view}
use Rattle.bench_models.proofs.readings.in_typed.Goals as goal

pub returns-in-Ok-clause-found : goal.returns-in-Ok-clause-found
returns-in-Ok-clause-found c = c.in_problem.ensures.found (named_view c.args.model.now) c.in-Ok.ensures
