use Rattle.alloy_syntax.specs.View.{model_view}
use Rattle.named_model.specs.View.{named_view}
use Rattle.bench_models.proofs.BroughtModels.{of_named}
use Rattle.bench_models.proofs.readings.in_tree.Goals as goal

pub returns-in-Ok-clause-found : goal.returns-in-Ok-clause-found
returns-in-Ok-clause-found c = of_named (model_view c.args.tree.now) (named_view c.in-Ok.model) c.in_named.result c.in-Ok.ensures.0 c.in-Ok.ensures.1 c.in_named.ensures.found
