use Rattle.named_model.specs.View.{named_view}
use Rattle.bench_models.proofs.BroughtModels.{is_typed, of_typed}
use Rattle.bench_models.proofs.readings.in_named.Goals as goal

pub in_typed-requires : goal.in_typed-requires
in_typed-requires c = is_typed (named_view c.args.model) (named_view c.in-Ok.typed) c.requires c.in-Ok.ensures

pub returns-in-Ok-clause-found : goal.returns-in-Ok-clause-found
returns-in-Ok-clause-found c = of_typed (named_view c.args.model) (named_view c.in-Ok.typed) c.in_typed.result c.in-Ok.ensures c.in_typed.ensures.found
