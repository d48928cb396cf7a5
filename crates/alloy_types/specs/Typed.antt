-- The model with no name shared, or the first fault.
use Rattle.std.specs.Prelude.{Result, Ok}
use Rattle.named_model.specs.Model.{NamedTree}
use Rattle.named_model.specs.Answers.{◌>>=◌}
use Rattle.model_types.specs.declared.fault.TypeFault.{TypeFault}
use Rattle.model_types.specs.Models.{types_checked, settled_in}

abbrev pub typed : NamedTree → Result NamedTree TypeFault
typed m = types_checked m >>= λ done. Ok (settled_in m)
