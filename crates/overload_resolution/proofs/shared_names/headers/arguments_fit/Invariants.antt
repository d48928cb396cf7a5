use Rattle.std.proofs.Common.{◌≡◌, ◌≤◌, drop, length}
use Rattle.model_types.specs.Typing.{arguments_fit}
use Rattle.overload_resolution.proofs.shared_names.headers.arguments_fit.Given as goal

abbrev pub invariant-loop-number : goal.invariant-loop-number
invariant-loop-number l = record {
  within : l.number ≤ length l.arguments;
  left : arguments_fit l.place (drop l.number l.parameters) (drop l.number l.arguments) ≡ arguments_fit l.place l.parameters l.arguments;
}
