use Rattle.std.proofs.Common.{◌≡◌, []}
use Rattle.model_types.specs.Typing.{onto}
use Rattle.alloy_types.proofs.known_callees.groups.enter_unknown.Given as goal

abbrev pub invariant-loop : goal.invariant-loop
invariant-loop l = l.scope.locals ≡ onto l.counter (record { arity = 1; type = [] }) l.fn.scope.locals
