use Rattle.std.proofs.Common.{◌≡◌, ◌≤◌, ◌++◌, List, length}
use Rattle.model_types.specs.Typing.{Local}
use Rattle.overload_resolution.specs.Scopes.Zipped.{IsInside}
use Rattle.overload_resolution.proofs.typed_scopes.types.leave_until.Given as goal

abbrev pub invariant-each : goal.invariant-each
invariant-each l = record {
  left : (inner outer : List Local) → l.fn.scope.locals ≡ inner ++ outer → length outer ≡ l.depth → IsInside l.scope.locals outer;
  short : length l.fn.scope.locals ≤ l.depth → l.scope.locals ≡ l.fn.scope.locals;
}

abbrev pub decreases-each : goal.decreases-each
decreases-each l = length l.scope.locals
