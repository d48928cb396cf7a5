use Rattle.std.proofs.Common.{◌≡◌, map, take}
use Rattle.named_model.specs.Faults.{callees_of}
use Rattle.named_model.specs.View.{callee_view}
use Rattle.reference_cycles.specs.Cycles.Walks.{rows_of}
use Rattle.reference_cycles.proofs.recursive_calls.recursion.rows.Given as goal

abbrev pub invariant-loop-callee : goal.invariant-loop-callee
invariant-loop-callee l = rows_of l.rows.items ≡ map callees_of (map callee_view (take l.callee-index l.callees))
