use Rattle.std.proofs.Common.{take}
use Rattle.named_model.specs.View.{named_view}
use Rattle.reference_cycles.specs.Cycles.Walks.{among}
use Rattle.alloy_types.specs.Calls.Ready.{IsReady}
use Rattle.alloy_types.proofs.known_callees.whole.all_known.Given as goal

abbrev pub invariant-loop-place : goal.invariant-loop-place
invariant-loop-place l = IsReady (named_view l.model) (λ k. among k (take l.place l.order)) l.setting
