use Rattle.std.proofs.Common.{◌≡◌, ◌-◌, length}
use Rattle.named_model.specs.Signatures.{top_within}
use Rattle.rel_lower.proofs.relation_bounds.places.top_of.Given as goal

abbrev pub invariant-loop-step : goal.invariant-loop-step
invariant-loop-step l = top_within l.signatures (length l.signatures - l._step) l.top ≡ top_within l.signatures (length l.signatures) l.fn.signature
