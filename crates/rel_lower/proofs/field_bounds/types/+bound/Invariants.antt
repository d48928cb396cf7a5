use Rattle.model_types.specs.Bounding.{Lists}
use Rattle.model_types.specs.Bounds.Same.{AreSame}
use Rattle.rel_lower.proofs.Bounding.Lists.{AreOnTheWay}
use Rattle.rel_lower.proofs.field_bounds.types.+bound.Given as goal

abbrev pub invariant-with_links-loop-link : goal.invariant-with_links-loop-link
invariant-with_links-loop-link l = (x : Lists) → AreSame l.fn.start x → AreOnTheWay l.signatures l.links x l.link-index l.lists
