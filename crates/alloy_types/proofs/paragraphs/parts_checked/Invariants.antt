use Rattle.std.proofs.Common.{◌≡◌, drop}
use Rattle.named_model.specs.Model.{NamedTree}
use Rattle.model_types.specs.Typing.{Declared}
use Rattle.model_types.specs.Models.{parts_checked}
use Rattle.alloy_types.specs.Outcomes.{AreOutcomes}
use Rattle.alloy_types.proofs.paragraphs.parts_checked.Given as goal

abbrev pub invariant-loop-part : goal.invariant-loop-part
invariant-loop-part l = (m : NamedTree) (d : Declared) → AreOutcomes m d l.outcomes → parts_checked m d l.parts ≡ parts_checked m d (drop l.part-index l.parts)
