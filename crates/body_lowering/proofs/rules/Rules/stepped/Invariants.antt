use Rattle.std.proofs.Common.{◌≡◌, map, drop}
use Rattle.named_model.specs.Phrase.{steps_of}
use Rattle.named_model.specs.View.{step_view, named_view}
use Rattle.body_lowering.specs.Kernel.View.{part_view}
use Rattle.lowering_rules.specs.Lowering.{base_within, steps_lowered}
use Rattle.body_lowering.specs.Locals.{locals_view}
use Rattle.body_lowering.proofs.rules.Rules.stepped.Given as goal

abbrev pub invariant-loop-step : goal.invariant-loop-step
invariant-loop-step g l = let base = base_within l.at.calls (named_view l.model) in record {
  same : locals_view l.locals.items ≡ locals_view l.fn.locals.items;
  left : steps_lowered base (locals_view l.fn.locals.items) l.at.binders (part_view l.part) (steps_of (map step_view (drop l.step-index l.steps))) ≡ steps_lowered base (locals_view l.fn.locals.items) l.at.binders (part_view l.fn.head) (steps_of (map step_view l.steps));
}
