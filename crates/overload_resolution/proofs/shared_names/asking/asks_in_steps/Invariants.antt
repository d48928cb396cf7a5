use Rattle.std.proofs.Common.{◌≡◌, map, drop}
use Rattle.named_model.specs.Phrase.{steps_of}
use Rattle.named_model.specs.View.{step_view}
use Rattle.overload_resolution.specs.Names.Asking.{asks_in_steps}
use Rattle.overload_resolution.proofs.shared_names.asking.asks_in_steps.Given as goal

abbrev pub invariant-loop-step : goal.invariant-loop-step
invariant-loop-step l = asks_in_steps (steps_of (map step_view (drop l.step-index l.steps))) ≡ asks_in_steps (steps_of (map step_view l.steps))
