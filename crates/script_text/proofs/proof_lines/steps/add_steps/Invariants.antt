use Rattle.std.proofs.Common.{◌≡◌, ◌++◌, take}
use Rattle.script_text.proofs.proof_lines.steps.add_steps.Given as goal

abbrev pub invariant-loop-step : goal.invariant-loop-step
invariant-loop-step l = l.log ≡ l.fn.log ++ take l.step-index l.steps
