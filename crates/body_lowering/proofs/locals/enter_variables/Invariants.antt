use Rattle.std.proofs.Common.{◌≡◌, ◌-◌}
use Rattle.lowering_rules.specs.Binders.{behind_variables}
use Rattle.body_lowering.specs.Locals.{locals_view}
use Rattle.body_lowering.proofs.locals.enter_variables.Given as goal

abbrev pub invariant-loop-level : goal.invariant-loop-level
invariant-loop-level l = behind_variables l.level (l.end - l.level) (locals_view l.locals.items) ≡ behind_variables l.first l.count (locals_view l.fn.locals.items)
