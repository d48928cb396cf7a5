use Rattle.std.proofs.Common.{◌+◌}
use Rattle.lowering_rules.specs.Binders.{behind_variables}
use Rattle.body_lowering.specs.declared.locals.Local.{Local}
use Rattle.body_lowering.specs.Locals.{locals_view}
use Rattle.body_lowering.proofs.Loops.{pushed_local}
use Rattle.body_lowering.proofs.Entered.{entered_more}
use Rattle.rel_formula.specs.declared.formula.Expression.TheVariants.{Var}
use Rattle.body_lowering.proofs.locals.enter_variables.Goals as goal

pub loop-level-preserved : goal.loop-level-preserved
loop-level-preserved c =
    let old = c.loop-level.locals.items in
    let new = c.push.new.self.items in
    let l : Local = record { depth = c.loop-level.level + 1; expression = Var 0 } in
    entered_more c.loop-level.level c.in-Some.end (locals_view old) (locals_view new) (behind_variables c.args.first c.args.count (locals_view c.args.locals.now.items)) c.loop-level-test.true
    (pushed_local old new l c.in_ok-push.ensures.items) c.loop-level.invariant
