use Rattle.std.proofs.Common.{inl, inr, refl, subst}
use Rattle.explorer_cli.specs.Keys.{IsScriptOrFault}
use Rattle.explorer_cli.proofs.answer.answer_of_runs.Goals as goal

pub answer_script-requires-clause-limits : goal.answer_script-requires-clause-limits
answer_script-requires-clause-limits g c κs within = (subst (IsScriptOrFault c.args.bytes.now) c.in-Ok.is c.in_ok-script.ensures).1

pub returns-in_ok-answer_script-in-Ok-clause-answer : goal.returns-in_ok-answer_script-in-Ok-clause-answer
returns-in_ok-answer_script-in-Ok-clause-answer g c = inr (c.in-Ok.script, (subst (IsScriptOrFault c.args.bytes.now) c.in-Ok.is c.in_ok-script.ensures).0, c.in_ok-answer_script-in-Ok.ensures.answer)

pub returns-in-Err-clause-answer : goal.returns-in-Err-clause-answer
returns-in-Err-clause-answer g c = inl (subst (IsScriptOrFault c.args.bytes.now) c.in-Err.is c.in_ok-script.ensures)

pub returns-in-Err-clause-status : goal.returns-in-Err-clause-status
returns-in-Err-clause-status g c = inr (inl (subst (IsScriptOrFault c.args.bytes.now) c.in-Err.is c.in_ok-script.ensures).2)

pub returns-in_err-answer_script-in-Ok-clause-learnt : goal.returns-in_err-answer_script-in-Ok-clause-learnt
returns-in_err-answer_script-in-Ok-clause-learnt g c = inr (c.in-Ok.script, (subst (IsScriptOrFault c.args.bytes.now) c.in-Ok.is c.in_ok-script.ensures).0, c.answer_script.ensures.learnt)

pub returns-in_ok-answer_script-in-Ok-clause-learnt : goal.returns-in_ok-answer_script-in-Ok-clause-learnt
returns-in_ok-answer_script-in-Ok-clause-learnt g c = inr (c.in-Ok.script, (subst (IsScriptOrFault c.args.bytes.now) c.in-Ok.is c.in_ok-script.ensures).0, c.answer_script.ensures.learnt)

pub returns-in_err-script-clause-learnt : goal.returns-in_err-script-clause-learnt
returns-in_err-script-clause-learnt g c = inl refl

pub returns-in-Err-clause-learnt : goal.returns-in-Err-clause-learnt
returns-in-Err-clause-learnt g c = inl refl
