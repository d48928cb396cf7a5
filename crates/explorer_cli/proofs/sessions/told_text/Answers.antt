use Rattle.std.proofs.Common.{sym, subst}
use Rattle.std.specs.Prelude.{IfOk}
use Rattle.script_text.specs.Printed.{all_printed}
use Rattle.served_models.specs.declared.purposes.Purpose.{Purpose}
use Rattle.explorer_cli.specs.Classes.{IsToldText}
use Rattle.explorer_cli.proofs.sessions.told_text.Goals as goal

pub returns-in-Lists-clause-text : goal.returns-in-Lists-clause-text
returns-in-Lists-clause-text c =
    let t = c.args.translation.now in
    let s = c.args.transcript.now in
    subst (λ (purpose : Purpose). IfOk c.session_text.result (λ text. IsToldText purpose t.problem c.args.name.now s.floors (all_printed t s.floors s.replies) text.items)) (sym c.in-Lists.is) c.session_text.ensures.text

pub returns-in-Classes-clause-text : goal.returns-in-Classes-clause-text
returns-in-Classes-clause-text c =
    let t = c.args.translation.now in
    let s = c.args.transcript.now in
    subst (λ (purpose : Purpose). IfOk c.classed_text.result (λ text. IsToldText purpose t.problem c.args.name.now s.floors (all_printed t s.floors s.replies) text.items)) (sym c.in-Classes.is) c.classed_text.ensures.text

pub returns-in-Lists-clause-made : goal.returns-in-Lists-clause-made
returns-in-Lists-clause-made c = c.problem.ensures.well

pub returns-in-Classes-clause-made : goal.returns-in-Classes-clause-made
returns-in-Classes-clause-made c = c.problem.ensures.well
