use Rattle.std.proofs.Common.{◌≤◌, inl, inr, List, All, length, sym, subst}
use Rattle.script_format.specs.declared.entries.ModelEntry.{ModelEntry}
use Rattle.decision_reports.specs.Reports.{IsAssertionReport}
use Rattle.explorer_cli.specs.Keys.{IsScriptOrFault}
use Rattle.explorer_cli.proofs.reports.answer_of_assert.Goals as goal

pub assertions_of-requires-clause-small : goal.assertions_of-requires-clause-small
assertions_of-requires-clause-small c =
    let found = subst (IsScriptOrFault c.args.bytes.now) c.in-Ok.is c.in_ok-script.ensures in
    subst (λ (es : List ModelEntry). All (λ (m : ModelEntry). length m.text ≤ 1048576) es) (sym c.entries.ensures) found.1.small

pub returns-in_ok-report-in-Ok-clause-answer : goal.returns-in_ok-report-in-Ok-clause-answer
returns-in_ok-report-in-Ok-clause-answer c =
    let script = c.in-Ok.script in
    let found = subst (IsScriptOrFault c.args.bytes.now) c.in-Ok.is c.in_ok-script.ensures in
    let report = c.in_ok-report-in-Ok.report in
    let is = subst (λ (es : List ModelEntry). IsAssertionReport c.args.budget es report) c.entries.ensures c.in_ok-report-in-Ok.ensures in
    inr (script, found.0, c.answer_of_report.ensures.assertions c.args.budget script is)

pub returns-in-Err-clause-answer : goal.returns-in-Err-clause-answer
returns-in-Err-clause-answer c = inl (subst (IsScriptOrFault c.args.bytes.now) c.in-Err.is c.in_ok-script.ensures)

pub returns-in-Err-clause-status : goal.returns-in-Err-clause-status
returns-in-Err-clause-status c = inr (inl (subst (IsScriptOrFault c.args.bytes.now) c.in-Err.is c.in_ok-script.ensures).2)
