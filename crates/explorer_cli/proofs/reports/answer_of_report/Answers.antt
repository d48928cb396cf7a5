use Rattle.std.proofs.Common.{inl, inr, refl, subst}
use Rattle.decision_reports.specs.declared.assertions.Report.{Report}
use Rattle.decision_reports.specs.Reports.{IsAssertionReport}
use Rattle.decision_reports.specs.FactReports.{IsFactReport}
use Rattle.explorer_cli.proofs.reports.answer_of_report.Goals as goal

pub returns-in-Told-clause-assertions : goal.returns-in-Told-clause-assertions
returns-in-Told-clause-assertions c = λ budget s is. inr (refl, subst (IsAssertionReport budget s.models) c.in-Told.is is)

pub returns-in-Refused-clause-assertions : goal.returns-in-Refused-clause-assertions
returns-in-Refused-clause-assertions c = λ budget s is. inl (refl, subst (IsAssertionReport budget s.models) c.in-Refused.is is)

pub returns-in-Told-clause-facts : goal.returns-in-Told-clause-facts
returns-in-Told-clause-facts c = λ budget s is. inr (refl, subst (IsFactReport budget s.models) c.in-Told.is is)

pub returns-in-Refused-clause-facts : goal.returns-in-Refused-clause-facts
returns-in-Refused-clause-facts c = λ budget s is. inl (refl, subst (IsFactReport budget s.models) c.in-Refused.is is)
