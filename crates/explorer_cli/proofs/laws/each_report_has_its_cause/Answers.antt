use Rattle.alloy_syntax.specs.declared.tree.CommandKind.TheVariants.{Run, Check}
use Rattle.decision_reports.specs.Reports.{AreAssertionsOf}
use Rattle.decision_reports.specs.FactReports.{AreFactSetsOf}
use Rattle.explorer_cli.proofs.ReportAnswers.{report_fault, report_refused, report_told}
use Rattle.explorer_cli.proofs.laws.each_report_has_its_cause.Goals as goal

pub returns : goal.returns
returns c =
    let law = c.reports_are_one_way.ensures in
    record {
      fault = λ budget. report_fault Check (AreAssertionsOf budget);
      model = λ budget. report_refused Check (AreAssertionsOf budget) (law.refused Check) (law.either budget);
      told = λ budget. report_told Check (AreAssertionsOf budget);
      facts_fault = λ budget. report_fault Run (AreFactSetsOf budget);
      facts_model = λ budget. report_refused Run (AreFactSetsOf budget) (law.refused Run) (law.facts budget);
      facts_told = λ budget. report_told Run (AreFactSetsOf budget);
    }
