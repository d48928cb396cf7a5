use Rattle.decision_reports.proofs.ToldDecisions as told
use Rattle.decision_reports.proofs.laws.what_is_told_is_so.Goals as goal

pub returns : goal.returns
returns c =
    let one = c.problems_are_one.ensures in
    let counters = c.instances_are_counterexamples.ensures in
    record {
      holds = λ budget name m number text is on same. told.holds one counters budget name m number text is on same;
      fails = λ budget name m number text lines is on same. told.fails one counters budget name m number text is on lines same;
      spent = λ budget name m number text is on same. told.spent one counters budget name m number text is on same;
    }
