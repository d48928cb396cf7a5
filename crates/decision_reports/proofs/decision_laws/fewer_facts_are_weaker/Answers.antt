use Rattle.decision_reports.proofs.FewerFacts.{fewer_facts, fewer_problem, fewer_lowered, weaker}
use Rattle.decision_reports.proofs.decision_laws.fewer_facts_are_weaker.Goals as goal

pub returns : goal.returns
returns c = λ m n facts p is of keep. (
  fewer_facts m n facts p is of keep,
  fewer_problem m n facts p is of keep,
  fewer_lowered m n facts p is of keep,
  weaker m n facts p is of keep,
)
