use Rattle.decision_reports.proofs.MinimalParts.{no_instance}
use Rattle.decision_reports.proofs.decision_laws.nothing_due_is_no_instance.Goals as goal

pub returns : goal.returns
returns c = λ p is symmetric none s. no_instance p (λ t minimal. let due = c.each_minimal_has_a_due_renaming.ensures p is symmetric t minimal in none due.0 due.2) s
