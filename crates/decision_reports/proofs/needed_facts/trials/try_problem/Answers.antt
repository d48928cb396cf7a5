use Rattle.std.proofs.Common.{sym, subst}
use Rattle.rel_formula.specs.Bounds.{Bounded, IsProblem}
use Rattle.lowering_rules.specs.Problem.{ProblemOf}
use Rattle.decision_reports.specs.Trials.{IsTrial}
use Rattle.decision_reports.proofs.TriedFacts.{trial_right}
use Rattle.decision_reports.proofs.needed_facts.trials.try_problem.Goals as goal

pub returns : goal.returns
returns c = λ m n some of.
    let t = c.in_ok-translation.translation in
    let lowered = subst (λ (p : Bounded). ProblemOf m n c.args.facts.items p) (sym c.in_ok-translation.ensures) of in
    subst (IsTrial m n c.args.budget c.args.facts.items) (sym c.trial_of.ensures)
    (trial_right m n c.args.budget c.args.facts t c.in_ok-decision.decision (record { some = some; problem = subst IsProblem c.problem.ensures.value c.relations.ensures.well; lowered = lowered; made = c.problem.ensures.well }) c.in_ok-decision.ensures)
