use Rattle.std.proofs.Common.{ℕ, List, subst}
use Rattle.std.proofs.lemmas.Result.{err_from_is_err_and}
use Rattle.named_model.specs.View.{named_view}
use Rattle.lowering_rules.specs.Problem.{ProblemOf, IsRefusal}
use Rattle.decision_reports.proofs.TriedFacts.{some_problem}
use Rattle.decision_reports.proofs.needed_facts.trials.try_some.Goals as goal

pub returns-in_err-problem : goal.returns-in_err-problem
returns-in_err-problem c =
    let m = named_view c.args.model.now in
    let n = c.args.command in
    let facts = c.args.facts.items in
    let q = some_problem m n facts c.requires.whole c.requires.some in
    let refused = subst (λ (xs : List ℕ). IsRefusal m n xs c.in_err-problem.field-0.0) c.deref.ensures.value c.in_err-problem.ensures in
    let p = err_from_is_err_and c.from_residual.result c.from_residual.ensures.1 in
    rw (p.1, p.2) (c.problems_are_not_refused.ensures m n facts q.0 q.1 q.2 q.3.0 q.3.1 q.3.2 c.in_err-problem.field-0.0 refused)

pub try_problem-requires-clause-symmetric : goal.try_problem-requires-clause-symmetric
try_problem-requires-clause-symmetric c = c.problems_are_symmetric.ensures (named_view c.args.model.now) c.args.command c.deref.result.now c.in_ok-problem.problem c.in_ok-problem.ensures.is

pub returns : goal.returns
returns c =
    let m = named_view c.args.model.now in
    let n = c.args.command in
    c.in_ok-try_problem.ensures m n c.requires.some (subst (λ (xs : List ℕ). ProblemOf m n xs c.in_ok-problem.problem) c.deref.ensures.value c.in_ok-problem.ensures.is)
