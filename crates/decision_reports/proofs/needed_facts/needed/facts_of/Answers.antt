use Rattle.std.proofs.Common.{◌≡◌, inl, inr, ℕ, List, length, sym, ap, ◌∙◌, subst, arith}
use Rattle.std.specs.List.{range_with_len}
use Rattle.std.proofs.lemmas.List.{length-map}
use Rattle.std.proofs.lemmas.Result.{err_from_is_err_and}
use Rattle.named_model.specs.View.{named_view, formulas_view}
use Rattle.lowering_rules.specs.Formula.{all_facts}
use Rattle.lowering_rules.specs.Problem.{ProblemOf, IsRefusal}
use Rattle.decision_reports.specs.SomeFacts.{AreSomeOf}
use Rattle.decision_reports.specs.Trials.{IsTrial}
use Rattle.decision_reports.proofs.KeptNumbers.{all_are_some}
use Rattle.decision_reports.proofs.needed_facts.needed.facts_of.Goals as goal

pub try_problem-requires-clause-symmetric : goal.try_problem-requires-clause-symmetric
try_problem-requires-clause-symmetric c =
    let m = named_view c.args.model.now in
    c.problems_are_symmetric.ensures m c.args.command (all_facts m) c.in_ok-problem.problem c.in_ok-problem.ensures.is

pub set_of-requires-clause-whole : goal.set_of-requires-clause-whole
set_of-requires-clause-whole c = (c.in_ok-problem.problem, c.relations.ensures.well, c.in_ok-problem.ensures)

pub set_of-requires-clause-trial : goal.set_of-requires-clause-trial
set_of-requires-clause-trial c =
    let m = named_view c.args.model.now in
    let n = c.args.command in
    let facts = c.in_ok-facts.facts.items in
    let count : c.len.result ≡ length c.args.model.now.facts.items = omega (arith, c.len.ensures) in
    let same : facts ≡ all_facts m = c.in_ok-facts.ensures ∙ ap (range_with_len 1) (count ∙ sym (length-map c.args.model.now.facts.items formulas_view)) in
    let of = subst (λ (xs : List ℕ). ProblemOf m n xs c.in_ok-problem.problem) (sym same) c.in_ok-problem.ensures.is in
    subst (λ (xs : List ℕ). IsTrial m n c.args.budget xs c.in_ok-trial.trial) same (c.in_ok-trial.ensures m n (subst (AreSomeOf (all_facts m)) (sym same) (all_are_some (all_facts m))) of)

pub returns-in_err-set_of : goal.returns-in_err-set_of
returns-in_err-set_of c =
    let m = named_view c.args.model.now in
    let p = err_from_is_err_and c.from_residual-in_err-set_of.result c.from_residual-in_err-set_of.ensures.1 in
    rw (p.1, p.2) (elim c.in_err-set_of.ensures [
      | inl memory ↦ subst (IsRefusal m c.args.command (all_facts m)) (sym memory) tt
      | inr large ↦ subst (IsRefusal m c.args.command (all_facts m)) (sym large) (c.in_ok-problem.problem, c.relations.ensures.well, c.in_ok-problem.ensures.is)
    ])
