use Rattle.std.proofs.Common.{ℕ, Result, inl, subst}
use Rattle.std.specs.Prelude.{Vec, MatchResult}
use Rattle.std.specs.declared.alloc.Global.{Global}
use Rattle.rel_formula.specs.Bounds.{Bounded}
use Rattle.named_model.specs.View.{named_view}
use Rattle.served_models.specs.Served.{IsProblemOf, LacksProblem}
use Rattle.served_models.proofs.Usables.{served_or_unfit}
use Rattle.served_models.proofs.commands.served_command.Goals as goal

pub returns-in_ok-with_problem-in-Ok-clause-found : goal.returns-in_ok-with_problem-in-Ok-clause-found
returns-in_ok-with_problem-in-Ok-clause-found c =
    let m = named_view c.args.model.now in
    let found = subst (λ (r : Result Bounded (Vec ℕ Global)). MatchResult r (IsProblemOf m c.args.number) (λ (words : Vec ℕ Global). LacksProblem m c.args.number words.items)) c.in-Ok.is c.in_ok-problem.ensures.found in
    served_or_unfit c.args.purpose m c.args.number c.in-Ok.problem c.in_ok-with_problem-in-Ok.field-0 found c.in_ok-with_problem-in-Ok.ensures

pub returns-in-Err-clause-found : goal.returns-in-Err-clause-found
returns-in-Err-clause-found c =
    let m = named_view c.args.model.now in
    inl (subst (λ (r : Result Bounded (Vec ℕ Global)). MatchResult r (IsProblemOf m c.args.number) (λ (words : Vec ℕ Global). LacksProblem m c.args.number words.items)) c.in-Err.is c.in_ok-problem.ensures.found)
