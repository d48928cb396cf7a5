use Rattle.std.proofs.Common.{ℕ, Result, subst}
use Rattle.std.specs.Prelude.{Vec, MatchResult}
use Rattle.std.specs.declared.alloc.Global.{Global}
use Rattle.named_model.specs.View.{named_view}
use Rattle.rel_formula.specs.Bounds.{Bounded}
use Rattle.lowering_rules.specs.Formula.{all_facts}
use Rattle.served_models.specs.Served.{IsProblemOf, LacksProblem}
use Rattle.decision_reports.proofs.FoundModels.{has_or_lacks}
use Rattle.decision_reports.proofs.assertions.translation_of.Goals as goal

pub build-requires-clause-symmetric : goal.build-requires-clause-symmetric
build-requires-clause-symmetric c =
    let m = named_view c.args.model.now in
    let is = subst (λ (found : Result Bounded (Vec ℕ Global)). MatchResult found (IsProblemOf m c.args.number) (λ (words : Vec ℕ Global). LacksProblem m c.args.number words.items)) c.in-Ok.is c.in_ok-problem.ensures.found in
    c.problems_are_symmetric.ensures m c.args.number (all_facts m) c.in-Ok.problem is.lowered.is

pub unreachable-requires : goal.unreachable-requires
unreachable-requires c =
    let m = named_view c.args.model.now in
    let lacks = subst (λ (found : Result Bounded (Vec ℕ Global)). MatchResult found (IsProblemOf m c.args.number) (λ (words : Vec ℕ Global). LacksProblem m c.args.number words.items)) c.in-Err.is c.in_ok-problem.ensures.found in
    has_or_lacks c.problems_are_not_refused.ensures m c.args.number c.in-Err.field-0.items c.requires.problem lacks
