use Rattle.std.proofs.Common.{◌≡◌, ◌<◌, ◌≤◌, ◌^◌, ℕ, Some, None, IfSome, IfNone, subst}
use Rattle.rel_terms.specs.Terms.{HasTerms}
use Rattle.named_model.specs.View.{command_view, named_view}
use Rattle.rel_lower.proofs.whole.under_sizes.Goals as goal

pub returns-in-Some : goal.returns-in-Some
returns-in-Some c =
    let some = subst (λ o. IfSome o (λ n. HasTerms c.in_ok-problem.problem n × (n ≤ 2 ^ 18))) c.in-Some.is c.in_ok-terms.ensures.some in
    let of = c.in_ok-problem.ensures.1 in
    record {
      is = of;
      translatable = record {
        few_atoms = c.problems_are_small.ensures.atoms (named_view c.args.model.now) c.args.number c.args.facts.now c.in_ok-problem.problem of;
        disjoint_tops = c.problems_are_small.ensures.tops (named_view c.args.model.now) c.args.number c.args.facts.now c.in_ok-problem.problem of;
        few_terms = (c.in-Some.field-0, some.0, some.1);
      };
    }

pub returns-in-None : goal.returns-in-None
returns-in-None c =
    let none = subst (λ o. IfNone o ((n : ℕ) → HasTerms c.in_ok-problem.problem n → 2 ^ 18 < n)) c.in-None.is c.in_ok-terms.ensures.none in
    (c.in_ok-problem.problem, c.in_ok-problem.ensures.0, c.in_ok-problem.ensures.1, none)
