use Rattle.std.proofs.Common.{ℕ, List, sym, subst}
use Rattle.rel_formula.specs.Bounds.{Bounded}
use Rattle.rel_formula.specs.Instance.{IsInstance}
use Rattle.lowering_rules.specs.Formula.{all_facts}
use Rattle.decision_reports.specs.FactSets.{IsWitness}
use Rattle.decision_reports.proofs.TriedFacts.{still_witness}
use Rattle.decision_reports.proofs.decision_laws.satisfiable_facts_have_no_core.Goals as goal

pub returns : goal.returns
returns c = λ m n s w core is.
    let some = is.translation.some in
    let fewer = subst (λ (xs : List ℕ). IsWitness m n xs s) (sym some.1) (still_witness m n (all_facts m) some.0 s w) in
    let same = c.problems_are_one.ensures m n core.facts.items fewer.0 core.translation.problem fewer.1 is.translation.problem fewer.2 is.translation.lowered in
    is.refuted.none s (subst (λ (p : Bounded). IsInstance p s) same fewer.3)
