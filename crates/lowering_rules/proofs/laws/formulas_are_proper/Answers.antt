use Rattle.std.proofs.Common.{sym, subst}
use Rattle.rel_formula.specs.Shape.{IsProper}
use Rattle.lowering_rules.proofs.Arities.{arities, has_relations}
use Rattle.lowering_rules.proofs.Headers.{has_bodies, settled_rank}
use Rattle.lowering_rules.proofs.ProblemFormulas.{formula_right}
use Rattle.lowering_rules.proofs.laws.formulas_are_proper.Goals as goal

pub returns : goal.returns
returns c = λ m rank names types is n facts p of.
    subst (λ f. IsProper (arities m n facts p of) 0 f) (sym of.formula)
    (formula_right (arities m n facts p of) m rank (has_relations m n facts p of) (has_bodies m rank is types) (settled_rank m rank is types) names types n of.command of.commands.there facts)
