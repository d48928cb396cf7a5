use Rattle.std.proofs.Common.{subst}
use Rattle.named_model.specs.Declarations.{named_of}
use Rattle.lowering_rules.specs.Problem.{ProblemOf}
use Rattle.rel_lower.proofs.laws.typed_problems_are_formed.Goals as goal

pub returns : goal.returns
returns c = λ m is n facts p of sets names few cells.
    let typed = c.models_without_faults_are_typed.ensures in
    let ranks = typed.ranks is.tree is.names in
    c.problems_are_formed.ensures m n facts p of sets names few cells
    (c.formulas_are_proper.ensures (named_of is.tree) ranks.0 (typed.references is.tree) (typed.types is.tree is.types) ranks.1 n facts p
    (subst (λ x. ProblemOf x n facts p) is.settled of))
