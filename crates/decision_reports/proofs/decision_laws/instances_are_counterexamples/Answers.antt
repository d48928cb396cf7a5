use Rattle.std.proofs.Common.{◌≡◌, ◌∷◌, [], ℕ, List, true, Bool, Some, Contains, sym, ◌∙◌, ap, subst}
use Rattle.rel_formula.specs.Kernel.{FormulaTree}
use Rattle.rel_formula.specs.Bounds.{Bounded}
use Rattle.rel_formula.specs.Instance.{IsInstance, structure_of}
use Rattle.rel_formula.specs.Meaning.{Truth}
use Rattle.named_model.specs.Model.{CommandTree, NamedTree}
use Rattle.lowering_rules.specs.Parts.{negation_if}
use Rattle.lowering_rules.specs.Lowering.{base_of}
use Rattle.lowering_rules.specs.Formula.{formula_of, target_says, is_check}
use Rattle.lowering_rules.specs.Problem.{ProblemOf, command_at}
use Rattle.lowering_rules.proofs.Outlined.{same_some}
use Rattle.decision_reports.specs.Assertions.{constraints_of, IsCounterexample}
use Rattle.decision_reports.proofs.ListedFormulas.{true_parts, true_joined}
use Rattle.decision_reports.proofs.decision_laws.instances_are_counterexamples.Goals as goal

module _ (m : NamedTree) (n : ℕ) (facts : List ℕ) (p : Bounded) (c : CommandTree) (of : ProblemOf m n facts p) (there : command_at m n ≡ Some c) (checks : is_check c.kind ≡ true) (s : List ℕ) where
  said : p.formula ≡ formula_of m c facts
  said = of.formula ∙ ap (λ d. formula_of m d facts) (same_some of.command c (sym of.commands.there ∙ there))

  abbrev last : Bool → FormulaTree
  last b = negation_if b (target_says m (base_of m) c.target)

  to : IsInstance p s → IsCounterexample m c facts p s
  to is =
      let all = subst (Truth (structure_of p (Contains s)) []) said is.holds in
      let parts = true_parts (structure_of p (Contains s)) [] (constraints_of m c facts) (last (is_check c.kind) ∷ []) all in
      record {
        scenario = is.scenario;
        constraints = parts.0;
        broken = subst (λ b. Truth (structure_of p (Contains s)) [] (last b)) checks parts.1.0;
      }

  back : IsCounterexample m c facts p s → IsInstance p s
  back broken =
      let denied : Truth (structure_of p (Contains s)) [] (last (is_check c.kind)) = subst (λ b. Truth (structure_of p (Contains s)) [] (last b)) (sym checks) broken.broken in
      record {
        scenario = broken.scenario;
        holds = subst (Truth (structure_of p (Contains s)) []) (sym said) (true_joined (structure_of p (Contains s)) [] (constraints_of m c facts) (last (is_check c.kind) ∷ []) broken.constraints (denied, tt));
      }

pub returns : goal.returns
returns c = λ m n facts p command of there checks s. (to m n facts p command of there checks s, back m n facts p command of there checks s)
