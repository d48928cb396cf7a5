-- With some of the facts there is a problem too, with no fewer instances and no more terms.
use Rattle.std.proofs.Common.{◌≡◌, ◌≤◌, ◌+◌, ◌++◌, ◌∷◌, [], ℕ, Bool, List, map, filter, Contains, refl, subst, arith}
use Rattle.rel_formula.specs.declared.problem.Relation.{Relation}
use Rattle.rel_formula.specs.Kernel.{FormulaTree, formulas_of, conjunction}
use Rattle.rel_formula.specs.Bounds.{Bounded, IsProblem}
use Rattle.rel_formula.specs.Instance.{IsInstance, structure_of}
use Rattle.rel_formula.specs.Meaning.{Truth}
use Rattle.rel_formula.specs.Shape.{IsProper, AreProper}
use Rattle.rel_terms.specs.Upper.{upper_structure}
use Rattle.rel_terms.specs.Terms.{HasTerms, FormulaHas}
use Rattle.named_model.specs.Model.{NamedTree}
use Rattle.model_sizes.specs.Sizes.{listings_of}
use Rattle.std.specs.List.{range_with_len}
use Rattle.std.specs.Prelude.{flat_map, length}
use Rattle.lowering_rules.specs.Lowering.{base_of, field_number}
use Rattle.lowering_rules.specs.Formula.{signature_says, fields_say, fact_says, command_says, formula_of}
use Rattle.lowering_rules.specs.Problem.{ProblemOf}
use Rattle.decision_reports.specs.FewerFacts.{IsWeaker}
use Rattle.decision_reports.proofs.ListedFormulas.{true_parts, true_joined, true_kept, proper_parts, proper_joined, proper_kept, terms_parts, terms_joined, terms_kept}

module _ (m : NamedTree) (n : ℕ) (facts : List ℕ) (p : Bounded) (is : IsProblem p) (of : ProblemOf m n facts p) (keep : ℕ → Bool) where
  abbrev front : List FormulaTree
  front = flat_map (signature_says m.signatures (listings_of of.command.scope)) (range_with_len 0 (length m.signatures)) ++ fields_say (base_of m) (field_number (length m.signatures) 0) m.fields

  abbrev behind : List FormulaTree
  behind = command_says m (base_of m) of.command ∷ []

  abbrev said : List ℕ → List FormulaTree
  said some = map (fact_says m (base_of m)) some

  -- the problem with these facts
  abbrev pub fewer_facts : Bounded
  fewer_facts = record { relations = p.relations; tops = p.tops; formula = formula_of m of.command (filter keep facts) }

  formula_is : p.formula ≡ conjunction (formulas_of ((front ++ said facts) ++ behind))
  formula_is = of.formula

  abbrev arities : List ℕ
  arities = map (λ (r : Relation). r.lower.arity) p.relations

  proper : IsProper arities 0 fewer_facts.formula
  proper =
      let all : AreProper arities 0 (formulas_of ((front ++ said facts) ++ behind)) = subst (IsProper arities 0) formula_is is.proper in
      let parts = proper_parts arities 0 (front ++ said facts) behind all in
      let first = proper_parts arities 0 front (said facts) parts.0 in
      proper_joined arities 0 (front ++ said (filter keep facts)) behind
      (proper_joined arities 0 front (said (filter keep facts)) first.0 (proper_kept arities 0 (fact_says m (base_of m)) keep facts first.1)) parts.1

  pub fewer_problem : IsProblem fewer_facts
  fewer_problem = record {
    few = is.few;
    few_cells = is.few_cells;
    relations = is.relations;
    names = is.names;
    tops = is.tops;
    unary = is.unary;
    rising = is.rising;
    atoms = is.atoms;
    proper = proper;
  }

  pub fewer_lowered : ProblemOf m n (filter keep facts) fewer_facts
  fewer_lowered = record {
    command = of.command;
    sizes = of.sizes;
    commands = of.commands;
    relations = of.relations;
    tops = of.tops;
    formula = refl;
  }

  instances : (s : List ℕ) → IsInstance p s → IsInstance fewer_facts s
  instances s it =
      let M = structure_of p (Contains s) in
      let all = subst (Truth (structure_of p (Contains s)) []) formula_is it.holds in
      let parts = true_parts (structure_of p (Contains s)) [] (front ++ said facts) behind all in
      let first = true_parts (structure_of p (Contains s)) [] front (said facts) parts.0 in
      record {
        scenario = record { cells = it.scenario.cells; rising = it.scenario.rising };
        holds = true_joined (structure_of p (Contains s)) [] (front ++ said (filter keep facts)) behind
            (true_joined (structure_of p (Contains s)) [] front (said (filter keep facts)) first.0 (true_kept (structure_of p (Contains s)) [] (fact_says m (base_of m)) keep facts first.1)) parts.1;
      }

  terms : (k : ℕ) → HasTerms p k → (j : ℕ) × HasTerms fewer_facts j × (j ≤ k)
  terms k has =
      let all = subst (λ f. FormulaHas (upper_structure p) [] f k) formula_is has in
      let parts = terms_parts (upper_structure p) [] (front ++ said facts) behind all.1 all.3 in
      let first = terms_parts (upper_structure p) [] front (said facts) parts.0 parts.2 in
      let kept = terms_kept (upper_structure p) [] (fact_says m (base_of m)) keep facts first.1 first.3 in
      let joined = terms_joined (upper_structure p) [] (front ++ said (filter keep facts)) behind (first.0 + kept.0) parts.1
      (terms_joined (upper_structure p) [] front (said (filter keep facts)) first.0 kept.0 first.2 kept.1) parts.3 in
      (1 + ((first.0 + kept.0) + parts.1), (1, (first.0 + kept.0) + parts.1, refl, joined, refl), (let a = all.2 in let b = all.4 in let c = parts.4 in let d = first.4 in let e = kept.2 in omega arith))

  pub weaker : IsWeaker p fewer_facts
  weaker = record { instances = instances; terms = terms }
