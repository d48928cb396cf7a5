-- What a command's problem says of the assertion that it checks.
use Rattle.std.specs.Prelude.{ℕ, List, [], ◌++◌, map, flat_map, length, Contains}
use Rattle.std.specs.List.{range_with_len}
use Rattle.rel_formula.specs.Kernel.{FormulaTree, formulas_of}
use Rattle.rel_formula.specs.Bounds.{Bounded}
use Rattle.rel_formula.specs.Instance.{IsScenario, structure_of}
use Rattle.rel_formula.specs.Meaning.{Truth, AllTrue}
use Rattle.named_model.specs.Model.{CommandTree, NamedTree}
use Rattle.model_sizes.specs.Sizes.{listings_of}
use Rattle.lowering_rules.specs.Lowering.{base_of, field_number}
use Rattle.lowering_rules.specs.Formula.{signature_says, fields_say, fact_says, target_says}

-- what is said of each signature, of each field, and by the facts
abbrev pub constraints_of : NamedTree → CommandTree → List ℕ → List FormulaTree
constraints_of m c facts = let base = base_of m in
    flat_map (signature_says m.signatures (listings_of c.scope)) (range_with_len 0 (length m.signatures))
    ++ fields_say base (field_number (length m.signatures) 0) m.fields
    ++ map (fact_says m base) facts

-- a scenario of the problem in which all this is true, and what the command is on isn't
pub record IsCounterexample (m : NamedTree) (c : CommandTree) (facts : List ℕ) (p : Bounded) (s : List ℕ) : Type 0 where
  pub scenario : IsScenario p s
  pub constraints : AllTrue (structure_of p (Contains s)) [] (formulas_of (constraints_of m c facts))
  pub broken : ¬ Truth (structure_of p (Contains s)) [] (target_says m (base_of m) c.target)
