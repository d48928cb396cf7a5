-- What is lowered, and to what.
use Rattle.std.specs.Prelude.{◌≡◌, ℕ, List, [], Ok}
use Rattle.alloy_syntax.specs.Tree.{ModelTree}
use Rattle.named_model.specs.Faults.{faults_in}
use Rattle.named_model.specs.Model.{NamedTree}
use Rattle.named_model.specs.Declarations.{named_of}
use Rattle.model_types.specs.Models.{settled_in, types_checked}
use Rattle.rel_formula.specs.Bounds.{Bounded}
use Rattle.rel_terms.specs.Terms.{IsTranslatable}
use Rattle.lowering_rules.specs.Problem.{ProblemOf}

-- what a tree without a fault of its names and types says, in which no name is shared
pub record IsTyped (m : NamedTree) : Type 0 where
  pub tree : ModelTree
  pub names : faults_in tree ≡ []
  pub types : types_checked (named_of tree) ≡ Ok tt
  pub settled : m ≡ settled_in (named_of tree)

-- the problem of the command with these facts, which a translation takes
pub record IsLowered (m : NamedTree) (n : ℕ) (facts : List ℕ) (p : Bounded) : Type 0 where
  pub is : ProblemOf m n facts p
  pub translatable : IsTranslatable p
