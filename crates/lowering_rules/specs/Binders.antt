-- Local names, and quantifiers over variables.
use Rattle.std.specs.Prelude.{ℕ, zero, suc, ◌+◌, ◌-◌, List, [], ◌∷◌, ◌++◌, map, reverse, slice_index_or, if◌then◌else◌}
use Rattle.alloy_syntax.specs.declared.tree.Quantifier.{Quantifier}
use Rattle.alloy_syntax.specs.declared.tree.Quantifier.TheVariants as quantifier
use Rattle.rel_formula.specs.Kernel.{ExpressionTree, var, nothing, FormulaTree, equal, negation, conjunction, for_all, for_some, for_at_most_one, formulas_of}
use Rattle.named_model.specs.Phrase.{DomainTrees, no_domains, more_domains}
use Rattle.lowering_rules.specs.Shifted.{shifted}
use Rattle.lowering_rules.specs.Parts.{both, implication}

-- what a local name stands for: an expression, as it is under so many binders
pub record Local : Type 0 where
  pub depth : ℕ
  pub expression : ExpressionTree

-- as it is under d binders
abbrev pub under : ℕ → Local → ExpressionTree
under d l = shifted (d - l.depth) l.expression

-- the one of a number, counted outward
abbrev pub local_at : List Local → ℕ → ℕ → ExpressionTree
local_at locals i d = under d (slice_index_or locals i (record { depth = d; expression = nothing }))

-- the names of expressions that stand under d binders
abbrev pub given : ℕ → ExpressionTree → Local
given d e = record { depth = d; expression = e }

-- arguments in place of parameters, the last of which is innermost
abbrev pub arguments : ℕ → List ExpressionTree → List Local
arguments d es = reverse (map (given d) es)

-- ---- variables: each has a binder of its own

-- the variable of the binder at the level k, where levels are counted inward from 0
abbrev pub variable : ℕ → Local
variable k = given (k + 1) (var 0)

-- n variables, the first of which has its binder at the level k
abbrev pub variables : ℕ → ℕ → List Local
variables k zero = []
variables k (suc n) = variable k ∷ variables (k + 1) n

-- the local names behind n variables more
abbrev pub behind_variables : ℕ → ℕ → List Local → List Local
behind_variables k zero locals = locals
behind_variables k (suc n) locals = behind_variables (k + 1) n (variable k ∷ locals)

abbrev pub behind_domains : ℕ → DomainTrees → List Local → List Local
behind_domains d no_domains locals = locals
behind_domains d (more_domains disjoint n mark x ds) locals = behind_domains (d + n) ds (behind_variables d n locals)

abbrev pub variables_in : DomainTrees → ℕ
variables_in no_domains = 0
variables_in (more_domains disjoint n mark x ds) = n + variables_in ds

-- the domain of n variables, as it is under the binders of those before each
abbrev pub domain_of_each : ℕ → ExpressionTree → ℕ → List ExpressionTree
domain_of_each k e zero = []
domain_of_each k e (suc n) = shifted k e ∷ domain_of_each (k + 1) e n

-- ---- disjoint variables

-- that each differs from those behind it
abbrev pub differences : List ExpressionTree → List FormulaTree
differences [] = []
differences (x ∷ xs) = map (λ y. negation (equal x y)) xs ++ differences xs

-- that the variables of each disjoint declaration differ, said under d binders, where the first variable has its binder at
-- the level k
abbrev pub differences_in : ℕ → ℕ → DomainTrees → List FormulaTree
differences_in d k no_domains = []
differences_in d k (more_domains disjoint n mark x ds) = (if disjoint then differences (map (under d) (variables k n)) else []) ++ differences_in d (k + n) ds

-- the body of `all`, and that of the others, where variables differ
abbrev pub where_all : List FormulaTree → FormulaTree → FormulaTree
where_all [] f = f
where_all (p ∷ ps) f = implication (conjunction (formulas_of (p ∷ ps))) f

abbrev pub where_some : List FormulaTree → FormulaTree → FormulaTree
where_some [] f = f
where_some (p ∷ ps) f = conjunction (formulas_of (p ∷ ps ++ f ∷ []))

-- ---- quantifiers

-- a binder for each of these domains, the outermost first
abbrev pub bound_by : (ExpressionTree → FormulaTree → FormulaTree) → List ExpressionTree → FormulaTree → FormulaTree
bound_by binder [] f = f
bound_by binder (e ∷ es) f = binder e (bound_by binder es f)

-- over variables with these domains, of which it is said that some differ
abbrev pub quantified_by : Quantifier → List ExpressionTree → List FormulaTree → FormulaTree → FormulaTree
quantified_by quantifier.All es ps f = bound_by for_all es (where_all ps f)
quantified_by quantifier.Some es ps f = bound_by for_some es (where_some ps f)
quantified_by quantifier.No es ps f = negation (bound_by for_some es (where_some ps f))
quantified_by quantifier.Lone es ps f = bound_by for_at_most_one es (where_some ps f)
quantified_by quantifier.One es ps f = both (bound_by for_some es (where_some ps f)) (bound_by for_at_most_one es (where_some ps f))
