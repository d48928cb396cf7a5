-- What each part of a body becomes in the kernel, under a number of binders. A name of a `let` and a parameter stand for what
-- was given for them, a variable for the atom of its binder.
use Rattle.std.specs.Prelude.{ℕ, zero, suc, ◌+◌, List, [], ◌∷◌, ◌++◌, length, slice_get, Option, Some, None, if◌then◌else◌}
use Rattle.named_model.specs.declared.phrase.Referent.{Referent}
use Rattle.named_model.specs.declared.phrase.Referent.TheVariants as referent
use Rattle.named_model.specs.Phrase.{PhraseTree, refers, called, numbered, constant, bracketed, block, prefixed, chain, path, compared, implies, implies_else, quantified, bound_by_let, PhraseTrees, no_phrases, more_phrases, LinkTrees, no_links, more_links, StepTrees, no_steps, join_first, brackets_first, DomainTrees, no_domains, more_domains}
use Rattle.named_model.specs.Model.{MeaningTree, formulas, value, CalleeTree, NamedTree}
use Rattle.rel_formula.specs.Kernel.{ExpressionTree, rel, nothing, FormulaTrees, no_formulas, more_formulas, conjunction}
use Rattle.lowering_rules.specs.Parts.{Lowered, relation, formula, number, expression_in, formula_in, implication, choice, constant_lowered, prefix_lowered, operator_lowered, joins_all, list_lowered, join_lowered, brackets_lowered, comparison_lowered}
use Rattle.lowering_rules.specs.Binders.{Local, given, local_at, arguments, behind_variables, behind_domains, variables_in, domain_of_each, differences_in, quantified_by}

-- how many signatures there are, and what a call of the predicate or function of a number becomes, under so many binders and
-- with these arguments
pub record Base : Type 0 where
  pub signatures : ℕ
  pub calls : ℕ → ℕ → List ExpressionTree → Lowered

-- relations are numbered: the signatures, and behind them the fields
abbrev pub field_number : ℕ → ℕ → ℕ
field_number signatures f = signatures + f

-- in a model with types no name is shared
abbrev pub referent_lowered : Base → List Local → ℕ → Referent → ExpressionTree
referent_lowered base locals d (referent.Signature s) = rel s
referent_lowered base locals d (referent.Field f) = rel (field_number base.signatures f)
referent_lowered base locals d (referent.Shared f) = nothing
referent_lowered base locals d (referent.Local i) = local_at locals i d

abbrev mutual
  -- a part under d binders
  pub lowered : Base → List Local → ℕ → PhraseTree → Lowered
  lowered base locals d (refers p r) = relation (referent_lowered base locals d r)
  lowered base locals d (called p n xs) = base.calls n d (expressions_lowered base locals d xs)
  lowered base locals d (numbered n) = number n.value
  lowered base locals d (constant c p) = relation (constant_lowered c)
  lowered base locals d (bracketed p x) = lowered base locals d x
  lowered base locals d (block p xs) = formula (conjunction (formulas_lowered base locals d xs))
  lowered base locals d (prefixed f p x) = prefix_lowered f (lowered base locals d x)
  lowered base locals d (chain x ls) = links_lowered base locals d (lowered base locals d x) ls
  lowered base locals d (path x steps) = steps_lowered base locals d (lowered base locals d x) steps
  lowered base locals d (compared a c b) = comparison_lowered c (lowered base locals d a) (lowered base locals d b)
  lowered base locals d (implies a p b) = formula (implication (formula_in (lowered base locals d a)) (formula_in (lowered base locals d b)))
  lowered base locals d (implies_else a p b c) =
      formula (choice (formula_in (lowered base locals d a)) (formula_in (lowered base locals d b)) (formula_in (lowered base locals d c)))
  lowered base locals d (quantified q p ds x) =
      let inner = d + variables_in ds in
      formula (quantified_by q (domains_lowered base locals d ds) (differences_in inner d ds) (formula_in (lowered base (behind_domains d ds locals) inner x)))
  lowered base locals d (bound_by_let p xs x) = lowered base (behind_values base locals d xs) d x

  pub formulas_lowered : Base → List Local → ℕ → PhraseTrees → FormulaTrees
  formulas_lowered base locals d no_phrases = no_formulas
  formulas_lowered base locals d (more_phrases x xs) = more_formulas (formula_in (lowered base locals d x)) (formulas_lowered base locals d xs)

  pub expressions_lowered : Base → List Local → ℕ → PhraseTrees → List ExpressionTree
  expressions_lowered base locals d no_phrases = []
  expressions_lowered base locals d (more_phrases x xs) = expression_in (lowered base locals d x) ∷ expressions_lowered base locals d xs

  -- a chain that begins with what was lowered: `&&` and `||` join all operands at once, the others two by two from the left
  pub links_lowered : Base → List Local → ℕ → Lowered → LinkTrees → Lowered
  links_lowered base locals d x no_links = x
  links_lowered base locals d x (more_links o p y ls) =
      if joins_all o
      then list_lowered o (more_formulas (formula_in x) (more_formulas (formula_in (lowered base locals d y)) (operands_lowered base locals d ls)))
      else links_lowered base locals d (operator_lowered o x (lowered base locals d y)) ls

  pub operands_lowered : Base → List Local → ℕ → LinkTrees → FormulaTrees
  operands_lowered base locals d no_links = no_formulas
  operands_lowered base locals d (more_links o p y ls) = more_formulas (formula_in (lowered base locals d y)) (operands_lowered base locals d ls)

  pub steps_lowered : Base → List Local → ℕ → Lowered → StepTrees → Lowered
  steps_lowered base locals d x no_steps = x
  steps_lowered base locals d x (join_first p y steps) = steps_lowered base locals d (join_lowered x (lowered base locals d y)) steps
  steps_lowered base locals d x (brackets_first p ys steps) =
      steps_lowered base locals d (relation (brackets_lowered (expression_in x) (expressions_lowered base locals d ys))) steps

  -- the domain of each variable, under the binders of those before it
  pub domains_lowered : Base → List Local → ℕ → DomainTrees → List ExpressionTree
  domains_lowered base locals d no_domains = []
  domains_lowered base locals d (more_domains disjoint n mark x ds) =
      domain_of_each 0 (expression_in (lowered base locals d x)) n ++ domains_lowered base (behind_variables d n locals) (d + n) ds

  -- the local names behind those of a `let`, each of whose values sees the names before
  pub behind_values : Base → List Local → ℕ → PhraseTrees → List Local
  behind_values base locals d no_phrases = locals
  behind_values base locals d (more_phrases x xs) = behind_values base (given d (expression_in (lowered base locals d x)) ∷ locals) d xs

-- ---- calls

abbrev pub meaning_lowered : Base → List Local → ℕ → MeaningTree → Lowered
meaning_lowered base locals d (formulas xs) = formula (conjunction (formulas_lowered base locals d xs))
meaning_lowered base locals d (value range body) = lowered base locals d body

-- the body of a predicate or function with the arguments in place of the parameters
abbrev pub body_lowered : Base → ℕ → List ExpressionTree → Option CalleeTree → Lowered
body_lowered base d es None = relation nothing
body_lowered base d es (Some c) = meaning_lowered base (arguments d es) d c.meaning

-- what a call becomes where calls are at most so many deep
abbrev pub calls_within : ℕ → NamedTree → ℕ → ℕ → List ExpressionTree → Lowered
calls_within zero m c d es = relation nothing
calls_within (suc n) m c d es = body_lowered (record { signatures = length m.signatures; calls = calls_within n m }) d es (slice_get m.callees c)

abbrev pub base_within : ℕ → NamedTree → Base
base_within n m = record { signatures = length m.signatures; calls = calls_within n m }

-- none calls itself, so no call is nested deeper than there are predicates and functions
abbrev pub base_of : NamedTree → Base
base_of m = base_within (length m.callees) m
