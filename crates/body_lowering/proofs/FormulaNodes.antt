-- The nodes of formulas, and of lists of formulas and of expressions.
use Rattle.std.proofs.Common.{◌≡◌, ℕ, zero, suc, ◌+◌, ◌<◌, ◌≤◌, ◌⊎◌, inl, inr, List, [], ◌∷◌, map, length, get_or, drop, Vec, Global, sym, ap, ◌∙◌, arith}
use Rattle.std.proofs.lemmas.List.{at_drop_all}
use Rattle.rel_formula.specs.declared.connectives.Connective.{Connective}
use Rattle.rel_formula.specs.declared.formula.Expression.{Expression}
use Rattle.rel_formula.specs.declared.formula.Formula.{Formula, Junction}
use Rattle.rel_formula.specs.Kernel.{FormulaTree, compared, at_least, negation, junction, quantified, formulas_of}
use Rattle.rel_formula.specs.View.{expression_tree, formula_tree}
use Rattle.rel_formula.proofs.AndOrParts.{Junction-tree}
use Rattle.body_lowering.specs.Nodes.{nodes_of, levels_of, nodes_of_each, levels_of_each, formula_nodes, formula_levels, formulas_nodes, formulas_levels}
use Rattle.body_lowering.proofs.Loops.{next_is}

pub some_formula_node : (f : FormulaTree) → 0 < formula_nodes f
some_formula_node (compared c a b) = omega arith
some_formula_node (at_least n e) = omega arith
some_formula_node (negation f) = omega arith
some_formula_node (junction c fs) = omega arith
some_formula_node (quantified q e f) = omega arith

-- ---- lists

abbrev pub all_nodes : List Formula → ℕ
all_nodes fs = formulas_nodes (formulas_of (map formula_tree fs))

abbrev pub all_levels : List Formula → ℕ
all_levels fs = formulas_levels (formulas_of (map formula_tree fs))

abbrev pub each_nodes : List Expression → ℕ
each_nodes es = nodes_of_each (map expression_tree es)

abbrev pub each_levels : List Expression → ℕ
each_levels es = levels_of_each (map expression_tree es)

module _ (c : Connective) (parts : Vec Formula Global) (f : Formula) (is : f ≡ Junction c parts) (fs : List Formula) (same : fs ≡ parts.items) where
  junction_nodes : formula_nodes (formula_tree f) ≡ all_nodes fs + 1
  junction_nodes = ap (λ (g : Formula). formula_nodes (formula_tree g)) is ∙ ap formula_nodes (Junction-tree c parts) ∙ ap (λ (gs : List Formula). all_nodes gs + 1) (sym same)

  junction_levels : formula_levels (formula_tree f) ≡ all_levels fs
  junction_levels = ap (λ (g : Formula). formula_levels (formula_tree g)) is ∙ ap formula_levels (Junction-tree c parts) ∙ ap all_levels (sym same)

  pub junction_taken : (old now left : ℕ) → now + 1 ≡ old → left + all_nodes fs ≡ now → left + formula_nodes (formula_tree f) ≡ old
  junction_taken old now left e h = omega (arith, junction_nodes, e, h)

  pub junction_has_more : (old now levels : ℕ) → now + 1 ≡ old → (now < all_nodes fs) ⊎ (levels < all_levels fs) → (old < formula_nodes (formula_tree f)) ⊎ (levels < formula_levels (formula_tree f))
  junction_has_more old now levels e h = elim h [ inl x ↦ inl (omega (arith, junction_nodes, e, x)) | inr y ↦ inr (omega (arith, junction_levels, y)) ]

pub formulas_turn : (fs : List Formula) (i : ℕ) (f : Formula) → i < length fs → f ≡ get_or fs i f → all_nodes (drop i fs) ≡ formula_nodes (formula_tree f) + all_nodes (drop (i + 1) fs)
formulas_turn fs i f l is = ap all_nodes (next_is fs i f l is)

pub formulas_end : (fs : List Formula) (i : ℕ) → length fs ≤ i → all_nodes (drop i fs) ≡ 0
formulas_end fs i l = at_drop_all all_nodes fs i l

pub expressions_turn : (es : List Expression) (i : ℕ) (e : Expression) → i < length es → e ≡ get_or es i e → each_nodes (drop i es) ≡ nodes_of (expression_tree e) + each_nodes (drop (i + 1) es)
expressions_turn es i e l is = ap each_nodes (next_is es i e l is)

pub expressions_end : (es : List Expression) (i : ℕ) → length es ≤ i → each_nodes (drop i es) ≡ 0
expressions_end es i l = at_drop_all each_nodes es i l

deepest_formula : (fs : List Formula) (i : ℕ) (f : Formula) → i < length fs → f ≡ get_or fs i f → formula_levels (formula_tree f) ≤ all_levels fs
deepest_formula [] i f l is = absurd (omega (arith, l))
deepest_formula (g ∷ fs) zero f l is = let same = ap (λ (h : Formula). formula_levels (formula_tree h)) is in omega (arith, same)
deepest_formula (g ∷ fs) (suc i) f l is = let rest = deepest_formula fs i f (omega (arith, l)) is in omega (arith, rest)

deepest_expression : (es : List Expression) (i : ℕ) (e : Expression) → i < length es → e ≡ get_or es i e → levels_of (expression_tree e) ≤ each_levels es
deepest_expression [] i e l is = absurd (omega (arith, l))
deepest_expression (x ∷ es) zero e l is = let same = ap (λ (y : Expression). levels_of (expression_tree y)) is in omega (arith, same)
deepest_expression (x ∷ es) (suc i) e l is = let rest = deepest_expression es i e (omega (arith, l)) is in omega (arith, rest)

-- where one has more than is left, all have more than there was
pub formulas_have_more : (fs : List Formula) (i : ℕ) (f : Formula) (old now levels : ℕ) → i < length fs → f ≡ get_or fs i f → now + all_nodes fs ≡ old + all_nodes (drop i fs)
    → (now < formula_nodes (formula_tree f)) ⊎ (levels < formula_levels (formula_tree f)) → (old < all_nodes fs) ⊎ (levels < all_levels fs)
formulas_have_more fs i f old now levels l is sum h =
    let turn = formulas_turn fs i f l is in
    let deep = deepest_formula fs i f l is in
    elim h [ inl x ↦ inl (omega (arith, sum, turn, x)) | inr y ↦ inr (omega (arith, deep, y)) ]

pub expressions_have_more : (es : List Expression) (i : ℕ) (e : Expression) (old now levels : ℕ) → i < length es → e ≡ get_or es i e → now + each_nodes es ≡ old + each_nodes (drop i es)
    → (now < nodes_of (expression_tree e)) ⊎ (levels < levels_of (expression_tree e)) → (old < each_nodes es) ⊎ (levels < each_levels es)
expressions_have_more es i e old now levels l is sum h =
    let turn = expressions_turn es i e l is in
    let deep = deepest_expression es i e l is in
    elim h [ inl x ↦ inl (omega (arith, sum, turn, x)) | inr y ↦ inr (omega (arith, deep, y)) ]
