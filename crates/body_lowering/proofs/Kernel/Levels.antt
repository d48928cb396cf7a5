-- Variables by the levels of their binders: what is said of them, one variable after the other.
use Rattle.std.proofs.Common.{◌≡◌, ℕ, suc, ◌+◌, ◌-◌, ◌<◌, List, [], ◌∷◌, ◌++◌, map, refl, sym, ap, ◌∙◌, append_assoc, arith}
use Rattle.std.proofs.lemmas.List.{map-append}
use Rattle.rel_formula.specs.declared.formula.Expression.{Expression}
use Rattle.rel_formula.specs.declared.formula.Formula.{Formula}
use Rattle.rel_formula.specs.Kernel.{ExpressionTree, FormulaTree, equal, negation}
use Rattle.rel_formula.specs.View.{expression_tree, formula_tree}
use Rattle.lowering_rules.specs.Shifted.{shifted}
use Rattle.lowering_rules.specs.Binders.{Local, under, variable, variables, differences, domain_of_each, bound_by}
use Rattle.body_lowering.specs.Kernel.Binding.{unequal_to}

variables_next : (k end : ℕ) → k < end → variables k (end - k) ≡ variable k ∷ variables (k + 1) (end - (k + 1))
variables_next k end l = let e : end - k ≡ suc (end - (k + 1)) = omega arith in ap (variables k) e

-- one variable beside all that stand behind it
pub unequal_next : (d k j end : ℕ) (old new to : List FormulaTree) (f : FormulaTree) → j < end → new ≡ old ++ f ∷ [] → f ≡ unequal_to d k (variable j)
    → old ++ map (unequal_to d k) (variables j (end - j)) ≡ to → new ++ map (unequal_to d k) (variables (j + 1) (end - (j + 1))) ≡ to
unequal_next d k j end old new to f l more is before =
    let rest = map (unequal_to d k) (variables (j + 1) (end - (j + 1))) in
    ap (λ fs. fs ++ rest) more ∙ append_assoc old (f ∷ []) rest ∙ ap (λ g. old ++ g ∷ rest) is
    ∙ sym (ap (λ vs. old ++ map (unequal_to d k) vs) (variables_next j end l)) ∙ before

unequal_all : (d k : ℕ) (vs : List Local) → map (unequal_to d k) vs ≡ map (λ y. negation (equal (under d (variable k)) y)) (map (under d) vs)
unequal_all d k [] = refl
unequal_all d k (v ∷ vs) = ap (λ fs. unequal_to d k v ∷ fs) (unequal_all d k vs)

-- what is said of all levels from k on
abbrev pub said_from : ℕ → ℕ → ℕ → List FormulaTree
said_from d k end = differences (map (under d) (variables k (end - k)))

said_next : (d k end : ℕ) → k < end → said_from d k end ≡ map (unequal_to d k) (variables (k + 1) (end - k - 1)) ++ said_from d (k + 1) end
said_next d k end l =
    let e : end - (k + 1) ≡ end - k - 1 = omega arith in
    ap (λ vs. differences (map (under d) vs)) (variables_next k end l)
    ∙ ap (λ fs. fs ++ said_from d (k + 1) end) (sym (unequal_all d k (variables (k + 1) (end - (k + 1)))) ∙ ap (λ n. map (unequal_to d k) (variables (k + 1) n)) e)

pub said_more : (d k end : ℕ) (old new to : List FormulaTree) → k < end → new ≡ old ++ map (unequal_to d k) (variables (k + 1) (end - k - 1))
    → old ++ said_from d k end ≡ to → new ++ said_from d (k + 1) end ≡ to
said_more d k end old new to l more before =
    ap (λ fs. fs ++ said_from d (k + 1) end) more ∙ append_assoc old (map (unequal_to d k) (variables (k + 1) (end - k - 1))) (said_from d (k + 1) end)
    ∙ sym (ap (λ fs. old ++ fs) (said_next d k end l)) ∙ before

-- ---- domains

domains_next : (k : ℕ) (e : ExpressionTree) (end : ℕ) → k < end → domain_of_each k e (end - k) ≡ shifted k e ∷ domain_of_each (k + 1) e (end - (k + 1))
domains_next k e end l = let s : end - k ≡ suc (end - (k + 1)) = omega arith in ap (domain_of_each k e) s

pub domains_more : (k : ℕ) (e : ExpressionTree) (end : ℕ) (old new to : List ExpressionTree) (x : ExpressionTree) → k < end → new ≡ old ++ x ∷ [] → x ≡ shifted k e
    → old ++ domain_of_each k e (end - k) ≡ to → new ++ domain_of_each (k + 1) e (end - (k + 1)) ≡ to
domains_more k e end old new to x l more is before =
    let rest = domain_of_each (k + 1) e (end - (k + 1)) in
    ap (λ es. es ++ rest) more ∙ append_assoc old (x ∷ []) rest ∙ ap (λ y. old ++ y ∷ rest) is
    ∙ sym (ap (λ es. old ++ es) (domains_next k e end l)) ∙ before

-- a list of formulas with one more, seen as trees
pub one_more : (fs gs : List Formula) (f : Formula) → gs ≡ fs ++ f ∷ [] → map formula_tree gs ≡ map formula_tree fs ++ formula_tree f ∷ []
one_more fs gs f e = ap (map formula_tree) e ∙ map-append formula_tree fs (f ∷ [])

pub one_expression_more : (es ds : List Expression) (e : Expression) → ds ≡ es ++ e ∷ [] → map expression_tree ds ≡ map expression_tree es ++ expression_tree e ∷ []
one_expression_more es ds e h = ap (map expression_tree) h ∙ map-append expression_tree es (e ∷ [])

-- ---- one binder more

bound_by_last : (binder : ExpressionTree → FormulaTree → FormulaTree) (es : List ExpressionTree) (e : ExpressionTree) (f : FormulaTree)
    → bound_by binder (es ++ e ∷ []) f ≡ bound_by binder es (binder e f)
bound_by_last binder [] e f = refl
bound_by_last binder (x ∷ es) e f = ap (binder x) (bound_by_last binder es e f)

pub bound_by_next : (binder : ExpressionTree → FormulaTree → FormulaTree) (all rest : List Expression) (e : Expression) (f g to : FormulaTree) → all ≡ rest ++ e ∷ []
    → g ≡ binder (expression_tree e) f → bound_by binder (map expression_tree all) f ≡ to → bound_by binder (map expression_tree rest) g ≡ to
bound_by_next binder all rest e f g to last is before =
    ap (bound_by binder (map expression_tree rest)) is ∙ sym (bound_by_last binder (map expression_tree rest) (expression_tree e) f)
    ∙ sym (ap (λ es. bound_by binder es f) (one_expression_more rest all e last)) ∙ before
