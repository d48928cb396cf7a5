-- Loops over parts: what was made, with what the parts that are left become, is what all parts become.
use Rattle.std.proofs.Common.{◌≡◌, ℕ, ◌+◌, ◌<◌, ◌≤◌, List, [], ◌∷◌, ◌++◌, map, reverse, length, get_or, drop, refl, sym, ap, ◌∙◌, append_assoc}
use Rattle.std.proofs.lemmas.List.{drop_more, at_drop_all, map-append, reverse-append}
use Rattle.rel_formula.specs.Kernel.{ExpressionTree, FormulaTree, FormulaTrees, no_formulas, more_formulas, formulas_of}
use Rattle.rel_formula.specs.declared.formula.Formula.{Formula}
use Rattle.rel_formula.specs.View.{formula_tree}
use Rattle.lowering_rules.specs.Binders as binders
use Rattle.body_lowering.specs.declared.locals.Local.{Local}
use Rattle.body_lowering.specs.Locals.{local_view, locals_view}

pub next_is : {X : Type 0} (all : List X) (i : ℕ) (x : X) → i < length all → x ≡ get_or all i x → drop i all ≡ x ∷ drop (i + 1) all
next_is all i x l is = drop_more all i x l ∙ ap (λ z. z ∷ drop (i + 1) all) (sym is)

-- one part more
pub loop_more : {X T : Type 0} (F G : List X → T) (all : List X) (i : ℕ) (x : X) (whole : T) → i < length all → x ≡ get_or all i x
    → G (drop (i + 1) all) ≡ F (x ∷ drop (i + 1) all) → F (drop i all) ≡ whole → G (drop (i + 1) all) ≡ whole
loop_more F G all i x whole l is turn before = turn ∙ ap F (sym (next_is all i x l is)) ∙ before

-- no part is left
pub loop_all : {X T : Type 0} (F : List X → T) (all : List X) (i : ℕ) (whole : T) → length all ≤ i → F (drop i all) ≡ whole → F [] ≡ whole
loop_all F all i whole l before = sym (at_drop_all F all i l) ∙ before

-- ---- formulas in front of others

abbrev pub front : List FormulaTree → FormulaTrees → FormulaTrees
front [] gs = gs
front (f ∷ fs) gs = more_formulas f (front fs gs)

front_more : (fs : List FormulaTree) (f : FormulaTree) (gs : FormulaTrees) → front (fs ++ f ∷ []) gs ≡ front fs (more_formulas f gs)
front_more [] f gs = refl
front_more (g ∷ fs) f gs = ap (more_formulas g) (front_more fs f gs)

pub front_all : (fs : List FormulaTree) → formulas_of fs ≡ front fs no_formulas
front_all [] = refl
front_all (f ∷ fs) = ap (more_formulas f) (front_all fs)

-- a formula more
pub pushed_formula : (old new : List Formula) (f : Formula) (g : FormulaTree) (rest : FormulaTrees) → new ≡ old ++ f ∷ [] → formula_tree f ≡ g
    → front (map formula_tree new) rest ≡ front (map formula_tree old) (more_formulas g rest)
pushed_formula old new f g rest more is =
    ap (λ fs. front (map formula_tree fs) rest) more ∙ ap (λ fs. front fs rest) (map-append formula_tree old (f ∷ []))
    ∙ front_more (map formula_tree old) (formula_tree f) rest ∙ ap (λ h. front (map formula_tree old) (more_formulas h rest)) is

-- ---- local names

-- a name more
pub pushed_local : (old new : List Local) (l : Local) → new ≡ old ++ l ∷ [] → locals_view new ≡ local_view l ∷ locals_view old
pushed_local old new l more =
    ap locals_view more ∙ ap reverse (map-append local_view old (l ∷ [])) ∙ reverse-append (map local_view old) (local_view l ∷ [])

-- arguments in place of parameters, the first of which stand here already
abbrev pub given_in_front : ℕ → List binders.Local → List ExpressionTree → List binders.Local
given_in_front d ls es = reverse (ls ++ map (binders.given d) es)

pub pushed_argument : (d : ℕ) (old new : List Local) (l : Local) (e : ExpressionTree) (rest : List ExpressionTree) → new ≡ old ++ l ∷ [] → local_view l ≡ binders.given d e
    → given_in_front d (map local_view new) rest ≡ given_in_front d (map local_view old) (e ∷ rest)
pushed_argument d old new l e rest more is =
    ap (λ ls. given_in_front d (map local_view ls) rest) more ∙ ap (λ ls. given_in_front d ls rest) (map-append local_view old (l ∷ []))
    ∙ ap reverse (append_assoc (map local_view old) (local_view l ∷ []) (map (binders.given d) rest))
    ∙ ap (λ k. reverse (map local_view old ++ k ∷ map (binders.given d) rest)) is
