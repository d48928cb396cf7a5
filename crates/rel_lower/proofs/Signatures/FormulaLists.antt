-- Formulas behind formulas.
use Rattle.std.proofs.Common.{◌≡◌, List, [], ◌∷◌, ◌++◌, map, sym, ap, ◌∙◌, append_assoc}
use Rattle.std.proofs.lemmas.List.{append-nil, map-append}
use Rattle.rel_formula.specs.declared.formula.Formula.{Formula}
use Rattle.rel_formula.specs.Kernel.{FormulaTree}
use Rattle.rel_formula.specs.View.{formula_tree}
use Rattle.rel_lower.specs.Signatures.Said.{Says}

pub says_nothing : (fs : List Formula) → Says fs fs []
says_nothing fs = sym (append-nil (map formula_tree fs))

pub says_one : (fs gs : List Formula) (f : Formula) (t : FormulaTree) → gs ≡ fs ++ f ∷ [] → formula_tree f ≡ t → Says fs gs (t ∷ [])
says_one fs gs f t e is = ap (map formula_tree) e ∙ map-append formula_tree fs (f ∷ []) ∙ ap (λ x. map formula_tree fs ++ x ∷ []) is

pub says_both : (fs gs hs : List Formula) (xs ys : List FormulaTree) → Says fs gs xs → Says gs hs ys → Says fs hs (xs ++ ys)
says_both fs gs hs xs ys a b = b ∙ ap (λ zs. zs ++ ys) a ∙ append_assoc (map formula_tree fs) xs ys

pub says_then : (fs gs hs : List Formula) (f : Formula) (t : FormulaTree) (ts : List FormulaTree) → gs ≡ fs ++ f ∷ [] → formula_tree f ≡ t → Says gs hs ts → Says fs hs (t ∷ ts)
says_then fs gs hs f t ts added is behind = says_both fs gs hs (t ∷ []) ts (says_one fs gs f t added is) behind
