-- Fields, one after the other.
use Rattle.std.proofs.Common.{◌≡◌, ℕ, ◌+◌, ◌<◌, ◌≤◌, List, ◌∷◌, ◌++◌, map, length, drop, get_or, sym, ap, ◌∙◌, append_assoc, arith}
use Rattle.std.proofs.Math.ListN.{drop_of_length-le}
use Rattle.std.proofs.lemmas.List.{append-nil, drop_more}
use Rattle.named_model.specs.declared.named.Field.{Field}
use Rattle.named_model.specs.View.{field_view}
use Rattle.rel_formula.specs.declared.formula.Formula.{Formula}
use Rattle.rel_formula.specs.Kernel.{FormulaTree}
use Rattle.rel_formula.specs.View.{formula_tree}
use Rattle.lowering_rules.specs.Lowering.{Base}
use Rattle.lowering_rules.specs.Formula.{field_says, fields_say}
use Rattle.rel_lower.specs.Signatures.Said.{Says}

-- what is said of the fields from that one on, where the first of all is the relation of the number n
abbrev pub said_from : Base → ℕ → List Field → ℕ → List FormulaTree
said_from base n xs i = fields_say base (n + i) (map field_view (drop i xs))

said_next : (base : Base) (n : ℕ) (xs : List Field) (i : ℕ) (x : Field) → i < length xs → x ≡ get_or xs i x
    → said_from base n xs i ≡ field_says base (n + i) (field_view x) ++ said_from base n xs (i + 1)
said_next base n xs i x l is =
    let e : (n + i) + 1 ≡ n + (i + 1) = omega arith in
    ap (λ (ys : List Field). fields_say base (n + i) (map field_view ys)) (drop_more xs i x l ∙ ap (λ (y : Field). y ∷ drop (i + 1) xs) (sym is))
    ∙ ap (λ k. field_says base (n + i) (field_view x) ++ fields_say base k (map field_view (drop (i + 1) xs))) e

-- one field more
pub fields_more : (base : Base) (n : ℕ) (xs : List Field) (i : ℕ) (x : Field) (fs gs : List Formula) (to : List FormulaTree) → i < length xs → x ≡ get_or xs i x
    → Says fs gs (field_says base (n + i) (field_view x)) → map formula_tree fs ++ said_from base n xs i ≡ to → map formula_tree gs ++ said_from base n xs (i + 1) ≡ to
fields_more base n xs i x fs gs to l is new before =
    ap (λ ts. ts ++ said_from base n xs (i + 1)) new ∙ append_assoc (map formula_tree fs) (field_says base (n + i) (field_view x)) (said_from base n xs (i + 1))
    ∙ sym (ap (λ ts. map formula_tree fs ++ ts) (said_next base n xs i x l is)) ∙ before

-- and all of them
pub fields_end : (base : Base) (n : ℕ) (xs : List Field) (i : ℕ) (gs : List Formula) (to : List FormulaTree) → length xs ≤ i
    → map formula_tree gs ++ said_from base n xs i ≡ to → map formula_tree gs ≡ to
fields_end base n xs i gs to l before =
    sym (append-nil (map formula_tree gs))
    ∙ sym (ap (λ (ys : List Field). map formula_tree gs ++ fields_say base (n + i) (map field_view ys)) (drop_of_length-le xs l)) ∙ before
