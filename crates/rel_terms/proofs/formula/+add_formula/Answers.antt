use Rattle.std.proofs.Common.{◌≡◌, ℕ, subst, sym, ◌∙◌, ap, reverse, List, [], ◌∷◌, length, map, All, rules}
use Rattle.std.proofs.lemmas.List.{reverse-append}
use Rattle.tuple_core.specs.declared.atom.Atom.{Atom}
use Rattle.rel_formula.specs.declared.formula.Formula.{Formula}
use Rattle.rel_formula.specs.declared.formula.Formula.TheViews.{the_lemmas}
use Rattle.rel_formula.specs.Bounds.{Bounded}
use Rattle.rel_formula.specs.Kernel.{formulas_of}
use Rattle.rel_formula.specs.View.{expression_tree, formula_tree}
use Rattle.rel_formula.specs.Shape.{arity_of, IsProper}
use Rattle.rel_formula.proofs.AndOrParts.{IsProper-Junction}
use Rattle.rel_terms.specs.Numbers.{Is, ◌⊕◌}
use Rattle.rel_terms.specs.Upper.{upper_structure}
use Rattle.rel_terms.specs.Terms.{InUpperAt, ExpressionHas, FormulaHas, FormulasHave, each_terms}
use Rattle.rel_terms.specs.Counting.{Adds, IsCounted, RowsHave, arities_of}
use Rattle.rel_terms.proofs.Adding.{adds_both}
use Rattle.rel_terms.proofs.PartTerms.{parts_more, parts_above, adds_junction, rows_more, rows_above}
use Rattle.rel_terms.proofs.FormulaTerms.{each_adds}
use Rattle.rel_terms.proofs.formula.+add_formula.Goals as goal

-- the terms of f were added
abbrev HasAddedTo : Bounded → List Atom → ℕ → ℕ → Formula → Type 0
HasAddedTo p env b a f = Adds (FormulaHas (upper_structure p) (reverse env) (formula_tree f)) b a

pub add_at-returns-clause-adds : goal.add_at-returns-clause-adds
add_at-returns-clause-adds t c =
    let M = upper_structure c.args.problem.now in
    let f = formula_tree c.args.f.now in
    let env = c.args.env.now.items in
    let turned : reverse c.push.new.self.items ≡ c.args.atom ∷ reverse env = ap reverse c.in_ok-push.ensures.items ∙ reverse-append env (c.args.atom ∷ []) in
    let body = subst (λ es. Adds (FormulaHas M es f) c.add.new.self.terms c.add_formula.new.tally.terms) turned c.in_ok-add_formula.ensures.adds in
    adds_both (Is c.args.more) (FormulaHas M (c.args.atom ∷ reverse env) f) _ _ _ c.add.ensures body

pub add_for_each-returns-then-is_above-clause-adds : goal.add_for_each-returns-then-is_above-clause-adds
add_for_each-returns-then-is_above-clause-adds t c =
    rows_above (upper_structure c.args.problem.now) (reverse c.args.env.now.items) c.args.more (formula_tree c.args.f.now) c.args.rows.now c.loop-row.row-index _ _ (c.is_above.ensures.0 c.if-is_above.true) c.loop-row.invariant.adds

pub add_for_each-loop-row-preserved : goal.add_for_each-loop-row-preserved
add_for_each-loop-row-preserved t c =
    let M = upper_structure c.args.problem.now in
    let f = formula_tree c.args.f.now in
    let x = c.first.result in
    let here = subst (λ es. Adds (Is c.args.more ⊕ FormulaHas M (x ∷ reverse es) f) c.loop-row.tally.terms c.add_at.new.tally.terms) c.loop-row.invariant.env c.in_ok-add_at.ensures.adds in
    record {
      env = c.in_ok-add_at.ensures.env ∙ c.loop-row.invariant.env;
      adds = rows_more M (reverse c.args.env.now.items) c.args.more f c.args.rows.now c.loop-row.row-index c.row-item.result x _ _ _ c.loop-row-test.true c.row-item.is c.first.ensures c.loop-row.invariant.adds here;
    }

pub add_parts-returns-then-is_above-clause-adds : goal.add_parts-returns-then-is_above-clause-adds
add_parts-returns-then-is_above-clause-adds t c =
    parts_above (upper_structure c.args.problem.now) (reverse c.args.env.now.items) c.args.parts.now c.loop-part.part-index _ _ (c.is_above.ensures.0 c.if-is_above.true) c.loop-part.invariant.adds

pub add_parts-loop-part-preserved : goal.add_parts-loop-part-preserved
add_parts-loop-part-preserved t c =
    let M = upper_structure c.args.problem.now in
    let x = c.part-item.result in
    let here = subst (λ es. Adds (FormulaHas M (reverse es) (formula_tree x)) c.loop-part.tally.terms c.add_formula.new.tally.terms) c.loop-part.invariant.env c.in_ok-add_formula.ensures.adds in
    record {
      env = c.in_ok-add_formula.ensures.env ∙ c.loop-part.invariant.env;
      adds = parts_more M (reverse c.args.env.now.items) c.args.parts.now c.loop-part.part-index x _ _ _ c.loop-part-test.true c.part-item.is c.loop-part.invariant.adds here;
    }

pub add_formula-add_parts-requires : goal.add_formula-add_parts-requires
add_formula-add_parts-requires t c =
    let ns = arities_of c.args.problem.now in
    let d = length c.args.env.now.items in (
      search (rules, the_lemmas),
      (
        c.requires.problem,
        (
          c.requires.universe,
          subst (All (λ (f : Formula). IsProper ns d (formula_tree f))) (sym c.deref-in-Junction.ensures.value) ((IsProper-Junction ns d c.in-Junction.field-0 c.in-Junction.parts).0 (subst (λ (f : Formula). IsProper ns d (formula_tree f)) c.in-Junction.is c.requires.proper)),
        ),
      ),
    )

pub add_formula-returns-in_ok-add_formula-in-Not-clause-adds : goal.add_formula-returns-in_ok-add_formula-in-Not-clause-adds
add_formula-returns-in_ok-add_formula-in-Not-clause-adds t c =
    let p = c.args.problem.now in
    let env = c.args.env.now.items in
    let inner = subst (HasAddedTo p env c.add.new.self.terms c.add_formula.new.tally.terms) c.deref.ensures c.in_ok-add_formula-in-Not.ensures.adds in
    let one = subst (λ b. Adds (Is 1) b c.add.new.self.terms) c.in_ok-look.ensures.terms c.add.ensures in
    subst (HasAddedTo p env c.args.tally.now.terms c.add_formula.new.tally.terms) (sym c.in-Not.is) (adds_both (Is 1) (FormulaHas (upper_structure p) (reverse env) (formula_tree c.in-Not.g.value)) _ _ _ one inner)

pub add_formula-returns-in_ok-add_parts-in-Junction-clause-adds : goal.add_formula-returns-in_ok-add_parts-in-Junction-clause-adds
add_formula-returns-in_ok-add_parts-in-Junction-clause-adds t c =
    let p = c.args.problem.now in
    let M = upper_structure p in
    let env = c.args.env.now.items in
    let a = c.add_parts.new.tally.terms in
    let start = subst (λ b. Adds (Is 1 ⊕ FormulasHave M (reverse env) (formulas_of (map formula_tree c.deref-in-Junction.result.now))) b a) c.in_ok-look.ensures.terms c.in_ok-add_parts-in-Junction.ensures.adds in
    let parts = subst (λ (fs : List Formula). Adds (Is 1 ⊕ FormulasHave M (reverse env) (formulas_of (map formula_tree fs))) c.args.tally.now.terms a) c.deref-in-Junction.ensures.value start in
    subst (HasAddedTo p env c.args.tally.now.terms a) (sym c.in-Junction.is) (adds_junction M (reverse env) c.in-Junction.field-0 c.in-Junction.parts c.args.tally.now.terms a parts)

pub add_formula-returns-in_ok-add_for_each-in-Quantified-clause-adds : goal.add_formula-returns-in_ok-add_for_each-in-Quantified-clause-adds
add_formula-returns-in_ok-add_for_each-in-Quantified-clause-adds t c =
    let p = c.args.problem.now in
    let M = upper_structure p in
    let env = c.args.env.now.items in
    let q = c.in-Quantified.quantifier in
    let e = expression_tree c.in-Quantified.e in
    let g = formula_tree c.in-Quantified.g.value in
    let x = c.upper.new.tally.terms in
    let a = c.add_for_each.new.tally.terms in
    let formed = subst (λ (f : Formula). IsProper (arities_of p) (length env) (formula_tree f)) c.in-Quantified.is c.requires.proper in
    let start = subst (λ b. IsCounted c.in_ok-domain-in-Quantified.domain (arity_of (arities_of p) e) (InUpperAt M (reverse c.as_slice-in-Quantified.result.now) e) (ExpressionHas M (reverse c.as_slice-in-Quantified.result.now) e) b x) c.in_ok-look.ensures.terms c.in_ok-domain-in-Quantified.ensures in
    let domain = subst (λ es. IsCounted c.in_ok-domain-in-Quantified.domain (arity_of (arities_of p) e) (InUpperAt M (reverse es) e) (ExpressionHas M (reverse es) e) c.args.tally.now.terms x) c.as_slice-in-Quantified.ensures.value start in
    let body = subst (λ (f : Formula). Adds (RowsHave M (reverse env) c.terms_for_each-more.result (formula_tree f) c.rows.result.now) x a) c.deref-in-Quantified.ensures c.in_ok-add_for_each-in-Quantified.ensures.adds in
    let sums = subst (λ more. Adds (RowsHave M (reverse env) more g c.rows.result.now) x a) c.terms_for_each-more.ensures body in
    subst (HasAddedTo p env c.args.tally.now.terms a) (sym c.in-Quantified.is)
    (each_adds M (reverse env) (each_terms q) g c.rows.result.now formed.1 c.rows.ensures.well c.rows.ensures.value domain sums)
