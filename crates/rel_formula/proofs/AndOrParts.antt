-- The parts of a junction, read at the items of their `Vec`.
use Rattle.std.proofs.Common.{◌≡◌, ℕ, zero, suc, ◌<◌, ◌↔◌, ◌⊎◌, inl, inr, List, [], ◌∷◌, map, All, Vec, Global, length, get_or, refl, sym, ◌∙◌, ap, subst, arith}
use Rattle.std.specs.List.{Any}
use Rattle.std.proofs.lemmas.List.Elements.{All-nil, All-cons, All-head, All-tail}
use Rattle.tuple_core.specs.declared.atom.Atom.{Atom}
use Rattle.rel_formula.specs.declared.formula.Formula.{Formula, Junction, Compared, AtLeast, Not', Junction', Quantified', Row_of-Formula, end_of-Formula, more_of-Formula, items-the_row-Formula, items_hidden-the_row-Formula-0}
use Rattle.rel_formula.specs.declared.connectives.Connective.{Connective}
use Rattle.rel_formula.specs.declared.connectives.Connective.TheVariants as connective
use Rattle.rel_formula.specs.Kernel.{FormulaTree, junction, conjunction, disjunction, more_formulas, formulas_of}
use Rattle.rel_formula.specs.View.{formula_tree, formula_trees}
use Rattle.rel_formula.specs.Meaning.{Structure, Truth, AllTrue, AnyTrue}
use Rattle.rel_formula.specs.Evaluation.{HoldsOf}
use Rattle.rel_formula.specs.Shape.{IsProper, AreProper}

row_seen : {m : _} (row : Row_of-Formula m) → formula_trees row ≡ formulas_of (map formula_tree (items-the_row-Formula _ row))
row_seen end_of-Formula = refl
row_seen (more_of-Formula f rest) = ap (more_formulas (formula_tree f)) (row_seen rest)

-- the formula is a junction of just these
abbrev IsJunctionOf : Connective → List Formula → Formula → Type 0
IsJunctionOf c fs (Junction' o _ row) = (o ≡ c) × (items-the_row-Formula _ row ≡ fs)
IsJunctionOf c fs f = ⊥

junction_is : (c : Connective) (f : Formula) (fs : List Formula) → IsJunctionOf c fs f → formula_tree f ≡ junction c (formulas_of (map formula_tree fs))
junction_is c (Junction' o k row) fs e = ap (λ x. junction x (formula_trees row)) e.0 ∙ ap (junction c) (row_seen row ∙ ap (λ gs. formulas_of (map formula_tree gs)) e.1)
junction_is c (Compared o a b) fs e = absurd e
junction_is c (AtLeast n a) fs e = absurd e
junction_is c (Not' p f) fs e = absurd e
junction_is c (Quantified' o a p f) fs e = absurd e

junction_of : (c : Connective) (parts : Vec Formula Global) → IsJunctionOf c parts.items (Junction c parts)
junction_of c parts = (refl, items_hidden-the_row-Formula-0 parts)

pub Junction-tree : (c : Connective) (parts : Vec Formula Global) → formula_tree (Junction c parts) ≡ junction c (formulas_of (map formula_tree parts.items))
Junction-tree c parts = junction_is c (Junction c parts) parts.items (junction_of c parts)

pub And-tree : (parts : Vec Formula Global) → formula_tree (Junction connective.And parts) ≡ conjunction (formulas_of (map formula_tree parts.items))
And-tree = Junction-tree connective.And

pub Or-tree : (parts : Vec Formula Global) → formula_tree (Junction connective.Or parts) ≡ disjunction (formulas_of (map formula_tree parts.items))
Or-tree = Junction-tree connective.Or

any_cons : {X : Type 0} (P : X → Type 0) (x : X) (xs : List X) → P x ⊎ Any P xs → Any P (x ∷ xs)
any_cons P x xs h = elim h [ inl p ↦ (zero, x, omega arith, refl, p) | inr a ↦ (suc a.0, a.1, (let l = a.2 in omega arith), a.3, a.4) ]

cons_any : {X : Type 0} (P : X → Type 0) (x : X) (xs : List X) → Any P (x ∷ xs) → P x ⊎ Any P xs
cons_any P x xs a = at a.0 a.1 a.2 a.3 a.4
  where
    at : (k : ℕ) (y : _) → k < length (x ∷ xs) → get_or (x ∷ xs) k y ≡ y → P y → P x ⊎ Any P xs
    at zero y l e p = inl (subst P (sym e) p)
    at (suc k) y l e p = inr (k, y, omega arith, e, p)

module _ (M : Structure) (env : List Atom) where
  all_true : (fs : List Formula) → AllTrue M env (formulas_of (map formula_tree fs)) ↔ All (λ f. Truth M env (formula_tree f)) fs
  all_true [] = (λ h. All-nil (λ f. Truth M env (formula_tree f)), λ h. tt)
  all_true (f ∷ fs) =
      let P : Formula → Type 0 = λ f. Truth M env (formula_tree f) in
      let rest = all_true fs in
      (λ h. All-cons P f fs h.0 (rest.0 h.1), λ h. (All-head P f fs h, rest.1 (All-tail P f fs h)))

  any_true : (fs : List Formula) → AnyTrue M env (formulas_of (map formula_tree fs)) ↔ Any (λ f. Truth M env (formula_tree f)) fs
  any_true [] = (λ h. absurd h, λ h. let l = h.2 in omega arith)
  any_true (f ∷ fs) =
      let P : Formula → Type 0 = λ f. Truth M env (formula_tree f) in
      let rest = any_true fs in (
        λ h. any_cons P f fs (elim h [ inl t ↦ inl t | inr r ↦ inr (rest.0 r) ]),
        λ h. elim (cons_any P f fs h) [ inl t ↦ inl t | inr r ↦ inr (rest.1 r) ],
      )

  all_or_any : (c : Connective) (fs : List Formula) → Truth M env (junction c (formulas_of (map formula_tree fs))) ↔ HoldsOf c (λ f. Truth M env (formula_tree f)) fs
  all_or_any connective.And fs = all_true fs
  all_or_any connective.Or fs = any_true fs

  pub Truth-Junction : (c : Connective) (parts : Vec Formula Global) → Truth M env (formula_tree (Junction c parts)) ↔ HoldsOf c (λ f. Truth M env (formula_tree f)) parts.items
  Truth-Junction c parts = subst (λ (g : FormulaTree). Truth M env g ↔ HoldsOf c (λ f. Truth M env (formula_tree f)) parts.items) (sym (Junction-tree c parts)) (all_or_any c parts.items)

module _ (ns : List ℕ) (d : ℕ) where
  pub are_proper : (fs : List Formula) → AreProper ns d (formulas_of (map formula_tree fs)) ↔ All (λ f. IsProper ns d (formula_tree f)) fs
  are_proper [] = (λ h. All-nil (λ f. IsProper ns d (formula_tree f)), λ h. tt)
  are_proper (f ∷ fs) =
      let P : Formula → Type 0 = λ f. IsProper ns d (formula_tree f) in
      let rest = are_proper fs in
      (λ h. All-cons P f fs h.0 (rest.0 h.1), λ h. (All-head P f fs h, rest.1 (All-tail P f fs h)))

  pub IsProper-Junction : (c : Connective) (parts : Vec Formula Global) → IsProper ns d (formula_tree (Junction c parts)) ↔ All (λ f. IsProper ns d (formula_tree f)) parts.items
  IsProper-Junction c parts = subst (λ (g : FormulaTree). IsProper ns d g ↔ All (λ f. IsProper ns d (formula_tree f)) parts.items) (sym (Junction-tree c parts)) (are_proper parts.items)
