-- Local names and quantifiers of well-formed expressions are well formed.
use Rattle.std.proofs.Common.{◌≡◌, ℕ, zero, suc, ◌+◌, ◌-◌, ◌≤◌, List, [], ◌∷◌, ◌++◌, map, length, replicate, slice_get, true, false, Some, refl, sym, ◌∙◌, ap, subst, arith, add-zero}
use Rattle.alloy_syntax.specs.declared.tree.Quantifier.{Quantifier}
use Rattle.alloy_syntax.specs.declared.tree.Quantifier.TheVariants as quantifier
use Rattle.rel_formula.specs.Kernel.{ExpressionTree, FormulaTree, equal, negation, for_all, for_some, for_at_most_one, formulas_of}
use Rattle.rel_formula.specs.Shape.{IsProper, AreProper}
use Rattle.named_model.specs.Phrase.{DomainTrees, no_domains, more_domains}
use Rattle.model_types.specs.Typing as typing
use Rattle.lowering_rules.specs.Shifted.{shifted}
use Rattle.lowering_rules.specs.Binders.{Local, under, local_at, variable, variables, behind_variables, variables_in, domain_of_each, differences, differences_in, where_all, where_some, bound_by, quantified_by}
use Rattle.lowering_rules.specs.Shapes.{IsOfArity, StandFor}
use Rattle.lowering_rules.proofs.Shifts.{arity_kept}

-- ---- local names

pub under_right : (ns : List ℕ) (d m : ℕ) (l : Local) → l.depth ≤ d → IsOfArity ns l.depth m l.expression → IsOfArity ns d m (under d l)
under_right ns d m l h f =
    let e : l.depth + (d - l.depth) ≡ d = omega arith in
    subst (λ k. IsOfArity ns k m (shifted (d - l.depth) l.expression)) e (arity_kept ns l.depth (d - l.depth) m l.expression f)

pub local_right : (ns : List ℕ) (d : ℕ) (es : List typing.Local) (ls : List Local) (i : ℕ) (e : typing.Local) → StandFor ns d es ls → slice_get es i ≡ Some e → IsOfArity ns d e.arity (local_at ls i d)
local_right ns d [] ls i e h at = absurd cc
local_right ns d (x ∷ es) [] i e h at = absurd h
local_right ns d (x ∷ es) (l ∷ ls) zero e h at =
    let same : x ≡ e = cc in
    subst (λ (z : typing.Local). IsOfArity ns d z.arity (under d l)) same (under_right ns d x.arity l h.0 h.1)
local_right ns d (x ∷ es) (l ∷ ls) (suc i) e h at = local_right ns d es ls i e h.2 at

deeper : (ns : List ℕ) (d : ℕ) (es : List typing.Local) (ls : List Local) → StandFor ns d es ls → StandFor ns (d + 1) es ls
deeper ns d [] [] h = tt
deeper ns d [] (l ∷ ls) h = absurd h
deeper ns d (e ∷ es) [] h = absurd h
deeper ns d (e ∷ es) (l ∷ ls) h = (let low = h.0 in omega arith, h.1, deeper ns d es ls h.2)

onto_front : (n : ℕ) (e : typing.Local) (es : List typing.Local) → replicate n e ++ e ∷ es ≡ e ∷ (replicate n e ++ es)
onto_front zero e es = refl
onto_front (suc n) e es = ap (λ xs. e ∷ xs) (onto_front n e es)

-- variables of unary domains
pub variables_right : (ns : List ℕ) (n k : ℕ) (e : typing.Local) (es : List typing.Local) (ls : List Local) → e.arity ≡ 1 → StandFor ns k es ls →
    StandFor ns (k + n) (typing.onto n e es) (behind_variables k n ls)
variables_right ns zero k e es ls one h = subst (λ j. StandFor ns j es ls) (sym (add-zero k)) h
variables_right ns (suc n) k e es ls one h =
    let more : StandFor ns (k + 1) (e ∷ es) (variable k ∷ ls) = (omega arith, (omega arith, sym one), deeper ns k es ls h) in
    let all = variables_right ns n (k + 1) e (e ∷ es) (variable k ∷ ls) one more in
    let deep : k + 1 + n ≡ k + suc n = omega arith in
    subst (λ j. StandFor ns j (replicate (suc n) e ++ es) (behind_variables (k + 1) n (variable k ∷ ls))) deep
    (subst (λ xs. StandFor ns (k + 1 + n) xs (behind_variables (k + 1) n (variable k ∷ ls))) (onto_front n e es) all)

-- ---- domains, the outermost first

abbrev pub AreDomains : List ℕ → ℕ → List ExpressionTree → Type 0
AreDomains ns d [] = Unit {0}
AreDomains ns d (e ∷ es) = IsOfArity ns d 1 e × AreDomains ns (d + 1) es

pub each_right : (ns : List ℕ) (n k d : ℕ) (e : ExpressionTree) (es : List ExpressionTree) → IsOfArity ns d 1 e → AreDomains ns (d + k + n) es → AreDomains ns (d + k) (domain_of_each k e n ++ es)
each_right ns zero k d e es h g = subst (λ j. AreDomains ns j es) (add-zero (d + k)) g
each_right ns (suc n) k d e es h g =
    let a : d + k + suc n ≡ d + (k + 1) + n = omega arith in
    let b : d + (k + 1) ≡ d + k + 1 = omega arith in
    (arity_kept ns d k 1 e h, subst (λ j. AreDomains ns j (domain_of_each (k + 1) e n ++ es)) b (each_right ns n (k + 1) d e es h (subst (λ j. AreDomains ns j es) a g)))

pub each_length : (n k : ℕ) (e : ExpressionTree) → length (domain_of_each k e n) ≡ n
each_length zero k e = refl
each_length (suc n) k e = let h = each_length n (k + 1) e in omega arith

-- ---- variables that differ

abbrev pub ListProper : List ℕ → ℕ → List FormulaTree → Type 0
ListProper ns d [] = Unit {0}
ListProper ns d (f ∷ fs) = IsProper ns d f × ListProper ns d fs

pub list_proper : (ns : List ℕ) (d : ℕ) (fs : List FormulaTree) → ListProper ns d fs → AreProper ns d (formulas_of fs)
list_proper ns d [] h = tt
list_proper ns d (f ∷ fs) h = (h.0, list_proper ns d fs h.1)

pub list_both : (ns : List ℕ) (d : ℕ) (fs gs : List FormulaTree) → ListProper ns d fs → ListProper ns d gs → ListProper ns d (fs ++ gs)
list_both ns d [] gs h g = g
list_both ns d (f ∷ fs) gs h g = (h.0, list_both ns d fs gs h.1 g)

-- expressions of one arity
abbrev AllUnary : List ℕ → ℕ → List ExpressionTree → Type 0
AllUnary ns d [] = Unit {0}
AllUnary ns d (e ∷ es) = IsOfArity ns d 1 e × AllUnary ns d es

variables_unary : (ns : List ℕ) (n d k : ℕ) → k + n ≤ d → AllUnary ns d (map (under d) (variables k n))
variables_unary ns zero d k h = tt
variables_unary ns (suc n) d k h = (under_right ns d 1 (variable k) (omega arith) (omega arith, refl), variables_unary ns n d (k + 1) (omega arith))

differ_right : (ns : List ℕ) (d : ℕ) (x : ExpressionTree) (xs : List ExpressionTree) → IsOfArity ns d 1 x → AllUnary ns d xs → ListProper ns d (map (λ y. negation (equal x y)) xs)
differ_right ns d x [] h g = tt
differ_right ns d x (y ∷ xs) h g = ((h.0, g.0.0, h.1 ∙ sym g.0.1), differ_right ns d x xs h g.1)

differences_right : (ns : List ℕ) (d : ℕ) (xs : List ExpressionTree) → AllUnary ns d xs → ListProper ns d (differences xs)
differences_right ns d [] h = tt
differences_right ns d (x ∷ xs) h = list_both ns d (map (λ y. negation (equal x y)) xs) (differences xs) (differ_right ns d x xs h.0 h.1) (differences_right ns d xs h.1)

pub disjoint_right : (ns : List ℕ) (ds : DomainTrees) (d k : ℕ) → k + variables_in ds ≤ d → ListProper ns d (differences_in d k ds)
disjoint_right ns no_domains d k h = tt
disjoint_right ns (more_domains true n mark x ds) d k h =
    list_both ns d (differences (map (under d) (variables k n))) (differences_in d (k + n) ds)
    (differences_right ns d (map (under d) (variables k n)) (variables_unary ns n d k (omega arith))) (disjoint_right ns ds d (k + n) (omega arith))
disjoint_right ns (more_domains false n mark x ds) d k h = disjoint_right ns ds d (k + n) (omega arith)

-- ---- quantifiers

where_all_right : (ns : List ℕ) (d : ℕ) (ps : List FormulaTree) (f : FormulaTree) → ListProper ns d ps → IsProper ns d f → IsProper ns d (where_all ps f)
where_all_right ns d [] f h g = g
where_all_right ns d (p ∷ ps) f h g = (list_proper ns d (p ∷ ps) h, (g, tt))

where_some_right : (ns : List ℕ) (d : ℕ) (ps : List FormulaTree) (f : FormulaTree) → ListProper ns d ps → IsProper ns d f → IsProper ns d (where_some ps f)
where_some_right ns d [] f h g = g
where_some_right ns d (p ∷ ps) f h g = list_proper ns d (p ∷ ps ++ f ∷ []) (h.0, list_both ns d ps (f ∷ []) h.1 (g, tt))

-- binders that make a proper formula of an expression and a proper formula
abbrev IsBinder : (ExpressionTree → FormulaTree → FormulaTree) → Type 0
IsBinder binder = (ns : List ℕ) (d : ℕ) (e : ExpressionTree) (f : FormulaTree) → IsOfArity ns d 1 e → IsProper ns (d + 1) f → IsProper ns d (binder e f)

bound_right : (binder : ExpressionTree → FormulaTree → FormulaTree) → IsBinder binder → (ns : List ℕ) (es : List ExpressionTree) (d : ℕ) (f : FormulaTree) →
    AreDomains ns d es → IsProper ns (d + length es) f → IsProper ns d (bound_by binder es f)
bound_right binder is ns [] d f h g = subst (λ j. IsProper ns j f) (add-zero d) g
bound_right binder is ns (e ∷ es) d f h g =
    let deep : d + length (e ∷ es) ≡ d + 1 + length es = omega arith in
    is ns d e (bound_by binder es f) h.0 (bound_right binder is ns es (d + 1) f h.1 (subst (λ j. IsProper ns j f) deep g))

all_binds : IsBinder for_all
all_binds = λ ns d e f h g. (h.0, h.1, g)

some_binds : IsBinder for_some
some_binds = λ ns d e f h g. (h.0, h.1, g)

lone_binds : IsBinder for_at_most_one
lone_binds = λ ns d e f h g. (h.0, h.1, g)

pub quantified_right : (ns : List ℕ) (q : Quantifier) (es : List ExpressionTree) (d : ℕ) (ps : List FormulaTree) (f : FormulaTree) →
    AreDomains ns d es → ListProper ns (d + length es) ps → IsProper ns (d + length es) f → IsProper ns d (quantified_by q es ps f)
quantified_right ns quantifier.All es d ps f h g b = bound_right for_all all_binds ns es d (where_all ps f) h (where_all_right ns (d + length es) ps f g b)
quantified_right ns quantifier.Some es d ps f h g b = bound_right for_some some_binds ns es d (where_some ps f) h (where_some_right ns (d + length es) ps f g b)
quantified_right ns quantifier.No es d ps f h g b = bound_right for_some some_binds ns es d (where_some ps f) h (where_some_right ns (d + length es) ps f g b)
quantified_right ns quantifier.Lone es d ps f h g b = bound_right for_at_most_one lone_binds ns es d (where_some ps f) h (where_some_right ns (d + length es) ps f g b)
quantified_right ns quantifier.One es d ps f h g b =
    let body = where_some_right ns (d + length es) ps f g b in
    (bound_right for_some some_binds ns es d (where_some ps f) h body, (bound_right for_at_most_one lone_binds ns es d (where_some ps f) h body, tt))
