-- Value and truth under a renaming of the atoms.
use Rattle.std.proofs.Common.{◌≡◌, ℕ, zero, suc, ◌<◌, List, [], ◌∷◌, ◌↔◌, inl, inr, length, get_or, map, slice_get, Some, sym, ◌∙◌, ap, subst, arith}
use Rattle.std.proofs.lemmas.List.{map-append, length-map, get_or-map}
use Rattle.tuple_core.specs.declared.atom.Atom.{Atom}
use Rattle.tuple_core.specs.Operators.{Pred, JoinsTo, Walk, BeginsWith, IsFirstIn}
use Rattle.tuple_core.specs.declared.operator.Operator.TheVariants as operator
use Rattle.tuple_core.specs.declared.operator.UnaryOperator.TheVariants as unary_operator
use Rattle.rel_formula.specs.declared.connectives.Comparison.TheVariants as comparison
use Rattle.rel_formula.specs.declared.connectives.Connective.TheVariants as connective
use Rattle.rel_formula.specs.declared.connectives.Quantifier.TheVariants as quantifier
use Rattle.rel_formula.specs.Kernel.{ExpressionTree, rel, var, nothing, univ, iden, binary, unary}
use Rattle.rel_formula.specs.Kernel.{FormulaTree, compared, at_least, negation, junction, quantified, FormulaTrees, no_formulas, more_formulas}
use Rattle.rel_formula.specs.Meaning.{Structure, InValue, HasAtLeast, IsWithin, Truth, AllTrue, AnyTrue}
use Rattle.rel_formula.proofs.Images.{map_undone}

-- N has the images of the tuples of M under f, and g leads back
pub record Renames (M N : Structure) (f g : Atom → Atom) : Type 0 where
  pub there : (a : Atom) → f (g a) ≡ a
  pub back : (a : Atom) → g (f a) ≡ a
  pub to : (r : ℕ) (t : List Atom) → M.values r t → N.values r (map f t)
  pub from : (r : ℕ) (t : List Atom) → N.values r t → M.values r (map g t)
  pub universe_to : (t : List Atom) → M.universe t → N.universe (map f t)
  pub universe_from : (t : List Atom) → N.universe t → M.universe (map g t)

pub flipped : {M N : Structure} {f g : Atom → Atom} → Renames M N f g → Renames N M g f
flipped r = record { there = r.back; back = r.there; to = r.from; from = r.to; universe_to = r.universe_from; universe_from = r.universe_to }

JoinsTo-map : (f : Atom → Atom) (l r t : List Atom) → JoinsTo l r t → JoinsTo (map f l) (map f r) (map f t)
JoinsTo-map f l r t j =
    (map f j.0, f j.1, map f j.2, ap (map f) j.3 ∙ map-append f j.0 (j.1 ∷ []), ap (map f) j.4, ap (map f) j.5 ∙ map-append f j.0 j.2)

Walk-map : (f : Atom → Atom) (P Q : Pred) → ((t : List Atom) → P t → Q (map f t)) → (x : Atom) (ms : List Atom) (y : Atom) → Walk P x ms y → Walk Q (f x) (map f ms) (f y)
Walk-map f P Q to x [] y w = to (x ∷ y ∷ []) w
Walk-map f P Q to x (m ∷ ms) y w = (to (x ∷ m ∷ []) w.0, Walk-map f P Q to m ms y w.1)

get-map : (f : Atom → Atom) (xs : List Atom) (i : ℕ) (a : Atom) → slice_get xs i ≡ Some a → slice_get (map f xs) i ≡ Some (f a)
get-map f [] i a e = cc
get-map f (x ∷ xs) zero a e = let same : x ≡ a = cc in ap (λ b. Some (f b)) same
get-map f (x ∷ xs) (suc i) a e = get-map f xs i a e

begins_back : (f g : Atom → Atom) → ((a : Atom) → g (f a) ≡ a) → (x : Atom) (t : List Atom) → BeginsWith x (map f t) → BeginsWith (g x) t
begins_back f g back x t b = (map g b.0, sym (map_undone g f back t) ∙ ap (map g) b.1)

first_back : (g : Atom → Atom) (P Q : Pred) → ((t : List Atom) → Q t → P (map g t)) → (x : Atom) → IsFirstIn Q x → IsFirstIn P (g x)
first_back g P Q from x i = (map g i.0, from i.0 i.1, (map g i.2.0, ap (map g) i.2.1))

-- the value's images
pub moved : (M N : Structure) (f g : Atom → Atom) → Renames M N f g → (env : List Atom) (e : ExpressionTree) (t : List Atom) → InValue M env e t → InValue N (map f env) e (map f t)
moved M N f g r env (rel n) t v = r.to n t v
moved M N f g r env (var i) t v = (f v.0, get-map f env i v.0 v.1, ap (map f) v.2)
moved M N f g r env nothing t v = absurd v
moved M N f g r env univ t v = r.universe_to t v
moved M N f g r env iden t v = (f v.0, r.universe_to (v.0 ∷ []) v.1, ap (map f) v.2)
moved M N f g r env (binary operator.Union a b) t v = elim v [ inl x ↦ inl (moved M N f g r env a t x) | inr y ↦ inr (moved M N f g r env b t y) ]
moved M N f g r env (binary operator.Minus a b) t v = (
  moved M N f g r env a t v.0,
  λ w. let x = moved N M g f (flipped r) (map f env) b (map f t) w in
      v.1 (subst (λ u. InValue M env b u) (map_undone g f r.back t) (subst (λ xs. InValue M xs b (map g (map f t))) (map_undone g f r.back env) x)),
)
moved M N f g r env (binary operator.Meet a b) t v = (moved M N f g r env a t v.0, moved M N f g r env b t v.1)
moved M N f g r env (binary operator.Product a b) t v =
    (map f v.0, map f v.1, moved M N f g r env a v.0 v.2, moved M N f g r env b v.1 v.3, ap (map f) v.4 ∙ map-append f v.0 v.1)
moved M N f g r env (binary operator.Join a b) t v =
    (map f v.0, map f v.1, moved M N f g r env a v.0 v.2, moved M N f g r env b v.1 v.3, JoinsTo-map f v.0 v.1 t v.4)
moved M N f g r env (unary unary_operator.Transpose a) t v = (f v.0, f v.1, moved M N f g r env a (v.0 ∷ v.1 ∷ []) v.2, ap (map f) v.3)
moved M N f g r env (unary unary_operator.Closure a) t v =
    (f v.0, map f v.1, f v.2, ap (map f) v.3, Walk-map f (InValue M env a) (InValue N (map f env) a) (moved M N f g r env a) v.0 v.1 v.2 v.4)
moved M N f g r env (binary operator.Override a b) t v = elim v [
  | inl y ↦ inl (moved M N f g r env b t y)
  | inr x ↦ inr (
    moved M N f g r env a t x.0,
    λ z begins first. x.1 (g z) (begins_back f g r.back z t begins)
        (first_back g (InValue M env b) (InValue N (map f env) b)
        (λ u w. subst (λ xs. InValue M xs b (map g u)) (map_undone g f r.back env) (moved N M g f (flipped r) (map f env) b u w)) z first),
  )
]
moved M N f g r env (binary operator.Dom s a) t v =
    (moved M N f g r env a t v.0, (f v.1.0, (map f v.1.1.0, ap (map f) v.1.1.1), moved M N f g r env s (v.1.0 ∷ []) v.1.2))
moved M N f g r env (binary operator.Ran a s) t v =
    (moved M N f g r env a t v.0, (f v.1.0, (map f v.1.1.0, ap (map f) v.1.1.1 ∙ map-append f v.1.1.0 (v.1.0 ∷ [])), moved M N f g r env s (v.1.0 ∷ []) v.1.2))

-- the other way, at the same atoms
moved_back : (M N : Structure) (f g : Atom → Atom) → Renames M N f g → (env : List Atom) (e : ExpressionTree) (t : List Atom) → InValue N (map f env) e t → InValue M env e (map g t)
moved_back M N f g r env e t w = subst (λ xs. InValue M xs e (map g t)) (map_undone g f r.back env) (moved N M g f (flipped r) (map f env) e t w)

pub value_moved : (M N : Structure) (f g : Atom → Atom) → Renames M N f g → (env : List Atom) (e : ExpressionTree) (t : List Atom) → InValue M env e t ↔ InValue N (map f env) e (map f t)
value_moved M N f g r env e t = (moved M N f g r env e t, λ w. subst (InValue M env e) (map_undone g f r.back t) (moved_back M N f g r env e (map f t) w))

at_least_moved : (f g : Atom → Atom) → ((a : Atom) → g (f a) ≡ a) → (P Q : Pred) → ((t : List Atom) → P t → Q (map f t)) → (n : ℕ) → HasAtLeast n P → HasAtLeast n Q
at_least_moved f g back P Q to n h =
    let ts = h.0 in
    let long = length-map ts (map f) in (
      map (map f) ts,
      long ∙ h.1,
      λ i j d p q. let j' : j < length ts = omega arith in let i' : i < length ts = omega arith in
          λ same. h.2 i j [] p j' (sym (map_undone g f back (get_or ts i [])) ∙ ap (map g) (sym (get_or-map (map f) ts i [] d i') ∙ same ∙ get_or-map (map f) ts j [] d j') ∙ map_undone g f back (get_or ts j [])),
      λ k d l. let k' : k < length ts = omega arith in subst Q (sym (get_or-map (map f) ts k [] d k')) (to (get_or ts k []) (h.3 k [] k')),
    )

within_moved : (f g : Atom → Atom) → ((a : Atom) → f (g a) ≡ a) → (P Q R S : Pred) → ((t : List Atom) → R t → P (map g t)) → ((t : List Atom) → Q t → S (map f t)) → IsWithin P Q → IsWithin R S
within_moved f g there P Q R S from to h t r = subst S (map_undone f g there t) (to (map g t) (h (map g t) (from t r)))

mutual
  -- the formula stays true
  pub truth_moved : (M N : Structure) (f g : Atom → Atom) → Renames M N f g → (env : List Atom) (a : FormulaTree) → Truth M env a → Truth N (map f env) a
  truth_moved M N f g r env (compared comparison.In a b) h =
      within_moved f g r.there (InValue M env a) (InValue M env b) (InValue N (map f env) a) (InValue N (map f env) b) (moved_back M N f g r env a) (moved M N f g r env b) h
  truth_moved M N f g r env (compared comparison.Equal a b) h = (
    within_moved f g r.there (InValue M env a) (InValue M env b) (InValue N (map f env) a) (InValue N (map f env) b) (moved_back M N f g r env a) (moved M N f g r env b) h.0,
    within_moved f g r.there (InValue M env b) (InValue M env a) (InValue N (map f env) b) (InValue N (map f env) a) (moved_back M N f g r env b) (moved M N f g r env a) h.1,
  )
  truth_moved M N f g r env (at_least n e) h = at_least_moved f g r.back (InValue M env e) (InValue N (map f env) e) (moved M N f g r env e) n h
  truth_moved M N f g r env (negation a) h = λ w. h (subst (λ xs. Truth M xs a) (map_undone g f r.back env) (truth_moved N M g f (flipped r) (map f env) a w))
  truth_moved M N f g r env (junction connective.And fs) h = all_moved M N f g r env fs h
  truth_moved M N f g r env (junction connective.Or fs) h = any_moved M N f g r env fs h
  truth_moved M N f g r env (quantified quantifier.All e a) h = λ x w.
      subst (λ y. Truth N (y ∷ map f env) a) (r.there x) (truth_moved M N f g r (g x ∷ env) a (h (g x) (moved_back M N f g r env e (x ∷ []) w)))
  truth_moved M N f g r env (quantified quantifier.Exists e a) h = (f h.0, moved M N f g r env e (h.0 ∷ []) h.1, truth_moved M N f g r (h.0 ∷ env) a h.2)
  truth_moved M N f g r env (quantified quantifier.Lone e a) h = λ x y v t w u.
      let s = subst (λ xs. Truth M (g x ∷ xs) a) (map_undone g f r.back env) (truth_moved N M g f (flipped r) (x ∷ map f env) a t) in
      let z = subst (λ xs. Truth M (g y ∷ xs) a) (map_undone g f r.back env) (truth_moved N M g f (flipped r) (y ∷ map f env) a u) in
      sym (r.there x) ∙ ap f (h (g x) (g y) (moved_back M N f g r env e (x ∷ []) v) s (moved_back M N f g r env e (y ∷ []) w) z) ∙ r.there y

  all_moved : (M N : Structure) (f g : Atom → Atom) → Renames M N f g → (env : List Atom) (fs : FormulaTrees) → AllTrue M env fs → AllTrue N (map f env) fs
  all_moved M N f g r env no_formulas h = h
  all_moved M N f g r env (more_formulas a rest) h = (truth_moved M N f g r env a h.0, all_moved M N f g r env rest h.1)

  any_moved : (M N : Structure) (f g : Atom → Atom) → Renames M N f g → (env : List Atom) (fs : FormulaTrees) → AnyTrue M env fs → AnyTrue N (map f env) fs
  any_moved M N f g r env no_formulas h = h
  any_moved M N f g r env (more_formulas a rest) h =
      elim h [ inl t ↦ inl (truth_moved M N f g r env a t) | inr u ↦ inr (any_moved M N f g r env rest u) ]

pub truth_both : (M N : Structure) (f g : Atom → Atom) → Renames M N f g → (env : List Atom) (a : FormulaTree) → Truth M env a ↔ Truth N (map f env) a
truth_both M N f g r env a = (
  truth_moved M N f g r env a,
  λ w. subst (λ xs. Truth M xs a) (map_undone g f r.back env) (truth_moved N M g f (flipped r) (map f env) a w),
)
