-- Value and truth depend on the tuples alone that the relations and the universe have.
use Rattle.std.proofs.Common.{ℕ, List, [], ◌∷◌, ◌↔◌, inl, inr}
use Rattle.tuple_core.specs.declared.atom.Atom.{Atom}
use Rattle.tuple_core.specs.Gains.{Same}
use Rattle.tuple_core.specs.Operators.{Pred}
use Rattle.tuple_core.proofs.Congruence.{same_back, combined_same, turned_same}
use Rattle.rel_formula.specs.declared.connectives.Comparison.{Comparison}
use Rattle.rel_formula.specs.declared.connectives.Comparison.TheVariants as comparison
use Rattle.rel_formula.specs.declared.connectives.Connective.TheVariants as connective
use Rattle.rel_formula.specs.declared.connectives.Quantifier.{Quantifier}
use Rattle.rel_formula.specs.declared.connectives.Quantifier.TheVariants as quantifier
use Rattle.rel_formula.specs.Kernel.{ExpressionTree, rel, var, nothing, univ, iden, binary, unary}
use Rattle.rel_formula.specs.Kernel.{FormulaTree, compared, at_least, negation, junction, quantified, FormulaTrees, no_formulas, more_formulas}
use Rattle.rel_formula.specs.Meaning.{Structure, InValue, HasAtLeast, IsWithin, Compares, HoldsFor, Truth, AllTrue, AnyTrue}

within_same : (P Q R S : Pred) → Same P R → Same Q S → IsWithin P Q ↔ IsWithin R S
within_same P Q R S f g = (λ h t r. g.to t (h t (f.back t r)), λ h t p. g.back t (h t (f.to t p)))

pub compares_same : (c : Comparison) (P Q R S : Pred) → Same P R → Same Q S → Compares c P Q ↔ Compares c R S
compares_same comparison.In P Q R S f g = within_same P Q R S f g
compares_same comparison.Equal P Q R S f g =
    let there = within_same P Q R S f g in
    let around = within_same Q P S R g f in
    (λ h. (there.0 h.0, around.0 h.1), λ h. (there.1 h.0, around.1 h.1))

holds_same : (q : Quantifier) (P R : Pred) (F G : Atom → Type 0) → Same P R → ((a : Atom) → F a ↔ G a) → HoldsFor q P F ↔ HoldsFor q R G
holds_same quantifier.All P R F G s f = (λ h a r. (f a).0 (h a (s.back (a ∷ []) r)), λ h a p. (f a).1 (h a (s.to (a ∷ []) p)))
holds_same quantifier.Exists P R F G s f = (λ h. (h.0, s.to (h.0 ∷ []) h.1, (f h.0).0 h.2), λ h. (h.0, s.back (h.0 ∷ []) h.1, (f h.0).1 h.2))
holds_same quantifier.Lone P R F G s f = (
  λ h a b v x w y. h a b (s.back (a ∷ []) v) ((f a).1 x) (s.back (b ∷ []) w) ((f b).1 y),
  λ h a b v x w y. h a b (s.to (a ∷ []) v) ((f a).0 x) (s.to (b ∷ []) w) ((f b).0 y),
)

at_least_same : (n : ℕ) (P Q : Pred) → Same P Q → HasAtLeast n P → HasAtLeast n Q
at_least_same n P Q f h = (h.0, h.1, h.2, λ k d l. f.to _ (h.3 k d l))

module _ (M N : Structure) (s : (r : ℕ) → Same (M.values r) (N.values r)) (u : Same M.universe N.universe) where
  pub value_same : (env : List Atom) (e : ExpressionTree) → Same (InValue M env e) (InValue N env e)
  value_same env (rel r) = s r
  value_same env (var i) = record { to = λ t h. h; back = λ t h. h }
  value_same env nothing = record { to = λ t h. h; back = λ t h. h }
  value_same env univ = u
  value_same env iden = record { to = λ t h. (h.0, u.to (h.0 ∷ []) h.1, h.2); back = λ t h. (h.0, u.back (h.0 ∷ []) h.1, h.2) }
  value_same env (binary o a b) = combined_same o (value_same env a) (value_same env b)
  value_same env (unary o a) = turned_same o (value_same env a)

  mutual
    pub truth_same : (env : List Atom) (f : FormulaTree) → Truth M env f ↔ Truth N env f
    truth_same env (compared c a b) = compares_same c (InValue M env a) (InValue M env b) (InValue N env a) (InValue N env b) (value_same env a) (value_same env b)
    truth_same env (at_least n e) =
        let f = value_same env e in
        (at_least_same n (InValue M env e) (InValue N env e) f, at_least_same n (InValue N env e) (InValue M env e) (same_back f))
    truth_same env (negation f) = (λ h w. h ((truth_same env f).1 w), λ h v. h ((truth_same env f).0 v))
    truth_same env (junction connective.And fs) = all_same env fs
    truth_same env (junction connective.Or fs) = any_same env fs
    truth_same env (quantified q e f) =
        holds_same q (InValue M env e) (InValue N env e) (λ a. Truth M (a ∷ env) f) (λ a. Truth N (a ∷ env) f) (value_same env e) (λ a. truth_same (a ∷ env) f)

    all_same : (env : List Atom) (fs : FormulaTrees) → AllTrue M env fs ↔ AllTrue N env fs
    all_same env no_formulas = (λ h. h, λ h. h)
    all_same env (more_formulas f rest) =
        (λ h. ((truth_same env f).0 h.0, (all_same env rest).0 h.1), λ h. ((truth_same env f).1 h.0, (all_same env rest).1 h.1))

    any_same : (env : List Atom) (fs : FormulaTrees) → AnyTrue M env fs ↔ AnyTrue N env fs
    any_same env no_formulas = (λ h. h, λ h. h)
    any_same env (more_formulas f rest) = (
      λ h. elim h [ inl t ↦ inl ((truth_same env f).0 t) | inr r ↦ inr ((any_same env rest).0 r) ],
      λ h. elim h [ inl t ↦ inl ((truth_same env f).1 t) | inr r ↦ inr ((any_same env rest).1 r) ],
    )
