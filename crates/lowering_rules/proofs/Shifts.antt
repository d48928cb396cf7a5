-- Under more binders an expression keeps its arity, and stays well formed.
use Rattle.std.proofs.Common.{◌≡◌, ℕ, ◌+◌, List, refl, sym, ◌∙◌, subst, arith}
use Rattle.tuple_core.specs.Operators.{arity_with, Fit}
use Rattle.rel_formula.specs.Kernel.{ExpressionTree, rel, var, nothing, univ, iden, binary, unary}
use Rattle.rel_formula.specs.Shape.{arity_of, IsWellFormed}
use Rattle.lowering_rules.specs.Shifted.{shifted}
use Rattle.lowering_rules.specs.Shapes.{IsOfArity}

pub arity_shifted : (ns : List ℕ) (k : ℕ) (e : ExpressionTree) → arity_of ns (shifted k e) ≡ arity_of ns e
arity_shifted ns k (rel r) = refl
arity_shifted ns k (var i) = refl
arity_shifted ns k nothing = refl
arity_shifted ns k univ = refl
arity_shifted ns k iden = refl
arity_shifted ns k (binary o a b) = λ i. arity_with o (arity_shifted ns k a i) (arity_shifted ns k b i)
arity_shifted ns k (unary o a) = refl

pub well_shifted : (ns : List ℕ) (d k : ℕ) (e : ExpressionTree) → IsWellFormed ns d e → IsWellFormed ns (d + k) (shifted k e)
well_shifted ns d k (rel r) h = h
well_shifted ns d k (var i) h = omega arith
well_shifted ns d k nothing h = tt
well_shifted ns d k univ h = tt
well_shifted ns d k iden h = tt
well_shifted ns d k (binary o a b) h = (
  well_shifted ns d k a h.0,
  well_shifted ns d k b h.1,
  subst (λ m. Fit o m (arity_of ns (shifted k b))) (sym (arity_shifted ns k a)) (subst (Fit o (arity_of ns a)) (sym (arity_shifted ns k b)) h.2),
)
well_shifted ns d k (unary o a) h = (well_shifted ns d k a h.0, arity_shifted ns k a ∙ h.1)

pub arity_kept : (ns : List ℕ) (d k n : ℕ) (e : ExpressionTree) → IsOfArity ns d n e → IsOfArity ns (d + k) n (shifted k e)
arity_kept ns d k n e h = (well_shifted ns d k e h.0, arity_shifted ns k e ∙ h.1)
