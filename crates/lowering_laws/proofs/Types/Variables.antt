-- The value of an expression under more variables.
use Rattle.std.proofs.Common.{◌≡◌, ◌≤◌, ℕ, zero, suc, ◌+◌, ◌-◌, List, [], ◌∷◌, length, drop, Some, slice_get, All, refl, sym, ◌∙◌, ap, subst, arith, add-zero}
use Rattle.std.proofs.lemmas.List.Elements.{All-head, All-tail}
use Rattle.tuple_core.specs.declared.atom.Atom.{Atom}
use Rattle.tuple_core.specs.Operators.{Pred, combined, turned}
use Rattle.rel_formula.specs.Kernel.{ExpressionTree, rel, var, nothing, univ, iden, binary, unary}
use Rattle.rel_formula.specs.Meaning.{Structure, InValue}
use Rattle.lowering_rules.specs.Shifted.{shifted}
use Rattle.lowering_rules.specs.Binders.{Local, under, local_at}

get_behind : (env : List Atom) (k i : ℕ) → slice_get env (i + k) ≡ slice_get (drop k env) i
get_behind env zero i = ap (slice_get env) (add-zero i)
get_behind [] (suc k) i = refl
get_behind (a ∷ env) (suc k) i =
    let e : i + suc k ≡ suc (i + k) = omega arith in
    ap (slice_get (a ∷ env)) e ∙ get_behind env k i

-- under k variables more it is what it is without the k innermost ones
pub shift_seen : (M : Structure) (k : ℕ) (env : List Atom) (e : ExpressionTree) → InValue M env (shifted k e) ≡ InValue M (drop k env) e
shift_seen M k env (rel r) = refl
shift_seen M k env (var i) = λ j t. (a : Atom) × (get_behind env k i j ≡ Some a) × (t ≡ a ∷ [])
shift_seen M k env nothing = refl
shift_seen M k env univ = refl
shift_seen M k env iden = refl
shift_seen M k env (binary o a b) = λ i t. combined o (shift_seen M k env a i) (shift_seen M k env b i) t
shift_seen M k env (unary o a) = λ i t. turned o (shift_seen M k env a i) t

module _ (M : Structure) (env : List Atom) (a : Atom) where
  -- under one variable more
  under_one : (l : Local) → l.depth ≤ length env → (t : List Atom) → InValue M (a ∷ env) (under (length (a ∷ env)) l) t → InValue M env (under (length env) l) t
  under_one l h t v =
      let e : length (a ∷ env) - l.depth ≡ suc (length env - l.depth) = omega arith in
      let one : InValue M (a ∷ env) (under (length (a ∷ env)) l) ≡ InValue M (drop (length (a ∷ env) - l.depth) (a ∷ env)) l.expression = shift_seen M (length (a ∷ env) - l.depth) (a ∷ env) l.expression in
      let two : InValue M env (under (length env) l) ≡ InValue M (drop (length env - l.depth) env) l.expression = shift_seen M (length env - l.depth) env l.expression in
      let three : InValue M (drop (length (a ∷ env) - l.depth) (a ∷ env)) l.expression ≡ InValue M (drop (length env - l.depth) env) l.expression = ap (λ k. InValue M (drop k (a ∷ env)) l.expression) e in
      subst (λ (P : Pred). P t) (one ∙ three ∙ sym two) v

  pub local_under_one : (ls : List Local) (i : ℕ) → All (λ (l : Local). l.depth ≤ length env) ls → (t : List Atom) → InValue M (a ∷ env) (local_at ls i (length (a ∷ env))) t → InValue M env (local_at ls i (length env)) t
  local_under_one [] i h t v = absurd v
  local_under_one (l ∷ ls) zero h t v = under_one l (All-head (λ (l : Local). l.depth ≤ length env) l ls h) t v
  local_under_one (l ∷ ls) (suc i) h t v = local_under_one ls i (All-tail (λ (l : Local). l.depth ≤ length env) l ls h) t v
