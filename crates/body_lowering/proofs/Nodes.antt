-- The nodes of expressions under more binders, and of copies.
use Rattle.std.proofs.Common.{◌≡◌, ℕ, ◌+◌, ◌*◌, ◌<◌, ◌≤◌, ◌⊎◌, inl, inr, Result, Ok, Err, refl, ap, arith}
use Rattle.std.specs.Result.{OnErr}
use Rattle.std.proofs.Math.Nat.{mul-le-mul_right}
use Rattle.rel_formula.specs.Kernel.{ExpressionTree, rel, var, nothing, univ, iden, binary, unary}
use Rattle.lowering_rules.specs.Shifted.{shifted}
use Rattle.body_lowering.specs.Nodes.{nodes_of, levels_of}

pub in_error : {T E P : Type 0} (r : Result T E) → P → OnErr r P
in_error (Ok x) p = tt
in_error (Err e) p = p

pub some_node : (e : ExpressionTree) → 0 < nodes_of e
some_node (rel r) = omega arith
some_node (var i) = omega arith
some_node nothing = omega arith
some_node univ = omega arith
some_node iden = omega arith
some_node (binary o a b) = omega arith
some_node (unary o a) = omega arith

pub some_level : (e : ExpressionTree) → 0 < levels_of e
some_level (rel r) = omega arith
some_level (var i) = omega arith
some_level nothing = omega arith
some_level univ = omega arith
some_level iden = omega arith
some_level (binary o a b) = omega arith
some_level (unary o a) = omega arith

pub shifted_nodes : (k : ℕ) (e : ExpressionTree) → nodes_of (shifted k e) ≡ nodes_of e
shifted_nodes k (rel r) = refl
shifted_nodes k (var i) = refl
shifted_nodes k nothing = refl
shifted_nodes k univ = refl
shifted_nodes k iden = refl
shifted_nodes k (binary o a b) = λ i. shifted_nodes k a i + shifted_nodes k b i + 1
shifted_nodes k (unary o a) = ap (λ n. n + 1) (shifted_nodes k a)

-- ---- copies

-- a copy of so many nodes, and one beside it, is among those that are asked for
copy_within : (count k n : ℕ) → k < count → k * (n + 1) + (n + 1) ≤ count * (n + 1)
copy_within count k n l =
    let next : k + 1 ≤ count = omega (arith, l) in
    let all : (k + 1) * (n + 1) ≤ count * (n + 1) = mul-le-mul_right (n + 1) next in
    omega (arith, all)

-- where there are fewer nodes than a copy has, there are fewer than all copies have
few_for_all : (count k n old now : ℕ) → now + k * (n + 1) ≡ old → k < count → now < n + 1 → old < count * (n + 1)
few_for_all count k n old now e l h = let all = copy_within count k n l in omega (arith, e, h, all)

pub copies_have_more : (e : ExpressionTree) (count k old now levels : ℕ) → now + k * (nodes_of e + 1) ≡ old → k < count → now < 1 → (old < count * (nodes_of e + 1)) ⊎ (levels < levels_of e)
copies_have_more e count k old now levels is l h = inl (few_for_all count k (nodes_of e) old now is l (omega (arith, h)))

pub copy_has_more : (e : ExpressionTree) (count k old now left levels : ℕ) → now + k * (nodes_of e + 1) ≡ old → k < count → left + 1 ≡ now → (left < nodes_of e) ⊎ (levels < levels_of e) → (old < count * (nodes_of e + 1)) ⊎ (levels < levels_of e)
copy_has_more e count k old now left levels is l taken h = elim h [ inl x ↦ inl (few_for_all count k (nodes_of e) old now is l (omega (arith, taken, x))) | inr y ↦ inr y ]
