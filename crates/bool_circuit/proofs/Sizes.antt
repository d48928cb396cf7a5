-- How the size changes where a node is made.
use Rattle.std.proofs.Common.{◌≡◌, ℕ, ◌+◌, ◌≤◌, Bool, true, false, ◌||◌, List, [], ◌∷◌, ◌++◌, get_or, refl, sym, ap, ◌∙◌, subst, arith, length-append, cond, inl, inr}
use Rattle.std.specs.Prelude.{Contains, Any, Result, Ok, Err, IfOk, OnErr}
use Rattle.std.specs.List.{list_any}
use Rattle.std.proofs.lemmas.List.Folds.{list_any-append, Any-from_list_any}
use Rattle.bool_circuit.specs.declared.shape.Shape.{Shape}
use Rattle.bool_circuit.specs.declared.shape.Shape.TheVariants.{Constant, Input, And, Or, Not}
use Rattle.bool_circuit.specs.Network.{Network, is_constant, missing, size, with_shape}
use Rattle.bool_circuit.specs.Folding.{Makes}

missing_cases : (a b : Bool) → cond (a || (b || false)) 0 1 ≤ cond a 0 1
missing_cases true b = omega arith
missing_cases false true = omega arith
missing_cases false false = omega arith

missing-push_le : (b : Bool) (xs : List Shape) (g : Shape) → missing b (xs ++ g ∷ []) ≤ missing b xs
missing-push_le b xs g =
    subst (λ t. cond t 0 1 ≤ missing b xs) (sym (list_any-append (is_constant b) xs (g ∷ []))) (missing_cases (list_any (is_constant b) xs) (is_constant b g))

-- a shape that isn't this constant leaves it missing or not
same_cases : (a : Bool) (m n : ℕ) → cond (a || (false || false)) m n ≡ cond a m n
same_cases true m n = refl
same_cases false m n = refl

missing-push_other : (b : Bool) (xs : List Shape) (g : Shape) → is_constant b g ≡ false → missing b (xs ++ g ∷ []) ≡ missing b xs
missing-push_other b xs g e =
    ap (λ t. cond t 0 1) (list_any-append (is_constant b) xs (g ∷ []))
    ∙ ap (λ t. cond (list_any (is_constant b) xs || (t || false)) 0 1) e
    ∙ same_cases (list_any (is_constant b) xs) 0 1

pushed_cases : (a : Bool) (m n : ℕ) → cond (a || (true || false)) m n ≡ m
pushed_cases true m n = refl
pushed_cases false m n = refl

missing-push_same : (b : Bool) (xs : List Shape) (g : Shape) → is_constant b g ≡ true → missing b (xs ++ g ∷ []) ≡ 0
missing-push_same b xs g e =
    ap (λ t. cond t 0 1) (list_any-append (is_constant b) xs (g ∷ []))
    ∙ ap (λ t. cond (list_any (is_constant b) xs || (t || false)) 0 1) e
    ∙ pushed_cases (list_any (is_constant b) xs) 0 1

is_that : (b : Bool) (g : Shape) → is_constant b g ≡ true → g ≡ Constant b
is_that true (Constant true) e = refl
is_that true (Constant false) e = cc
is_that false (Constant true) e = cc
is_that false (Constant false) e = refl
is_that b (Input i) e = cc
is_that b (And m n) e = cc
is_that b (Or m n) e = cc
is_that b (Not m) e = cc

missing-none : (b : Bool) (xs : List Shape) → (Contains xs (Constant b) → ⊥) → missing b xs ≡ 1
missing-none b xs none = by (list_any (is_constant b) xs) refl
  where
    by : (t : Bool) → list_any (is_constant b) xs ≡ t → missing b xs ≡ 1
    by true e =
        let any : Any (λ x. is_constant b x ≡ true) xs = Any-from_list_any (is_constant b) xs e in
        let is = is_that b any.1 any.4 in
        absurd (none (any.0, any.2, subst (λ (x : Shape). get_or xs any.0 x ≡ x) is any.3))
    by false e = ap (λ t. cond t 0 1) e

pub size-push : (network : Network) (g : Shape) → size (with_shape network g) ≤ size network + 1
size-push network g =
    let xs = network.shapes in
    omega (arith, length-append xs (g ∷ []), missing-push_le true xs g, missing-push_le false xs g)

pub size-push_constant : (network : Network) (b : Bool) → (Contains network.shapes (Constant b) → ⊥) → size (with_shape network (Constant b)) ≡ size network
size-push_constant network true none =
    let xs = network.shapes in
    let a = missing-push_same true xs (Constant true) refl in
    let b = missing-push_other false xs (Constant true) refl in
    let c = missing-none true xs none in
    omega (arith, length-append xs (Constant true ∷ []))
size-push_constant network false none =
    let xs = network.shapes in
    let a = missing-push_same false xs (Constant false) refl in
    let b = missing-push_other true xs (Constant false) refl in
    let c = missing-none false xs none in
    omega (arith, length-append xs (Constant false ∷ []))

pub size-made : (old new : Network) (g : Shape) (n : ℕ) → Makes g old new n → size new ≤ size old + 1
size-made old new g n made = elim made.1 [ inl e ↦ subst (λ w. size w ≤ size old + 1) (sym e) (omega arith) | inr e ↦ subst (λ w. size w ≤ size old + 1) (sym e.0) (size-push old g) ]

pub size-made_constant : (old new : Network) (b : Bool) (n : ℕ) → Makes (Constant b) old new n → size new ≡ size old
size-made_constant old new b n made = elim made.1 [ inl e ↦ ap size e | inr e ↦ ap size e.0 ∙ size-push_constant old b e.1 ]

-- a constant was made, or nothing was
pub size-constant : {E : Type 0} (r : Result ℕ E) (old new : Network) (b : Bool) → IfOk r (λ n. Makes (Constant b) old new n) → OnErr r (new ≡ old) → size new ≡ size old
size-constant (Ok n) old new b made kept = size-made_constant old new b n made
size-constant (Err e) old new b made kept = ap size kept
