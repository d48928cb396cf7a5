-- The clauses of a comparison, by the values of its variables.
use Rattle.std.proofs.Common.{◌≡◌, ◌↔◌, ◌+◌, ◌⊎◌, inl, inr, ◌||◌, ℕ, Bool, true, false, not, Option, Some, None, List, [], ◌∷◌, Contains, refl, sym, ◌∙◌, ap, subst, arith}
use Rattle.cnf_core.specs.declared.literal.Lit.{Lit}
use Rattle.refutation_check.specs.SearchLog.{IsVarOf}
use Rattle.rel_formula.proofs.OpenCells.{cons_cases}
use Rattle.translation.specs.SwapChains.Comparison.{AddsClause, IsComparedVar, Compares}

-- the literal that is true where the variable is, and the one that is true where it isn't
abbrev pub true_lit : ℕ → Lit
true_lit var = record { var = var; positive = true }

abbrev pub false_lit : ℕ → Lit
false_lit var = record { var = var; positive = false }

-- where there is no image
no_image : (e h g : Bool) → ((not e || (h || (g || false))) ≡ true) ↔ (e ≡ true → (false ≡ true → h ≡ true) × (false ≡ h → g ≡ true))
no_image false h g = (λ q k. absurd (let n : false ≡ true = k in cc), λ f. refl)
no_image true true g = (λ q k. (λ t. refl, λ t. absurd (let n : false ≡ true = t in cc)), λ f. refl)
no_image true false true = (λ q k. (λ t. t, λ t. refl), λ f. refl)
no_image true false false = (λ q. absurd (let k : false ≡ true = q in cc), λ f. (f refl).1 refl)

-- where there is one
an_image : (e t h g : Bool) →
    ((((not e || (h || (g || false))) ≡ true) × ((not e || (not t || (h || false))) ≡ true)) × ((not e || (not t || (g || false))) ≡ true))
    ↔ (e ≡ true → (t ≡ true → h ≡ true) × (t ≡ h → g ≡ true))
an_image false t h g = (λ q k. absurd (let n : false ≡ true = k in cc), λ f. ((refl, refl), refl))
an_image true true true true = (λ q k. (λ t. refl, λ t. refl), λ f. ((refl, refl), refl))
an_image true true true false = (λ q. absurd (let k : false ≡ true = q.1 in cc), λ f. absurd (let k : false ≡ true = (f refl).1 refl in cc))
an_image true true false true = (λ q. absurd (let k : false ≡ true = q.0.1 in cc), λ f. absurd (let k : false ≡ true = (f refl).0 refl in cc))
an_image true true false false = (λ q. absurd (let k : false ≡ true = q.0.0 in cc), λ f. absurd (let k : false ≡ true = (f refl).0 refl in cc))
an_image true false true g = (λ q k. (λ t. refl, λ t. absurd (let n : false ≡ true = t in cc)), λ f. ((refl, refl), refl))
an_image true false false true = (λ q k. (λ t. t, λ t. refl), λ f. ((refl, refl), refl))
an_image true false false false = (λ q. absurd (let k : false ≡ true = q.0.0 in cc), λ f. absurd (let k : false ≡ true = (f refl).1 refl in cc))

-- a literal of three
among : (x y z l : Lit) → Contains (x ∷ y ∷ z ∷ []) l → (x ≡ l) ⊎ ((y ≡ l) ⊎ (z ≡ l))
among x y z l c = elim (cons_cases x (y ∷ z ∷ []) l c) [
  | inl e ↦ inl e
  | inr d ↦ elim (cons_cases y (z ∷ []) l d) [
    | inl e ↦ inr (inl e)
    | inr f ↦ elim (cons_cases z [] l f) [ inl e ↦ inr (inr e) | inr none ↦ absurd (let n = none.1 in omega arith) ]
  ]
]

pub var_is : (x l : Lit) (var : ℕ) → x ≡ l → l.var ≡ var → var ≡ x.var
var_is x l var e f = sym f ∙ ap (λ (k : Lit). k.var) (sym e)

module _ (so_far cell : ℕ) (old : List (List Lit)) where
  abbrev e : Lit
  e = false_lit so_far

  abbrev h : Lit
  h = true_lit (cell + 1)

  abbrev g : Lit
  g = true_lit (so_far + 1)

  first_vars : (image : Option ℕ) (new : List (List Lit)) → AddsClause (e ∷ h ∷ g ∷ []) old new → (var : ℕ) → IsVarOf new var → IsVarOf old var ⊎ IsComparedVar so_far cell image var
  first_vars image new x var is = elim (x.vars var is) [
    | inl before ↦ inl before
    | inr (l, c, v) ↦ elim (among e h g l c) [
      | inl k ↦ inr (inl (var_is e l var k v))
      | inr k ↦ elim k [ inl k ↦ inr (inr (inr (inl (var_is h l var k v)))) | inr k ↦ inr (inr (inl (var_is g l var k v))) ]
    ]
  ]

  none_compares : (new : List (List Lit)) → AddsClause (e ∷ h ∷ g ∷ []) old new → Compares so_far cell None old new
  none_compares new x = record {
    means = λ v.
        let k = no_image (v so_far) (v (cell + 1)) (v (so_far + 1)) in (
          λ s. let s0 = (x.means v).0 s in (s0.0, k.0 s0.1),
          λ q. (x.means v).1 (q.0, k.1 q.1),
        );
    few = let n = x.few in omega arith;
    vars = first_vars None new x;
  }

  module _ (m : ℕ) where
    abbrev t : Lit
    t = false_lit (m + 1)

    some_compares : (one two new : List (List Lit)) → AddsClause (e ∷ h ∷ g ∷ []) old one → AddsClause (e ∷ t ∷ h ∷ []) one two → AddsClause (e ∷ t ∷ g ∷ []) two new → Compares so_far cell (Some m) old new
    some_compares one two new x y z = record {
      means = λ v.
          let k = an_image (v so_far) (v (m + 1)) (v (cell + 1)) (v (so_far + 1)) in (
            λ s.
                let s2 = (z.means v).0 s in
                let s1 = (y.means v).0 s2.0 in
                let s0 = (x.means v).0 s1.0 in
                (s0.0, k.0 ((s0.1, s1.1), s2.1)),
            λ q.
                let r = k.1 q.1 in
                (z.means v).1 ((y.means v).1 ((x.means v).1 (q.0, r.0.0), r.0.1), r.1),
          );
      few = let a = x.few in let b = y.few in let c = z.few in omega arith;
      vars = λ var is. elim (z.vars var is) [
        | inr (l, c, v) ↦ elim (among e t g l c) [
          | inl k ↦ inr (inl (var_is e l var k v))
          | inr k ↦ elim k [ inl k ↦ inr (inr (inr (inr (m, refl, var_is t l var k v)))) | inr k ↦ inr (inr (inl (var_is g l var k v))) ]
        ]
        | inl second ↦ elim (y.vars var second) [
          | inr (l, c, v) ↦ elim (among e t h l c) [
            | inl k ↦ inr (inl (var_is e l var k v))
            | inr k ↦ elim k [ inl k ↦ inr (inr (inr (inr (m, refl, var_is t l var k v)))) | inr k ↦ inr (inr (inr (inl (var_is h l var k v)))) ]
          ]
          | inl first ↦ first_vars (Some m) one x var first
        ]
      ];
    }

-- the same for literals that are these
pub compares_none : (so_far cell : ℕ) (x y z : Lit) (old new : List (List Lit)) → x ≡ false_lit so_far → y ≡ true_lit (cell + 1) → z ≡ true_lit (so_far + 1) →
    AddsClause (x ∷ y ∷ z ∷ []) old new → Compares so_far cell None old new
compares_none so_far cell x y z old new p q r first =
    none_compares so_far cell old new (
    subst (λ (l : Lit). AddsClause (l ∷ true_lit (cell + 1) ∷ true_lit (so_far + 1) ∷ []) old new) p
    (subst (λ (l : Lit). AddsClause (x ∷ l ∷ true_lit (so_far + 1) ∷ []) old new) q
    (subst (λ (l : Lit). AddsClause (x ∷ y ∷ l ∷ []) old new) r first)))

pub compares_some : (so_far cell m : ℕ) (x y z t : Lit) (old one two new : List (List Lit)) → x ≡ false_lit so_far → y ≡ true_lit (cell + 1) → z ≡ true_lit (so_far + 1) → t ≡ false_lit (m + 1) →
    AddsClause (x ∷ y ∷ z ∷ []) old one → AddsClause (x ∷ t ∷ y ∷ []) one two → AddsClause (x ∷ t ∷ z ∷ []) two new → Compares so_far cell (Some m) old new
compares_some so_far cell m x y z t old one two new p q r s first second third =
    let Says : Lit → Lit → Lit → List (List Lit) → List (List Lit) → Type 0 = λ a b c from to. AddsClause (a ∷ b ∷ c ∷ []) from to in
    let there : (a b c a' b' c' : Lit) (from to : List (List Lit)) → a ≡ a' → b ≡ b' → c ≡ c' → Says a b c from to → Says a' b' c' from to =
    λ a b c a' b' c' from to i j k h. subst (λ l. Says l b' c' from to) i (subst (λ l. Says a l c' from to) j (subst (λ l. Says a b l from to) k h)) in
    some_compares so_far cell old m one two new
    (there x y z (false_lit so_far) (true_lit (cell + 1)) (true_lit (so_far + 1)) old one p q r first)
    (there x t y (false_lit so_far) (false_lit (m + 1)) (true_lit (cell + 1)) one two p s q second)
    (there x t z (false_lit so_far) (false_lit (m + 1)) (true_lit (so_far + 1)) two new p s r third)
