-- How many tuples a set has.
use Rattle.std.proofs.Common.{◌≡◌, ◌≢◌, ℕ, zero, suc, ◌<◌, ◌≤◌, ◌↔◌, true, List, [], ◌∷◌, inl, inr, AllPairs, Contains, length, get_or, take, refl, sym, ◌∙◌, subst, arith, leb}
use Rattle.std.specs.Prelude.{remove}
use Rattle.std.proofs.lemmas.Bool.Decides.{nat_tests}
use Rattle.std.proofs.lemmas.Cmp.{tied_itself}
use Rattle.std.proofs.lemmas.List.{length-take-le, get_or-take}
use Rattle.std.proofs.lemmas.List.Elements.{All-contains, Contains-append_cases, Contains-append_right, Contains-push_cases, Contains-get_or}
use Rattle.std.proofs.lemmas.List.Sorted.{IsPermutation-remove, Contains-permutation, length_permutation}
use Rattle.std.specs.declared.cmp.Ordering.TheVariants.{Less}
use Rattle.tuple_core.specs.declared.atom.Atom.{Atom}
use Rattle.tuple_core.specs.Operators.{Pred}
use Rattle.tuple_core.specs.Order.{tuple_cmp, IsAscending}
use Rattle.tuple_core.specs.Rows.{Rows, IsSetOf}
use Rattle.tuple_core.proofs.Ascending.{tuple_order}
use Rattle.tuple_core.specs.Gains.{Same}
use Rattle.rel_formula.specs.Meaning.{HasAtLeast}
use Rattle.rel_formula.specs.Sizes.{HasSize}

pub leb-decides : (a b : ℕ) → (leb a b ≡ true) ↔ (a ≤ b)
leb-decides a b = (λ e. grind (arith, nat_tests), λ l. grind (arith, nat_tests))

-- tuples in ascending order are different
pub distinct : (rows : List (List Atom)) → IsAscending rows → AllPairs (λ s t. s ≢ t) rows
distinct rows up i j d l h same =
    let less = up i j d l h in
    let tied = tied_itself tuple_order (get_or rows j d) in
    let other = subst (λ s. tuple_cmp s (get_or rows j d) ≡ Less) same less in
    absurd (cc)

-- a list with no element twice is no longer than one with the same elements
pub no_longer : {X : Type 0} (xs ys : List X) → AllPairs (λ x y. x ≢ y) xs → ((x : X) → Contains xs x → Contains ys x) → length xs ≤ length ys
no_longer [] ys d has = omega arith
no_longer (x ∷ xs) ys d has =
    let at = has x (zero, omega arith, refl) in
    let rest = remove ys at.0 in
    let moved = IsPermutation-remove ys at.0 x at.1 (sym at.2) in
    let less = no_longer xs rest (λ i j e p q. d (suc i) (suc j) e (omega arith) (omega arith)) (λ y c.
    elim (Contains-append_cases (x ∷ []) rest y (Contains-permutation ys (x ∷ rest) y moved (has y (Contains-append_right (x ∷ []) xs y c)))) [
      | inl first ↦ absurd (elim (Contains-push_cases [] x y first) [ inl none ↦ (let l = none.1 in omega arith) | inr same ↦ d zero (suc c.0) y (omega arith) (let l = c.1 in omega arith) (same ∙ sym c.2) ])
      | inr later ↦ later
    ]) in
    let long = length_permutation ys (x ∷ rest) moved in
    omega arith

pub at_least : {v : Rows} {m : ℕ} {P : Pred} (n : ℕ) → AllPairs (λ s t. s ≢ t) v.rows → IsSetOf v m P → (n ≤ length v.rows) ↔ HasAtLeast n P
at_least {v} {m} {P} n distinct is = (
  λ l. (
    take n v.rows,
    length-take-le n v.rows l,
    λ i j d p q. let k : j < n = (let e = length-take-le n v.rows l in omega arith) in let o : i < n = omega arith in
        λ same. distinct i j d p (omega arith) (sym (get_or-take n v.rows i d o) ∙ same ∙ get_or-take n v.rows j d k),
    λ k d q. let o : k < n = (let e = length-take-le n v.rows l in omega arith) in
        subst P (sym (get_or-take n v.rows k d o)) ((is.just (get_or v.rows k d)).0 (Contains-get_or v.rows k d (omega arith))),
  ),
  λ h. let le = no_longer h.0 v.rows h.2 (λ t c. (is.just t).1 (All-contains P h.0 t h.3 c)) in let e = h.1 in omega arith,
)

-- sets with the same tuples have one size
pub size_same : {P Q : Pred} {n : ℕ} → Same P Q → HasSize P n → HasSize Q n
size_same f h = (h.0, record { ascending = h.1.ascending; just = λ t. (λ c. f.to t ((h.1.just t).0 c), λ q. (h.1.just t).1 (f.back t q)) }, h.2)

-- a set of n tuples has as many as are asked for exactly where n is that large
pub at_least_of : {P : Pred} (n size : ℕ) → HasSize P size → (n ≤ size) ↔ HasAtLeast n P
at_least_of {P} n size h =
    let v : Rows = record { arity = 1; rows = h.0 } in
    let is : IsSetOf v 1 P = record { arity_is = refl; just = h.1.just } in
    subst (λ k. (n ≤ k) ↔ HasAtLeast n P) h.2 (at_least n (distinct h.0 h.1.ascending) is)
