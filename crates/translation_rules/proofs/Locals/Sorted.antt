-- Lists that rise by a key, and clauses, which rise by their variables.
use Rattle.std.proofs.Common.{◌≡◌, ◌↔◌, ◌⊎◌, inl, inr, ◌<◌, ◌+◌, ℕ, zero, suc, Bool, true, false, not, List, [], ◌∷◌, length, get_or, All, AllPairs, Contains, refl, sym, ◌∙◌, ap, subst, arith}
use Rattle.std.proofs.lemmas.Bool.{cases_Bool, cases_lt}
use Rattle.std.proofs.lemmas.List.{get_or_default}
use Rattle.cnf_core.specs.declared.literal.Lit.{Lit}
use Rattle.cnf_core.specs.Literal.{IsClause, IsTautology, HasSameLiterals}
use Rattle.cnf_core.proofs.Literals.{not_itself}
use Rattle.rel_formula.proofs.OpenCells.{cons_cases, cons_first, cons_later}

module _ {X : Type 0} (key : X → ℕ) where
  abbrev Rises : List X → Type 0
  Rises xs = AllPairs (λ x y. key x < key y) xs

  first_least : (x : X) (xs : List X) → Rises (x ∷ xs) → (y : X) → Contains xs y → key x < key y
  first_least x xs up y (k, l, e) = subst (λ z. key x < key z) e (up zero (suc k) y (omega arith) (omega arith))

  others_rise : (x : X) (xs : List X) → Rises (x ∷ xs) → Rises xs
  others_rise x xs up j k d less l = up (suc j) (suc k) d (omega arith) (omega arith)

  first_is : (x y : X) (xs ys : List X) → Rises (x ∷ xs) → Rises (y ∷ ys) → ((z : X) → Contains (x ∷ xs) z ↔ Contains (y ∷ ys) z) → x ≡ y
  first_is x y xs ys one two same = elim (cons_cases y ys x ((same x).0 (cons_first x xs))) [
    | inl e ↦ sym e
    | inr later ↦ elim (cons_cases x xs y ((same y).1 (cons_first y ys))) [
      | inl e ↦ e
      | inr past ↦ absurd (let a = first_least y ys two x later in let b = first_least x xs one y past in omega arith)
    ]
  ]

  goes : (x y : X) (xs ys : List X) → Rises (x ∷ xs) → x ≡ y → ((z : X) → Contains (x ∷ xs) z → Contains (y ∷ ys) z) → (z : X) → Contains xs z → Contains ys z
  goes x y xs ys up e into z there = elim (cons_cases y ys z (into z (cons_later x xs z there))) [
    | inl is ↦ absurd (let less = first_least x xs up z there in let same : key x ≡ key z = ap key (e ∙ is) in omega arith)
    | inr inside ↦ inside
  ]

  none_there : (x : X) (xs : List X) → ((z : X) → Contains (x ∷ xs) z → Contains [] z) → ⊥
  none_there x xs into = let c = into x (cons_first x xs) in let l = c.1 in omega arith

  -- lists that rise and have the same members are one list
  pub same_rising : (xs ys : List X) → Rises xs → Rises ys → ((z : X) → Contains xs z ↔ Contains ys z) → xs ≡ ys
  same_rising [] [] one two same = refl
  same_rising [] (y ∷ ys) one two same = absurd (none_there y ys (λ z. (same z).1))
  same_rising (x ∷ xs) [] one two same = absurd (none_there x xs (λ z. (same z).0))
  same_rising (x ∷ xs) (y ∷ ys) one two same =
      let first = first_is x y xs ys one two same in
      let rest = same_rising xs ys (others_rise x xs one) (others_rise y ys two) (λ z. (goes x y xs ys one first (λ w. (same w).0) z, goes y x ys xs two (sym first) (λ w. (same w).1) z)) in
      ap (λ z. z ∷ xs) first ∙ ap (λ zs. y ∷ zs) rest

-- clauses with the same literals are one clause
pub same_clause : (lits others : List Lit) → IsClause lits → IsClause others → HasSameLiterals lits others → lits ≡ others
same_clause lits others one two same = same_rising (λ (l : Lit). l.var) lits others one.rising two.rising same

-- no clause is true of itself
pub no_tautology : (lits : List Lit) → IsClause lits → IsTautology lits → ⊥
no_tautology lits is (l, (i, i_in, at), (j, j_in, there)) =
    let here : get_or lits i l ≡ l = at in
    let neg : (get_or lits j l).var ≡ l.var = ap (λ (k : Lit). k.var) (get_or_default lits j l _ j_in ∙ there) in
    let one : (get_or lits i l).var ≡ l.var = ap (λ (k : Lit). k.var) here in
    elim (cases_lt i j) [
      | inl less ↦ absurd (let up = is.rising i j l less j_in in omega arith)
      | inr past ↦ elim (cases_lt j i) [
        | inl more ↦ absurd (let up = is.rising j i l more i_in in omega arith)
        | inr back ↦
            let same : i ≡ j = omega arith in
            let sign : (get_or lits j l).positive ≡ not l.positive = ap (λ (k : Lit). k.positive) (get_or_default lits j l _ j_in ∙ there) in
            let sign' : (get_or lits j l).positive ≡ l.positive = subst (λ k. (get_or lits k l).positive ≡ l.positive) same (ap (λ (k : Lit). k.positive) here) in
            absurd (not_itself l.positive (sym sign' ∙ sign))
      ]
    ]
