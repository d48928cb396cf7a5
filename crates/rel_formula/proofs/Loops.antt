-- What the evaluator's steps need, over plain variables.
use Rattle.std.proofs.Common.{◌≡◌, ◌≢◌, ℕ, ◌+◌, ◌<◌, ◌≤◌, ◌↔◌, ◌⊎◌, inl, inr, Bool, true, false, List, [], ◌∷◌, ◌++◌, All, AllPairs, Contains, IsTrue, length, get_or, take, refl, sym, ◌∙◌, ap, subst, arith}
use Rattle.std.specs.List.{Any}
use Rattle.std.proofs.lemmas.Bool.{cases_lt}
use Rattle.std.proofs.lemmas.List.{take_more, take_all, get_or_push, get_or_append_left, get_or_default, length_push, length-take-le, get_or-take}
use Rattle.std.proofs.lemmas.List.Elements.{All-contains, Contains-get_or}
use Rattle.std.proofs.lemmas.List.Quantifiers.{Any-push, all_pairs_push}
use Rattle.tuple_core.specs.declared.atom.Atom.{Atom}
use Rattle.tuple_core.specs.Operators.{Pred}
use Rattle.tuple_core.specs.Rows.{Rows, IsSetOf}
use Rattle.rel_formula.specs.Meaning.{IsWithin}
use Rattle.rel_formula.proofs.Valued.{one_atom, first_same}

pub within_is : {l r : Rows} {n m : ℕ} {P Q : Pred} → IsSetOf l n P → IsSetOf r m Q → All (Contains r.rows) l.rows ↔ IsWithin P Q
within_is {l} {r} f g = (
  λ all t p. (g.just t).0 (All-contains (Contains r.rows) l.rows t all ((f.just t).1 p)),
  λ in' k d less. let t = get_or l.rows k d in (g.just t).1 (in' t ((f.just t).0 (Contains-get_or l.rows k d less))),
)

pub rows_within : (l r : Rows) → All (Contains r.rows) l.rows ↔ IsWithin (Contains l.rows) (Contains r.rows)
rows_within l r = within_is {l = l} {r = r} (record { arity_is = refl; just = λ t. (λ c. c, λ c. c) }) (record { arity_is = refl; just = λ t. (λ c. c, λ c. c) })

-- a fact of the elements of a list, and how much of it a loop has seen
module _ {X : Type 0} (P : X → Type 0) (xs : List X) where
  -- at no two places
  abbrev pub NoTwo : List X → Type 0
  NoTwo ys = AllPairs (λ x y. P x → P y → ⊥) ys

  pub any_here : (i : ℕ) (x : X) → i < length xs → x ≡ get_or xs i x → P x → Any P xs
  any_here i x l e p = (i, x, l, sym e, p)

  pub any_none : (i : ℕ) → length xs ≤ i → All (λ x. P x → ⊥) (take i xs) → IsTrue false ↔ Any P xs
  any_none i l none =
      let all = subst (All (λ x. P x → ⊥)) (take_all i xs l) none in
      (λ e. absurd (cc), λ a. absurd (all a.0 a.1 a.2 (subst P (sym a.3) a.4)))

  last : (i : ℕ) (x : X) → i < length xs → x ≡ get_or xs i x → take (i + 1) xs ≡ take i xs ++ x ∷ []
  last i x l e = take_more xs i x l ∙ ap (λ y. take i xs ++ y ∷ []) (sym e)

  any_push : (ys : List X) (x : X) → Any P ys → Any P (ys ++ x ∷ [])
  any_push ys x a = (a.0, a.1, (let l = a.2 in let e = length_push ys x in omega arith), get_or_append_left ys (x ∷ []) a.1 a.0 a.2 ∙ a.3, a.4)

  push_any : (ys : List X) (x : X) → Any P (ys ++ x ∷ []) → Any P ys ⊎ P x
  push_any ys x a = elim (cases_lt a.0 (length ys)) [
    | inl less ↦ inl (a.0, a.1, less, sym (get_or_append_left ys (x ∷ []) a.1 a.0 less) ∙ a.3, a.4)
    | inr past ↦ let e : length ys ≡ a.0 = (let l = a.2 in let f = length_push ys x in omega arith) in
        inr (subst P (sym a.3 ∙ get_or_push ys x a.1 a.0 e) a.4)
  ]

  any_at : (ys : List X) (k : ℕ) (d : X) → k < length ys → P (get_or ys k d) → Any P ys
  any_at ys k d l p = (k, get_or ys k d, l, get_or_default ys k (get_or ys k d) d l, p)

  -- the first element of which it is true
  pub found_first : (i : ℕ) (x : X) → i < length xs → x ≡ get_or xs i x → P x → (Any P (take i xs) → ⊥) → NoTwo (take i xs) → Any P (take (i + 1) xs) × NoTwo (take (i + 1) xs)
  found_first i x l e p none two =
      let ys = take i xs in
      let here : Any P (ys ++ x ∷ []) = Any-push P ys x p in
      let more : NoTwo (ys ++ x ∷ []) = all_pairs_push (λ s t. P s → P t → ⊥) ys x two (λ k d h q r. none (any_at ys k d h q)) in
      (subst (Any P) (sym (last i x l e)) here, subst NoTwo (sym (last i x l e)) more)

  -- an element of which it is false
  pub found_none : (i : ℕ) (x : X) → i < length xs → x ≡ get_or xs i x → (P x → ⊥) → NoTwo (take i xs) → (Any P (take i xs) ↔ Any P (take (i + 1) xs)) × NoTwo (take (i + 1) xs)
  found_none i x l e false_here two =
      let ys = take i xs in
      let more : NoTwo (ys ++ x ∷ []) = all_pairs_push (λ s t. P s → P t → ⊥) ys x two (λ k d h q r. false_here r) in
      let same : Any P ys ↔ Any P (ys ++ x ∷ []) = (any_push ys x, λ a. elim (push_any ys x a) [ inl b ↦ b | inr p ↦ absurd (false_here p) ]) in
      (subst (λ zs. Any P ys ↔ Any P zs) (sym (last i x l e)) same, subst NoTwo (sym (last i x l e)) more)

  -- a second one
  pub found_two : (i : ℕ) (x : X) → i < length xs → x ≡ get_or xs i x → P x → Any P (take i xs) → NoTwo xs → ⊥
  found_two i x l e p a two =
      let long = length-take-le i xs (omega arith) in
      let k : a.0 < i = (let h = a.2 in omega arith) in
      two a.0 i x k l (subst P (sym a.3 ∙ get_or-take i xs a.0 a.1 k ∙ get_or_default xs a.0 a.1 x (omega arith)) a.4) (subst P e p)

  pub none_two : (i : ℕ) → length xs ≤ i → NoTwo (take i xs) → NoTwo xs
  none_two i l two = subst NoTwo (take_all i xs l) two

-- a fact at the atom of each tuple of a set of atoms, of some, and of no two
module _ (v : Rows) (P : Pred) (F : Atom → Type 0) (is : IsSetOf v 1 P) (arities : All (λ t. length t ≡ v.arity) v.rows) where
  abbrev At : Pred
  At row = (a : Atom) × (row ≡ a ∷ []) × F a

  at_atom : (a : Atom) → At (a ∷ []) → F a
  at_atom a h = subst F (first_same h.0 a (a ∷ []) h.1 refl) h.2

  one : (row : List Atom) → length row ≡ 1 → (a : Atom) × (row ≡ a ∷ [])
  one [] e = absurd (omega arith)
  one (a ∷ rest) e = (a, one_atom a (a ∷ rest) e (rest, refl))

  pub for_all_is : All At v.rows ↔ ((a : Atom) → P (a ∷ []) → F a)
  for_all_is = (
    λ all a p. at_atom a (All-contains At v.rows (a ∷ []) all ((is.just (a ∷ [])).1 p)),
    λ each k d l.
        let row = get_or v.rows k d in
        let has = Contains-get_or v.rows k d l in
        let h = one row (arities k d l ∙ is.arity_is) in
        (h.0, h.1, each h.0 ((is.just (h.0 ∷ [])).0 (subst (Contains v.rows) h.1 has))),
  )

  pub for_some_is : Any At v.rows ↔ ((a : Atom) × P (a ∷ []) × F a)
  for_some_is = (
    λ h. (h.4.0, (is.just (h.4.0 ∷ [])).0 (h.0, h.2, subst (λ row. get_or v.rows h.0 row ≡ row) h.4.1 h.3), h.4.2),
    λ h. let c = (is.just (h.0 ∷ [])).1 h.1 in (c.0, h.0 ∷ [], c.1, c.2, (h.0, refl, h.2)),
  )

  pub for_two_is : AllPairs (λ s t. s ≢ t) v.rows → AllPairs (λ s t. At s → At t → ⊥) v.rows ↔ ((a b : Atom) → P (a ∷ []) → F a → P (b ∷ []) → F b → a ≡ b)
  for_two_is distinct = (
    λ two a b p f q g.
        let c = (is.just (a ∷ [])).1 p in
        let d = (is.just (b ∷ [])).1 q in
        let s = a ∷ [] in
        let t = b ∷ [] in
        let ts : get_or v.rows d.0 s ≡ t = get_or_default v.rows d.0 s t d.1 ∙ d.2 in
        let st : get_or v.rows c.0 t ≡ s = get_or_default v.rows c.0 t s c.1 ∙ c.2 in
        elim (cases_lt c.0 d.0) [
          | inl less ↦ absurd (two c.0 d.0 s less d.1 (a, c.2, f) (b, ts, g))
          | inr past ↦ elim (cases_lt d.0 c.0) [
            | inl less ↦ absurd (two d.0 c.0 t less c.1 (b, d.2, g) (a, st, f))
            | inr back ↦ let same : c.0 ≡ d.0 = omega arith in
                first_same a b s refl (sym (sym ts ∙ ap (λ k. get_or v.rows k s) (sym same) ∙ c.2))
          ]
        ],
    λ once i j d l h f g.
        let s = get_or v.rows i d in
        let t = get_or v.rows j d in
        let p : P (f.0 ∷ []) = (is.just (f.0 ∷ [])).0 (subst (Contains v.rows) f.1 (Contains-get_or v.rows i d (omega arith))) in
        let q : P (g.0 ∷ []) = (is.just (g.0 ∷ [])).0 (subst (Contains v.rows) g.1 (Contains-get_or v.rows j d h)) in
        let same = once f.0 g.0 p f.2 q g.2 in
        distinct i j d l h (f.1 ∙ ap (λ (a : Atom). a ∷ []) same ∙ sym g.1),
  )

pub both_true : (w a r : Bool) {P Q : Type 0} → w ≡ true → r ≡ a → IsTrue w ↔ P → IsTrue a ↔ Q → IsTrue r ↔ (P × Q)
both_true w a r e f p q = (λ h. (p.0 e, q.0 (sym f ∙ h)), λ h. f ∙ q.1 h.1)

pub both_false : (w r : Bool) {P Q : Type 0} → w ≡ false → r ≡ false → IsTrue w ↔ P → IsTrue r ↔ (P × Q)
both_false w r e f p = (λ h. absurd (cc), λ h. absurd (let t = p.1 h.0 in cc))

-- what a test says where it is true, and where it is not
pub says : (b : Bool) {P : Type 0} → IsTrue b ↔ P → b ≡ true → P
says b p e = p.0 e

pub says_not : (b : Bool) {P : Type 0} → IsTrue b ↔ P → b ≡ false → P → ⊥
says_not b p e h = let t = p.1 h in absurd (cc)
