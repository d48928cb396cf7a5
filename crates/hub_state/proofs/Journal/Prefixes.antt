-- Where an entry stands in a journal, and what stands before it.
use Rattle.std.proofs.Common.{◌≡◌, ◌⊎◌, inl, inr, ◌<◌, ◌≤◌, ℕ, suc, List, [], ◌∷◌, ◌++◌, length, get_or, take, drop, Contains, refl, sym, ◌∙◌, ap, subst, arith, take-append-drop, drop-cons, length-take}
use Rattle.std.proofs.lemmas.Bool.{cases_order}
use Rattle.std.proofs.lemmas.List.{get_or_default, get_or-take}
use Rattle.rel_formula.specs.Bounds.{Bounded}
use Rattle.translation_rules.specs.Translation.{Translated}
use Rattle.hub_state.specs.Journal.Noted.{Noted, Published}
use Rattle.hub_state.specs.Journal.Journal.{IsPublished, MayFollow, IsLegal}

-- what stands in a list with one more element is that element, or stood there before
pub one_more : {X : Type 0} (xs before : List X) (x y : X) (after : List X) → xs ++ x ∷ [] ≡ before ++ y ∷ after → ((before ≡ xs) × (x ≡ y)) ⊎ ((rest : List X) × (xs ≡ before ++ y ∷ rest))
one_more [] [] x y after e = inl (refl, cc)
one_more [] (b ∷ []) x y after e = absurd cc
one_more [] (b ∷ c ∷ bs) x y after e = absurd cc
one_more (a ∷ as') [] x y after e = inr (as', let same : a ≡ y = cc in ap (λ z. z ∷ as') same)
one_more (a ∷ as') (b ∷ bs) x y after e =
    let first : a ≡ b = cc in
    elim (one_more as' bs x y after cc) [
      | inl last ↦ inl (let same = last.0 in cc, last.1)
      | inr found ↦ inr (found.0, let same = found.1 in cc)
    ]

pub grows : (problems : List Bounded) (journal : List Noted) (x : Noted) → IsLegal problems journal → MayFollow problems journal x.by x.note → IsLegal problems (journal ++ x ∷ [])
grows problems journal x legal may before y after split = elim (one_more journal before x y after split) [
  | inl last ↦
      let at : MayFollow problems journal y.by y.note = subst (λ (z : Noted). MayFollow problems journal z.by z.note) last.1 may in
      subst (λ (j : List Noted). MayFollow problems j y.by y.note) (sym last.0) at
  | inr found ↦ legal before y found.0 found.1
]

pub nothing_before : (problems : List Bounded) → IsLegal problems []
nothing_before problems [] x after e = absurd cc
nothing_before problems (b ∷ before) x after e = absurd cc

-- an entry may follow those that stand before its place
pub at_place : (problems : List Bounded) (journal : List Noted) → IsLegal problems journal → (k : ℕ) (x : Noted) → k < length journal → get_or journal k x ≡ x → MayFollow problems (take k journal) x.by x.note
at_place problems journal legal k x less is =
    legal (take k journal) x (drop (suc k) journal)
    (sym (take-append-drop k journal) ∙ ap (λ (ys : List Noted). take k journal ++ ys) (drop-cons journal k x less ∙ ap (λ (y : Noted). y ∷ drop (suc k) journal) is))

-- an entry at a lower place stands before it
pub earlier : (journal : List Noted) (i k : ℕ) (x : Noted) → i < k → k ≤ length journal → get_or journal i x ≡ x → Contains (take k journal) x
earlier journal i k x below within is = (i, (let long = length-take k journal in omega arith), get_or-take k journal i x below ∙ is)

pub note_of : (x y : Noted) → x ≡ y → x.note ≡ y.note
note_of x y e = ap (λ (z : Noted). z.note) e

-- a key has one translation
pub one_translation : (problems : List Bounded) (journal : List Noted) → IsLegal problems journal → (key : ℕ) (t u : Translated) → IsPublished journal key t → IsPublished journal key u → t ≡ u
one_translation problems journal legal key t u (by, (i, i_in, i_is)) (other, (k, k_in, k_is)) =
    let x : Noted = record { by = by; note = Published key t } in
    let y : Noted = record { by = other; note = Published key u } in
    elim (cases_order i k) [
      | inl same ↦
          let e : x ≡ y = sym i_is ∙ get_or_default journal i x y i_in ∙ ap (λ n. get_or journal n y) same ∙ k_is in
          let n : Published key t ≡ Published key u = note_of x y e in cc
      | inr order ↦ elim order [
        | inl less ↦ let at = at_place problems journal legal k y k_in k_is in absurd (at.first t (by, earlier journal i k x less (omega arith) i_is))
        | inr more ↦ let at = at_place problems journal legal i x i_in i_is in absurd (at.first u (other, earlier journal k i y more (omega arith) k_is))
      ]
    ]
