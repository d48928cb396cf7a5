-- One step up, one place and one size more.
use Rattle.std.proofs.Common.{◌≡◌, ◌⊎◌, ◌↔◌, inl, inr, ℕ, zero, suc, ◌+◌, ◌-◌, ◌<◌, ◌≤◌, List, [], ◌∷◌, ◌++◌, map, length, get_or, slice_get, Option, Some, None, Contains, refl, sym, ◌∙◌, ap, subst, arith}
use Rattle.std.proofs.lemmas.Bool.{cases_lt}
use Rattle.tuple_core.specs.declared.atom.Atom.{Atom}
use Rattle.tuple_core.specs.Operators.{Pred}
use Rattle.tuple_core.specs.Rows.{Rows, IsSetOf, SetGains}
use Rattle.rel_formula.proofs.Lists.{some_below}
use Rattle.alloy_syntax.specs.declared.tree.Manner.{Manner}
use Rattle.named_model.specs.declared.named.Signature.{Signature}
use Rattle.named_model.specs.Signatures.{signature_at, top_within}
use Rattle.model_sizes.specs.declared.size.Size.{Size}
use Rattle.lowering_rules.specs.Relations.{IsPlaceOf, InProduct}
use Rattle.rel_lower.specs.Placing.Places.{parent_or_self, IsPlaceBelow, IsPlaceIn}

-- ---- top-level signatures

top_stays : (xs : List Signature) (n s : ℕ) → (signature_at xs s).parent ≡ None → top_within xs n s ≡ s
top_stays xs zero s e = refl
top_stays xs (suc n) s e = ap (λ (o : Option (Manner × ℕ)). elim o [ None ↦ s | Some p ↦ top_within xs n p.1 ]) e

-- one step up leaves the one over it the same
step_up : (xs : List Signature) (n s : ℕ) → top_within xs (suc n) s ≡ top_within xs n (parent_or_self xs s)
step_up xs n s =
    let go : (o : Option (Manner × ℕ)) → (signature_at xs s).parent ≡ o →
    elim o [ None ↦ s | Some p ↦ top_within xs n p.1 ] ≡ top_within xs n (elim o [ None ↦ s | Some p ↦ p.1 ]) =
    λ o. elim o as (λ o. (signature_at xs s).parent ≡ o → elim o [ None ↦ s | Some p ↦ top_within xs n p.1 ] ≡ top_within xs n (elim o [ None ↦ s | Some p ↦ p.1 ])) [
      | None ↦ λ e. sym (top_stays xs n s e)
      | Some p ↦ λ e. refl
    ] in
    go (signature_at xs s).parent refl

pub step_on : (xs : List Signature) (end k s to : ℕ) → k < end → top_within xs (end - k) s ≡ to → top_within xs (end - (k + 1)) (parent_or_self xs s) ≡ to
step_on xs end k s to l before =
    let e : end - k ≡ suc (end - (k + 1)) = omega arith in
    sym (ap (λ n. top_within xs n s) e ∙ step_up xs (end - (k + 1)) s) ∙ before

pub step_last : (xs : List Signature) (end k s to : ℕ) → end ≤ k → top_within xs (end - k) s ≡ to → s ≡ to
step_last xs end k s to l h = let e : end - k ≡ 0 = omega arith in sym (ap (λ n. top_within xs n s) e) ∙ h

-- ---- places

up_to : (k n : ℕ) → k < n + 1 → (k < n) ⊎ (k ≡ n)
up_to k n l = elim (cases_lt k n) [ inl low ↦ inl low | inr high ↦ inr (omega arith) ]

-- one place more
pub place_more : (top n : ℕ) (a : Atom) (old before after : Rows) (u : List Atom) → a ≡ record { top = top; place = n } → u ≡ a ∷ [] → SetGains old before (IsPlaceBelow top n) → SetGains before after (λ t. t ≡ u) → SetGains old after (IsPlaceBelow top (n + 1))
place_more top n a old before after u is single g h = record {
  arity = h.arity ∙ g.arity;
  rows = record {
    tuples = λ t. (
      λ there. elim ((h.rows.tuples t).0 there) [
        | inl earlier ↦ elim ((g.rows.tuples t).0 earlier) [
          | inl from ↦ inl from
          | inr p ↦ inr (p.0, p.1, p.2, let l = p.3 in omega arith)
        ]
        | inr e ↦ inr (a, e ∙ single, ap (λ (b : Atom). b.top) is, let same : a.place ≡ n = ap (λ (b : Atom). b.place) is in omega arith)
      ],
      λ s. elim s [
        | inl from ↦ (h.rows.tuples t).1 (inl ((g.rows.tuples t).1 (inl from)))
        | inr p ↦ below t p
      ],
    );
  };
}
  where
    same_atom : (b : Atom) → b.top ≡ top → b.place ≡ n → b ≡ a
    same_atom b e f = let x : b ≡ record { top = top; place = n } = λ i. record { top = e i; place = f i } in x ∙ sym is

    below : (t : List Atom) → IsPlaceBelow top (n + 1) t → Contains after.rows t
    below t p = elim (up_to p.0.place n p.3) [
      | inl l ↦ (h.rows.tuples t).1 (inl ((g.rows.tuples t).1 (inr (p.0, p.1, p.2, l))))
      | inr e ↦ (h.rows.tuples t).1 (inr (p.1 ∙ ap (λ b. b ∷ []) (same_atom p.0 p.2 e) ∙ sym single))
    ]

pub no_place : (top : ℕ) (old : Rows) → SetGains old old (IsPlaceBelow top 0)
no_place top old = record { arity = refl; rows = record { tuples = λ t. (λ h. inl h, λ s. elim s [ inl h ↦ h | inr p ↦ absurd (let l = p.3 in omega arith) ]) } }

-- the size is that of the signature
pub is_its : (top : ℕ) (size : Size) (signature : ℕ) (old new : Rows) → size.signature ≡ signature → SetGains old new (IsPlaceBelow top size.places) → SetGains old new (IsPlaceIn top size signature)
is_its top size signature old new e g = record {
  arity = g.arity;
  rows = record {
    tuples = λ t. (
      λ h. elim ((g.rows.tuples t).0 h) [ inl o ↦ inl o | inr p ↦ inr (e, p) ],
      λ s. elim s [ inl o ↦ (g.rows.tuples t).1 (inl o) | inr p ↦ (g.rows.tuples t).1 (inr p.1) ],
    );
  };
}

-- ---- sizes

-- a place of one of the first n sizes that is the signature's
abbrev pub InFirst : List Size → ℕ → ℕ → Pred
InFirst sizes signature n t = (a : Atom) × (t ≡ a ∷ []) × (a.top < n) × IsPlaceOf sizes signature a

abbrev pub IsOfFirst : Rows → List Size → ℕ → ℕ → Type 0
IsOfFirst v sizes signature n = IsSetOf v 1 (InFirst sizes signature n)

pub no_size : (sizes : List Size) (signature : ℕ) (v : Rows) → v.arity ≡ 1 → v.rows ≡ [] → IsOfFirst v sizes signature 0
no_size sizes signature v one none = record {
  arity_is = one;
  just = λ t. (λ h. absurd (nothing t (subst (λ rows. Contains rows t) none h)), λ p. absurd (let l = p.2 in omega arith));
}
  where
    nothing : (t : List Atom) → Contains [] t → ⊥
    nothing t c = absurd (let l = c.1 in omega arith)

same_some : {X : Type 0} (x y : X) → Some x ≡ Some y → x ≡ y
same_some x y e = cc

pub size_more : (sizes : List Size) (signature n : ℕ) (size : Size) (v w : Rows) → slice_get sizes n ≡ Some size → IsOfFirst v sizes signature n → SetGains v w (IsPlaceIn n size signature) → IsOfFirst w sizes signature (n + 1)
size_more sizes signature n size v w sized before g = record {
  arity_is = g.arity ∙ before.arity_is;
  just = λ t. (
    λ there. elim ((g.rows.tuples t).0 there) [
      | inl earlier ↦ (let p = (before.just t).0 earlier in (p.0, p.1, (let m = p.2 in omega arith), p.3))
      | inr p ↦ (let q = p.1 in (q.0, q.1, (let e = q.2 in omega arith), record { size = size; sized = at q.0 q.2; of = p.0; below = q.3 }))
    ],
    λ p. elim (up_to p.0.top n p.2) [
      | inl m ↦ (g.rows.tuples t).1 (inl ((before.just t).1 (p.0, p.1, m, p.3)))
      | inr e ↦ (g.rows.tuples t).1 (inr (this t p.0 p.1 e p.3))
    ],
  );
}
  where
    at : (a : Atom) → a.top ≡ n → slice_get sizes a.top ≡ Some size
    at a e = ap (slice_get sizes) e ∙ sized

    this : (t : List Atom) (a : Atom) → t ≡ a ∷ [] → a.top ≡ n → IsPlaceOf sizes signature a → IsPlaceIn n size signature t
    this t a e same p =
        let one : p.size ≡ size = same_some p.size size (sym p.sized ∙ at a same) in
        (ap (λ (z : Size). z.signature) (sym one) ∙ p.of, (a, e, same, subst (λ (z : Size). a.place < z.places) one p.below))

-- all sizes have been looked at
pub size_all : (sizes : List Size) (signature n : ℕ) (v : Rows) → length sizes ≤ n → IsOfFirst v sizes signature n → IsSetOf v 1 (InProduct sizes (signature ∷ []))
size_all sizes signature n v l h = record {
  arity_is = h.arity_is;
  just = λ t. (
    λ there. (let p = (h.just t).0 there in subst (InProduct sizes (signature ∷ [])) (sym p.1) (p.3, tt)),
    λ p. back t p,
  );
}
  where
    back : (t : List Atom) → InProduct sizes (signature ∷ []) t → Contains v.rows t
    back [] p = absurd p
    back (a ∷ []) p = (h.just (a ∷ [])).1 (a, refl, (let low = some_below sizes a.top p.0.size p.0.sized in omega arith), p.0)
    back (a ∷ b ∷ t) p = absurd p.1
