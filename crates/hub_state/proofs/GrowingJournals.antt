-- What a hub keeps, while its journal grows by an entry.
use Rattle.std.proofs.Common.{◌≡◌, ◌≢◌, ◌⊎◌, inl, inr, ◌<◌, ◌==◌, ℕ, Bool, true, cond, Option, None, Some, List, [], ◌∷◌, ◌++◌, length, Contains, get_or, set, append-nil, length-set, refl, sym, ◌∙◌, ap, subst, arith}
use Rattle.std.proofs.lemmas.Bool.{cases_eq, ne_eqb, eq-eqb}
use Rattle.std.proofs.lemmas.Grind.{flat_map-append, get_or-set_at}
use Rattle.std.proofs.lemmas.List.{get_or-set_other}
use Rattle.std.proofs.lemmas.List.Elements.{Contains-append_left, Contains-push, Contains-push_cases}
use Rattle.std.proofs.lemmas.Option.{none-some}
use Rattle.refutation_check.specs.declared.log.Step.{Step as LogStep}
use Rattle.rel_formula.specs.Bounds.{Bounded}
use Rattle.translation_rules.specs.Translation.{Translated}
use Rattle.hub_state.specs.Journal.Noted.{Note, Published, Shared, Noted}
use Rattle.hub_state.specs.Journal.Journal.{IsPublished, IsLegal, added_to, pool_of}
use Rattle.hub_state.specs.Held.{IsHub}

-- a list of one element contains that element alone
pub only_one : {X : Type 0} (x y : X) → Contains (x ∷ []) y → x ≡ y
only_one x y there = elim (Contains-push_cases [] x y there) [ inl none ↦ absurd (let inside = none.1 in omega arith) | inr is ↦ is ]

pub note_is : (x y : Noted) → x ≡ y → x.note ≡ y.note
note_is x y e = ap (λ (z : Noted). z.note) e

still : (journal : List Noted) (x : Noted) (key : ℕ) (t : Translated) → IsPublished journal key t → IsPublished (journal ++ x ∷ []) key t
still journal x key t (by, there) = (by, Contains-append_left journal (x ∷ []) (record { by = by; note = Published key t }) there)

-- an entry that publishes nothing changes no translation
before : (journal : List Noted) (x : Noted) → ((key : ℕ) (t : Translated) → x.note ≢ Published key t) → (key : ℕ) (t : Translated) → IsPublished (journal ++ x ∷ []) key t → IsPublished journal key t
before journal x none key t (by, there) = elim (Contains-push_cases journal x (record { by = by; note = Published key t }) there) [
  | inl old ↦ (by, old)
  | inr is ↦ absurd (none key t (note_is x (record { by = by; note = Published key t }) is))
]

pool_grows : (journal : List Noted) (x : Noted) (key : ℕ) → pool_of key (journal ++ x ∷ []) ≡ pool_of key journal ++ added_to key x.note
pool_grows journal x key = flat_map-append (λ (y : Noted). added_to key y.note) journal (x ∷ []) ∙ ap (λ (ys : List LogStep). pool_of key journal ++ ys) (append-nil (added_to key x.note))

same_pool : (journal : List Noted) (x : Noted) (key : ℕ) → added_to key x.note ≡ [] → pool_of key (journal ++ x ∷ []) ≡ pool_of key journal
same_pool journal x key none = pool_grows journal x key ∙ ap (λ (ys : List LogStep). pool_of key journal ++ ys) none ∙ append-nil (pool_of key journal)

module _ (problems : List Bounded) (kept : List (Option Translated)) (pools : List (List LogStep)) (journal : List Noted) (held : IsHub problems kept pools journal) where
  -- an entry that publishes and shares nothing
  pub quiet : (x : Noted) → IsLegal problems (journal ++ x ∷ []) → ((key : ℕ) (t : Translated) → x.note ≢ Published key t) → ((key : ℕ) → added_to key x.note ≡ []) → IsHub problems kept pools (journal ++ x ∷ [])
  quiet x legal none nothing = record {
    legal = legal;
    keys = held.keys;
    keys_of_pools = held.keys_of_pools;
    published = λ key t e. still journal x key t (held.published key t e);
    translation = λ key t p. held.translation key t (before journal x none key t p);
    each_pool = λ key l. held.each_pool key l ∙ sym (same_pool journal x key (nothing key));
  }

  pub sharing : (key by : ℕ) (steps : List LogStep) → key < length pools → IsLegal problems (journal ++ record { by = by; note = Shared key steps } ∷ []) →
      IsHub problems kept (set pools key (pool_of key journal ++ steps)) (journal ++ record { by = by; note = Shared key steps } ∷ [])
  sharing key by steps inside legal =
      let x : Noted = record { by = by; note = Shared key steps } in
      let none : (k : ℕ) (t : Translated) → x.note ≢ Published k t = λ k t e. cc in
      let whole : List LogStep = pool_of key journal ++ steps in
      record {
        legal = legal;
        keys = held.keys;
        keys_of_pools = length-set pools key whole ∙ held.keys_of_pools;
        published = λ k t e. still journal x k t (held.published k t e);
        translation = λ k t p. held.translation k t (before journal x none k t p);
        each_pool = λ k l. elim (cases_eq k key) [
          | inl same ↦
              let test : (key == k) ≡ true = eq-eqb key k (sym same) in
              get_or-set_at pools key k whole [] same inside
              ∙ ap (λ (m : ℕ). pool_of m journal ++ steps) (sym same)
              ∙ sym (ap (λ (b : Bool). pool_of k journal ++ cond b steps []) test)
              ∙ sym (pool_grows journal x k)
          | inr other ↦
              let test = ne_eqb key k (λ e. other (sym e)) in
              get_or-set_other pools key k whole [] other
              ∙ held.each_pool k (let e = length-set pools key whole in omega arith)
              ∙ sym (same_pool journal x k (ap (λ (b : Bool). cond b steps []) test))
        ];
      }

  pub publishing : (key by : ℕ) (t : Translated) → get_or kept key None ≡ None → key < length kept → IsLegal problems (journal ++ record { by = by; note = Published key t } ∷ []) →
      IsHub problems (set kept key (Some t)) pools (journal ++ record { by = by; note = Published key t } ∷ [])
  publishing key by t free inside legal =
      let x : Noted = record { by = by; note = Published key t } in
      let here : (k : ℕ) → k ≡ key → get_or (set kept key (Some t)) k None ≡ Some t = λ k same. get_or-set_at kept key k (Some t) None same inside in
      record {
        legal = legal;
        keys = length-set kept key (Some t) ∙ held.keys;
        keys_of_pools = held.keys_of_pools;
        published = λ k u e. elim (cases_eq k key) [
          | inl same ↦
              let both : Some t ≡ Some u = sym (here k same) ∙ e in
              let is : t ≡ u = cc in
              subst (λ (v : Translated). IsPublished (journal ++ x ∷ []) k v) is (subst (λ (m : ℕ). IsPublished (journal ++ x ∷ []) m t) (sym same) (by, Contains-push journal x))
          | inr other ↦ still journal x k u (held.published k u (sym (get_or-set_other kept key k (Some t) None other) ∙ e))
        ];
        translation = λ k u p. elim (Contains-push_cases journal x (record { by = p.0; note = Published k u }) p.1) [
          | inl old ↦
              let e : get_or kept k None ≡ Some u = held.translation k u (p.0, old) in
              let other : k ≢ key = λ same. none-some u (sym free ∙ ap (λ (m : ℕ). get_or kept m None) (sym same) ∙ e) in
              get_or-set_other kept key k (Some t) None other ∙ e
          | inr is ↦
              let note : Published key t ≡ Published k u = note_is x (record { by = p.0; note = Published k u }) is in
              let same : k ≡ key = cc in
              let value : t ≡ u = cc in
              here k same ∙ ap Some value
        ];
        each_pool = λ k l. held.each_pool k l ∙ sym (same_pool journal x k refl);
      }
