-- The least number of a command on which sessions are, with one session more.
use Rattle.std.proofs.Common.{◌≡◌, ◌⊎◌, inl, inr, ℕ, zero, suc, ◌≤◌, ◌<◌, List, [], ◌∷◌, ◌++◌, Contains, Option, None, Some, refl, ap, subst, ◌∙◌, arith}
use Rattle.std.specs.Prelude.{min}
use Rattle.std.proofs.lemmas.Bool.{cases_lt}
use Rattle.std.proofs.lemmas.List.Elements.{Contains-append_left, Contains-append_right, Contains-append_cases}
use Rattle.script_format.specs.declared.entries.SessionEntry.{SessionEntry}
use Rattle.served_models.specs.Served.{IsAsked, IsLeastAsked, IsNext}

module _ (place from : ℕ) (xs : List SessionEntry) (x : SessionEntry) where
  is_last : Contains (x ∷ []) x
  is_last = (0, omega arith, refl)

  asked_before : (n : ℕ) → IsAsked xs place n → IsAsked (xs ++ x ∷ []) place n
  asked_before n h = (h.0, Contains-append_left xs (x ∷ []) h.0 h.1, h.2, h.3)

  asked_last : x.model ≡ place → IsAsked (xs ++ x ∷ []) place x.number
  asked_last on = (x, Contains-append_right xs (x ∷ []) x is_last, on, refl)

  only_this : (y : SessionEntry) → Contains (x ∷ []) y → x ≡ y
  only_this y (zero, l, e) = e
  only_this y (suc k, l, e) = absurd (omega arith)

  asked_cases : (n : ℕ) → IsAsked (xs ++ x ∷ []) place n → IsAsked xs place n ⊎ ((x.model ≡ place) × (x.number ≡ n))
  asked_cases n h = elim (Contains-append_cases xs (x ∷ []) h.0 h.1) [
    | inl before ↦ inl (h.0, before, h.2, h.3)
    | inr last ↦ let same = only_this h.0 last in inr (ap (λ (y : SessionEntry). y.model) same ∙ h.2, ap (λ (y : SessionEntry). y.number) same ∙ h.3)
  ]

  -- a session that is on another model, or on an earlier command
  pub next_as_before : (found : Option ℕ) → (x.model ≡ place → x.number < from) → IsNext xs place from found → IsNext (xs ++ x ∷ []) place from found
  next_as_before None early none = λ n asked. elim (asked_cases n asked) [
    | inl before ↦ none n before
    | inr last ↦ let l = early last.0 in let e = last.1 in omega arith
  ]
  next_as_before (Some least) early some = record {
    asked = asked_before least some.asked;
    behind = some.behind;
    least = λ n asked behind. elim (asked_cases n asked) [
      | inl before ↦ some.least n before behind
      | inr last ↦ absurd (let l = early last.0 in let e = last.1 in omega arith)
    ];
  }

  -- a session on such a command, the first one
  pub next_first : x.model ≡ place → from ≤ x.number → ((n : ℕ) → IsAsked xs place n → n < from) → IsNext (xs ++ x ∷ []) place from (Some x.number)
  next_first on behind none = record {
    asked = asked_last on;
    behind = behind;
    least = λ n asked is_behind. elim (asked_cases n asked) [
      | inl before ↦ absurd (let l = none n before in omega arith)
      | inr last ↦ let e = last.1 in omega arith
    ];
  }

  -- a session on such a command, where there are such already
  pub next_lesser : (least n : ℕ) → x.model ≡ place → from ≤ x.number → n ≡ min least x.number → IsLeastAsked xs place from least → IsNext (xs ++ x ∷ []) place from (Some n)
  next_lesser least n on behind is some =
      elim (cases_lt x.number least) [
        | inl less ↦ let same : x.number ≡ n = omega arith in subst (λ (k : ℕ). IsLeastAsked (xs ++ x ∷ []) place from k) same (record {
          asked = asked_last on;
          behind = behind;
          least = λ k asked is_behind. elim (asked_cases k asked) [
            | inl before ↦ let l = some.least k before is_behind in omega arith
            | inr last ↦ let e = last.1 in omega arith
          ];
        })
        | inr more ↦ let same : least ≡ n = omega arith in subst (λ (k : ℕ). IsLeastAsked (xs ++ x ∷ []) place from k) same (record {
          asked = asked_before least some.asked;
          behind = some.behind;
          least = λ k asked is_behind. elim (asked_cases k asked) [
            | inl before ↦ some.least k before is_behind
            | inr last ↦ let e = last.1 in omega arith
          ];
        })
      ]
