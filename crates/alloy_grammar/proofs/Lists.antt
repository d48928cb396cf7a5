-- Reading one after the other.
use Rattle.std.proofs.Common.{◌≡◌, ℕ, zero, suc, ◌<◌, inl, inr, Bool, true, false, List, [], ◌∷◌, length, Ok, subst, arith}
use Rattle.alloy_syntax.specs.declared.class.Class.TheVariants as class
use Rattle.alloy_syntax.specs.declared.parser_token.ParserToken.{ParserToken}
use Rattle.alloy_syntax.specs.Readers.{Parser, next_is, repeated, many, behind, others}
use Rattle.alloy_grammar.specs.Fronts.{Front, each}
use Rattle.alloy_grammar.proofs.Results.{success, stop, known, either, no_success, value_is, rest_is}

-- the test holds, and the item is read
abbrev pub Taken : {A : Type 0} → (List ParserToken → Bool) → Parser A → A → Front
Taken test item x ts rest = (test ts ≡ true) × (item ts ≡ Ok (x, rest))

-- an item takes a token
abbrev pub Shortens : {A : Type 0} → (List ParserToken → Bool) → Parser A → Type 0
Shortens {A} test item = (ts : List ParserToken) (x : A) (rest : List ParserToken) → test ts ≡ true → item ts ≡ Ok (x, rest) → length rest < length ts

repeated_read : {A : Type 0} (test : List ParserToken → Bool) (item : Parser A) (n : ℕ) (ts : List ParserToken) (xs : List A) (rest : List ParserToken)
    → repeated test item n ts ≡ Ok (xs, rest) → each (Taken test item) xs ts rest
unfolding repeated
repeated_read {A} test item zero ts xs rest e =
    subst (λ (ys : List A). each (Taken test item) ys ts rest) (value_is [] xs ts rest e) (rest_is [] xs ts rest e)
repeated_read {A} test item (suc n) ts xs rest e =
    elim (either (test ts)) [
      | inr ends ↦ (
          let h = rw ends at e in
          subst (λ (ys : List A). each (Taken test item) ys ts rest) (value_is [] xs ts rest h) (rest_is [] xs ts rest h))
      | inl goes ↦ (
          let h = rw goes at e in
          elim (known (item ts)) [
            | stop d is ↦ no_success _ _ (rw is at h)
            | success x is ↦ (
                let k = rw is at h in
                elim (known (repeated test item n x.1)) [
                  | stop d more ↦ no_success _ _ (rw more at k)
                  | success ys more ↦ (
                      let m = rw more at k in
                      subst (λ (zs : List A). each (Taken test item) zs ts rest) (value_is (x.0 ∷ ys.0) xs ys.1 rest m)
                      (x.1, (goes, is), subst (λ us. each (Taken test item) ys.0 x.1 us) (rest_is (x.0 ∷ ys.0) xs ys.1 rest m) (repeated_read test item n x.1 ys.0 ys.1 more)))
                ])
          ])
    ]

repeated_stops : {A : Type 0} (test : List ParserToken → Bool) (item : Parser A) → Shortens test item → (n : ℕ) (ts : List ParserToken) (xs : List A) (rest : List ParserToken)
    → length ts < n → repeated test item n ts ≡ Ok (xs, rest) → test rest ≡ false
unfolding repeated
repeated_stops test item short zero ts xs rest enough e = absurd (omega arith)
repeated_stops {A} test item short (suc n) ts xs rest enough e =
    elim (either (test ts)) [
      | inr ends ↦ subst (λ us. test us ≡ false) (rest_is [] xs ts rest (rw ends at e)) ends
      | inl goes ↦ (
          let h = rw goes at e in
          elim (known (item ts)) [
            | stop d is ↦ no_success _ _ (rw is at h)
            | success x is ↦ (
                let k = rw is at h in
                elim (known (repeated test item n x.1)) [
                  | stop d more ↦ no_success _ _ (rw more at k)
                  | success ys more ↦ (
                      let m = rw more at k in
                      let less = short ts x.0 x.1 goes is in
                      subst (λ us. test us ≡ false) (rest_is (x.0 ∷ ys.0) xs ys.1 rest m) (repeated_stops test item short n x.1 ys.0 ys.1 (omega arith) more))
                ])
          ])
    ]

pub many_read : {A : Type 0} (test : List ParserToken → Bool) (item : Parser A) (ts : List ParserToken) (xs : List A) (rest : List ParserToken)
    → many test item ts ≡ Ok (xs, rest) → each (Taken test item) xs ts rest
many_read test item ts xs rest e = repeated_read test item (suc (length ts)) ts xs rest e

pub many_stops : {A : Type 0} (test : List ParserToken → Bool) (item : Parser A) → Shortens test item → (ts : List ParserToken) (xs : List A) (rest : List ParserToken)
    → many test item ts ≡ Ok (xs, rest) → test rest ≡ false
many_stops test item short ts xs rest e = repeated_stops test item short (suc (length ts)) ts xs rest (omega arith) e

pub each_of : {A : Type 0} (P Q : A → Front) → ((x : A) (ts rest : List ParserToken) → P x ts rest → Q x ts rest) → (xs : List A) (ts rest : List ParserToken) → each P xs ts rest → each Q xs ts rest
each_of P Q to [] ts rest p = p
each_of P Q to (x ∷ xs) ts rest p = (p.0, to x ts p.0 p.1, each_of P Q to xs p.0 rest p.2)

-- the first, and one more behind each comma
pub others_read : {A : Type 0} (item : Parser A) (first : A) (ts : List ParserToken) (xs : List A) (rest : List ParserToken)
    → others item first ts ≡ Ok (xs, rest) → (ys : List A) × (first ∷ ys ≡ xs) × each (Taken (next_is class.Comma) (behind item)) ys ts rest
unfolding others
others_read item first ts xs rest e =
    elim (known (many (next_is class.Comma) (behind item) ts)) [
      | stop d is ↦ no_success _ _ (rw is at e)
      | success ys is ↦ (
          let h = rw is at e in
          (ys.0, value_is (first ∷ ys.0) xs ys.1 rest h, subst (λ us. each (Taken (next_is class.Comma) (behind item)) ys.0 ts us) (rest_is (first ∷ ys.0) xs ys.1 rest h) (many_read (next_is class.Comma) (behind item) ts ys.0 ys.1 is)))
    ]
