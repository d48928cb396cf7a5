-- Texts one after the other: one more, and those of equal things.
use Rattle.std.proofs.Common.{◌≡◌, ℕ, zero, suc, ◌+◌, ◌<◌, List, [], ◌∷◌, ◌++◌, length, take, get_or, refl, sym, ap, subst, ◌∙◌, append_assoc, arith}
use Rattle.std.specs.List.{AllZip}
use Rattle.std.proofs.lemmas.List.{append-nil, take_more}
use Rattle.decision_reports.specs.Texts.{AreTexts}

module _ {X : Type 0} (IsText : X → List ℕ → Type 0) where
  texts_push : (xs : List X) (x : X) (text last : List ℕ) → AreTexts IsText xs text → IsText x last → AreTexts IsText (xs ++ x ∷ []) (text ++ last)
  texts_push [] x text last are is = (last, [], is, refl, ap (λ (t : List ℕ). t ++ last) are ∙ sym (append-nil last))
  texts_push (y ∷ ys) x text last (first, rest, one, others, same) is =
      (first, rest ++ last, one, texts_push ys x rest last others is, ap (λ (t : List ℕ). t ++ last) same ∙ append_assoc first rest last)

  -- the turn of a loop that appends a text
  pub texts_more : (xs : List X) (i : ℕ) (x : X) (old new last : List ℕ) → i < length xs → x ≡ get_or xs i x → new ≡ old ++ last
      → AreTexts IsText (take i xs) old → IsText x last → AreTexts IsText (take (i + 1) xs) new
  texts_more xs i x old new last l item added are is =
      let more : take (i + 1) xs ≡ take i xs ++ x ∷ [] = take_more xs i x l ∙ ap (λ (y : X). take i xs ++ y ∷ []) (sym item) in
      subst (λ (ys : List X). AreTexts IsText ys new) (sym more) (subst (AreTexts IsText (take i xs ++ x ∷ [])) (sym added) (texts_push (take i xs) x old last are is))

-- what holds of two lists place by place holds at a place
zip_at : {X Y : Type 0} (R : X → Y → Type 0) (xs : List X) (ys : List Y) (i : ℕ) (d : X) (e : Y) → AllZip R xs ys → i < length xs → R (get_or xs i d) (get_or ys i e)
zip_at R [] ys i d e zip l = absurd (omega arith)
zip_at R (x ∷ xs) [] i d e zip l = absurd zip
zip_at R (x ∷ xs) (y ∷ ys) zero d e zip l = zip.0
zip_at R (x ∷ xs) (y ∷ ys) (suc i) d e zip l = zip_at R xs ys i d e zip.1 (omega arith)

pub zip_length : {X Y : Type 0} (R : X → Y → Type 0) (xs : List X) (ys : List Y) → AllZip R xs ys → length xs ≡ length ys
zip_length R [] [] zip = refl
zip_length R [] (y ∷ ys) zip = absurd zip
zip_length R (x ∷ xs) [] zip = absurd zip
zip_length R (x ∷ xs) (y ∷ ys) zip = let e = zip_length R xs ys zip.1 in omega arith

pub zip_here : {X Y : Type 0} (R : X → Y → Type 0) (xs : List X) (ys : List Y) (i : ℕ) (x : X) (y : Y) → AllZip R xs ys → i < length xs → x ≡ get_or xs i x → y ≡ get_or ys i y → R x y
zip_here {X} {Y} R xs ys i x y zip l e f = subst (λ (z : X). R z y) (sym e) (subst (λ (z : Y). R (get_or xs i x) z) (sym f) (zip_at R xs ys i x y zip l))
