-- Equal texts.
use Rattle.std.proofs.Common.{◌≡◌, ℕ, Bool, true, false, List, refl, sym}
use Rattle.std.specs.Str.{bytes_eq}
use Rattle.std.proofs.lemmas.Slice.Eq.{bytes_eq-Decides}

-- a test that is true exactly where another one is
pub agree : (a b : Bool) → (a ≡ true → b ≡ true) → (b ≡ true → a ≡ true) → a ≡ b
agree true b to back = sym (to refl)
agree false true to back = back refl
agree false false to back = refl

pub equal_texts : (s t : List ℕ) → bytes_eq s t ≡ true → s ≡ t
equal_texts s t e = (bytes_eq-Decides s t).0 e

pub same_text : (s : List ℕ) → bytes_eq s s ≡ true
same_text s = (bytes_eq-Decides s s).1 refl

pub turned : (s t : List ℕ) → bytes_eq s t ≡ bytes_eq t s
turned s t = agree (bytes_eq s t) (bytes_eq t s) (λ e. (bytes_eq-Decides t s).1 (sym (equal_texts s t e))) (λ e. (bytes_eq-Decides s t).1 (sym (equal_texts t s e)))
