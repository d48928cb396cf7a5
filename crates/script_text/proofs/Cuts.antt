-- Texts that are told apart though something stands behind them.
use Rattle.std.proofs.Common.{◌≡◌, ◌≢◌, ◌<◌, ◌≤◌, ◌^◌, ◌+◌, ◌*◌, ◌-◌, ℕ, zero, suc, List, [], ◌∷◌, ◌++◌, map, length, codes, decimal, flat_map, All, refl, sym, ap, subst, ◌∙◌, arith, rules, append_assoc, IsTrue, AllPairs, get_or}
use Rattle.std.specs.List.{AllByRecursion}
use Rattle.std.proofs.lemmas.Fmt.{digits_decimal, decimal_injective}
use Rattle.std.proofs.lemmas.Str.Parse.{IsNumeralModel, numerals_by_fold}
use Rattle.std.proofs.lemmas.List.{append_cancel_left}
use Rattle.refutation_check.specs.ProofText.{IsDigit, number_after}

pub head_is : (a b : ℕ) (xs ys : List ℕ) → a ∷ xs ≡ b ∷ ys → a ≡ b
head_is a b xs ys e = cc

pub tail_is : (a b : ℕ) (xs ys : List ℕ) → a ∷ xs ≡ b ∷ ys → xs ≡ ys
tail_is a b xs ys e = cc

cons_is : (a b : ℕ) (xs ys : List ℕ) → a ≡ b → xs ≡ ys → a ∷ xs ≡ b ∷ ys
cons_is a b xs ys e f = cc

-- what stands before the first byte of another class
pub same_front : (P : ℕ → Type 0) (xs ys : List ℕ) (a b : ℕ) (x y : List ℕ) → AllByRecursion P xs → AllByRecursion P ys → ¬ P a → ¬ P b
    → xs ++ a ∷ x ≡ ys ++ b ∷ y → (xs ≡ ys) × (a ∷ x ≡ b ∷ y)
same_front P [] [] a b x y px py na nb e = (refl, e)
same_front P [] (z ∷ ys) a b x y px py na nb e = absurd (na (subst P (sym (head_is a z x (ys ++ b ∷ y) e)) py.0))
same_front P (z ∷ xs) [] a b x y px py na nb e = absurd (nb (subst P (head_is z b (xs ++ a ∷ x) y e) px.0))
same_front P (z ∷ xs) (w ∷ ys) a b x y px py na nb e =
    let rest = same_front P xs ys a b x y px.1 py.1 na nb (tail_is z w (xs ++ a ∷ x) (ys ++ b ∷ y) e) in
    (cons_is z w xs ys (head_is z w (xs ++ a ∷ x) (ys ++ b ∷ y) e) rest.0, rest.1)

own : IsNumeralModel (AllByRecursion IsDigit) (number_after 0)
own = numerals_by_fold _ (search rules) number_after (search rules)

-- what a number is written with
pub digits_written : (n : ℕ) → n < 2 ^ 64 → AllByRecursion IsDigit (decimal n)
digits_written n l = digits_decimal own n l

-- a number, up to the first byte that is no digit
pub same_number : (m n a b : ℕ) (x y : List ℕ) → m < 2 ^ 64 → n < 2 ^ 64 → ¬ IsDigit a → ¬ IsDigit b → decimal m ++ a ∷ x ≡ decimal n ++ b ∷ y → (m ≡ n) × (a ∷ x ≡ b ∷ y)
same_number m n a b x y l k na nb e =
    let cut = same_front IsDigit (decimal m) (decimal n) a b x y (digits_decimal own m l) (digits_decimal own n k) na nb e in
    (decimal_injective m n l k cut.0, cut.1)

-- a text that begins with a byte that is no digit
pub record Begins (text : List ℕ) : Type 0 where
  pub first : ℕ
  pub others : List ℕ
  pub is : text ≡ first ∷ others
  pub other : ¬ IsDigit first

pub same_number_before : (m n : ℕ) (x y : List ℕ) → m < 2 ^ 64 → n < 2 ^ 64 → Begins x → Begins y → decimal m ++ x ≡ decimal n ++ y → (m ≡ n) × (x ≡ y)
same_number_before m n x y l k u v e =
    let cut = same_number m n u.first v.first u.others v.others l k u.other v.other (ap (λ (z : List ℕ). decimal m ++ z) (sym u.is) ∙ e ∙ ap (λ (z : List ℕ). decimal n ++ z) v.is) in
    (cut.0, u.is ∙ cut.1 ∙ sym v.is)

-- ---- pieces before something

pub group3 : (a b c x : List ℕ) → (a ++ b ++ c) ++ x ≡ a ++ (b ++ (c ++ x))
group3 a b c x = simp append_assoc

pub group4 : (a b c d x : List ℕ) → (a ++ b ++ c ++ d) ++ x ≡ a ++ (b ++ (c ++ (d ++ x)))
group4 a b c d x = simp append_assoc

pub group5 : (a b c d e x : List ℕ) → (a ++ b ++ c ++ d ++ e) ++ x ≡ a ++ (b ++ (c ++ (d ++ (e ++ x))))
group5 a b c d e x = simp append_assoc
