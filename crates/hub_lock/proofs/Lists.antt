-- Beginnings of one list, and the entries of one pass in them.
use Rattle.std.proofs.Common.{◌≡◌, ◌≢◌, ◌⊎◌, inl, inr, ⊎_elim, ℕ, zero, suc, ◌<◌, ◌≤◌, Bool, true, false, cond, eqb, ne_eqb, List, [], ◌∷◌, ◌++◌, length, refl, sym, ap, ◌∙◌, subst, arith, nat_lt, if◌then◌else◌, All}
use Rattle.std.proofs.lemmas.List.Elements.{filter-append}
use Rattle.std.proofs.lemmas.List.{append_cancel_left}
use mathlib.Core.List.{IsPrefix, append-nil, append_assoc, head-eq_of_cons-eq, tail-eq_of_cons-eq, cons≢nil}
use mathlib.Core.Option.{some, some-injective, some-ne-none}
use lib.ListN.{get_elem?}
use base.Growing.{prefix_refl}
use Rattle.hub_lock.specs.Passes.{longer, of_pass, IsStep}

module _ {E : Type 0} where
  -- of two beginnings of one list the shorter begins the longer
  pub shorter_begins : (xs ys l : List E) → IsPrefix xs l → IsPrefix ys l → length xs ≤ length ys → IsPrefix xs ys
  shorter_begins [] ys l h k le = (ys, refl)
  shorter_begins (x ∷ xs) [] l h k le = absurd (omega arith)
  shorter_begins (x ∷ xs) (y ∷ ys) [] h k le = absurd (cons≢nil h.1)
  shorter_begins (x ∷ xs) (y ∷ ys) (z ∷ l) h k le =
      let e : x ≡ y = head-eq_of_cons-eq (h.1 ∙ sym k.1) in
      let t = shorter_begins xs ys l (h.0, tail-eq_of_cons-eq h.1) (k.0, tail-eq_of_cons-eq k.1) (omega arith) in
      (t.0, λ i. e i ∷ t.1 i)

  longer_cases : (xs ys : List E) (P : List E → Type 0) → (length xs < length ys → P ys) → (length ys ≤ length xs → P xs) → P (longer xs ys)
  longer_cases xs ys P a b = go (nat_lt (length xs) (length ys)) refl
    where
      go : (t : Bool) → nat_lt (length xs) (length ys) ≡ t → P (if t then ys else xs)
      go true e = a (grind arith)
      go false e = b (grind arith)

  pub longer_begins : (xs ys l : List E) → IsPrefix xs l → IsPrefix ys l → IsPrefix (longer xs ys) l
  longer_begins xs ys l h k = longer_cases xs ys (λ z. IsPrefix z l) (λ _. k) (λ _. h)

  pub first_begins : (xs ys l : List E) → IsPrefix xs l → IsPrefix ys l → IsPrefix xs (longer xs ys)
  first_begins xs ys l h k = longer_cases xs ys (λ z. IsPrefix xs z) (λ lt. shorter_begins xs ys l h k (omega arith)) (λ _. prefix_refl xs)

  pub second_begins : (xs ys l : List E) → IsPrefix xs l → IsPrefix ys l → IsPrefix ys (longer xs ys)
  second_begins xs ys l h k = longer_cases xs ys (λ z. IsPrefix ys z) (λ _. prefix_refl ys) (λ le. shorter_begins ys xs l k h le)

  pub prefix_length : (xs ys : List E) → IsPrefix xs ys → length xs ≤ length ys
  prefix_length [] ys h = omega arith
  prefix_length (x ∷ xs) [] h = absurd (cons≢nil h.1)
  prefix_length (x ∷ xs) (y ∷ ys) h = omega (arith, prefix_length xs ys (h.0, tail-eq_of_cons-eq h.1))

  -- a beginning as long as the whole is the whole
  pub prefix_whole : (xs ys : List E) → IsPrefix xs ys → length ys ≤ length xs → xs ≡ ys
  prefix_whole [] [] h le = refl
  prefix_whole [] (y ∷ ys) h le = absurd (omega arith)
  prefix_whole (x ∷ xs) [] h le = absurd (cons≢nil h.1)
  prefix_whole (x ∷ xs) (y ∷ ys) h le = let e : x ≡ y = head-eq_of_cons-eq h.1 in let t = prefix_whole xs ys (h.0, tail-eq_of_cons-eq h.1) (omega arith) in λ i. e i ∷ t i

  pub longer_whole : (xs ys l : List E) → IsPrefix xs l → IsPrefix ys l → (xs ≡ l) → longer xs ys ≡ l
  longer_whole xs ys l h k e = let a = first_begins xs ys l h k in prefix_whole (longer xs ys) l (longer_begins xs ys l h k) (omega (arith, prefix_length xs (longer xs ys) a, ap length e))

  pub longer_whole_other : (xs ys l : List E) → IsPrefix xs l → IsPrefix ys l → (ys ≡ l) → longer xs ys ≡ l
  longer_whole_other xs ys l h k e = let a = second_begins xs ys l h k in prefix_whole (longer xs ys) l (longer_begins xs ys l h k) (omega (arith, prefix_length ys (longer xs ys) a, ap length e))

module _ {E : Type 0} (by : E → ℕ) (n : ℕ) where
  pub of_pass-append : (xs ys : List E) → of_pass by n (xs ++ ys) ≡ of_pass by n xs ++ of_pass by n ys
  of_pass-append xs ys = filter-append (λ e. eqb (by e) n) xs ys

  pub front_nil : (xs ys : List E) → [] ≡ xs ++ ys → xs ≡ []
  front_nil [] ys e = refl
  front_nil (x ∷ xs) ys e = absurd (cons≢nil (sym e))

  -- a list between two that have the same entries of a pass has these
  pub between : (a b c : List E) → IsPrefix a b → IsPrefix b c → of_pass by n a ≡ of_pass by n c → of_pass by n b ≡ of_pass by n a
  between a b c h k e =
      let ob : of_pass by n b ≡ of_pass by n a ++ of_pass by n h.0 = ap (of_pass by n) (sym h.1) ∙ of_pass-append a h.0 in
      let oc : of_pass by n c ≡ of_pass by n b ++ of_pass by n k.0 = ap (of_pass by n) (sym k.1) ∙ of_pass-append b k.0 in
      let all : of_pass by n a ++ [] ≡ of_pass by n a ++ (of_pass by n h.0 ++ of_pass by n k.0)
      = append-nil (of_pass by n a) ∙ (e ∙ (oc ∙ (ap (λ (z : List E). z ++ of_pass by n k.0) ob ∙ append_assoc (of_pass by n a) (of_pass by n h.0) (of_pass by n k.0)))) in
      let none : of_pass by n h.0 ≡ [] = front_nil (of_pass by n h.0) (of_pass by n k.0) (append_cancel_left (of_pass by n a) [] (of_pass by n h.0 ++ of_pass by n k.0) all) in
      ob ∙ (ap (λ (z : List E). of_pass by n a ++ z) none ∙ append-nil (of_pass by n a))

  pub of_step : (m : ℕ) (more : List E) → IsStep by m more → n ≢ m → of_pass by n more ≡ []
  of_step m [] s ne = refl
  of_step m (e ∷ []) s ne = ap (λ (b : Bool). cond b (e ∷ []) []) (ne_eqb (by e) n (λ h. ne (sym h ∙ s)))
  of_step m (e ∷ f ∷ es) s ne = absurd s

  -- one pass's step leaves the entries of the others
  pub of_others : (m : ℕ) (l more : List E) → IsStep by m more → n ≢ m → of_pass by n (l ++ more) ≡ of_pass by n l
  of_others m l more s ne = of_pass-append l more ∙ (ap (λ (z : List E). of_pass by n l ++ z) (of_step m more s ne) ∙ append-nil (of_pass by n l))

-- a pass with a higher number than all entries has none
pub none_of : {E : Type 0} (by : E → ℕ) (m n : ℕ) (l : List E) → All (λ e. by e ≤ m) l → m < n → of_pass by n l ≡ []
none_of by m n [] h lt = refl
none_of by m n (x ∷ xs) h lt =
    let low : by x ≤ m = h 0 x (omega arith) in
    ap (λ (b : Bool). cond b (x ∷ of_pass by n xs) (of_pass by n xs)) (ne_eqb (by x) n (λ e. omega arith)) ∙ none_of by m n xs (λ k d k_lt. h (suc k) d (omega arith)) lt

module _ {A : Type 0} where
  pub there_below : (l : List A) (i : ℕ) (a : A) → get_elem? l i ≡ some a → i < length l
  there_below [] i a e = absurd (some-ne-none a (sym e))
  there_below (x ∷ xs) zero a e = omega arith
  there_below (x ∷ xs) (suc i) a e = omega (arith, there_below xs i a e)

  pub at_one : (l : List A) (i : ℕ) (a b : A) → get_elem? l i ≡ some a → get_elem? l i ≡ some b → a ≡ b
  at_one l i a b p q = some-injective a b (sym p ∙ q)

  -- the place in a list with one more
  pub at_pushed : (l : List A) (a b : A) (j : ℕ) → get_elem? (l ++ a ∷ []) j ≡ some b → (get_elem? l j ≡ some b) ⊎ ((j ≡ length l) × (a ≡ b))
  at_pushed [] a b zero e = inr (refl, some-injective a b e)
  at_pushed [] a b (suc j) e = absurd (some-ne-none b (sym e))
  at_pushed (x ∷ xs) a b zero e = inl e
  at_pushed (x ∷ xs) a b (suc j) e = ⊎_elim inl (λ t. inr (ap suc t.0, t.1)) (at_pushed xs a b j e)

pub all_of_prefix : {E : Type 0} (P : E → Type 0) (xs l : List E) → IsPrefix xs l → All P l → All P xs
all_of_prefix P [] l h all k d lt = absurd (omega arith)
all_of_prefix P (x ∷ xs) [] h all k d lt = absurd (cons≢nil h.1)
all_of_prefix P (x ∷ xs) (y ∷ l) h all zero d lt = subst P (sym (head-eq_of_cons-eq h.1)) (all 0 d (omega arith))
all_of_prefix P (x ∷ xs) (y ∷ l) h all (suc k) d lt = all_of_prefix P xs l (h.0, tail-eq_of_cons-eq h.1) (λ i e i_lt. all (suc i) e (omega arith)) k d (omega arith)
