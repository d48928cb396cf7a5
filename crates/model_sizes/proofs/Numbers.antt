-- The numbers of signatures that pass a test, as far as a loop has come.
use Rattle.std.proofs.Common.{◌≡◌, ℕ, zero, suc, ◌+◌, ◌<◌, ◌≤◌, Bool, true, false, List, [], ◌∷◌, ◌++◌, length, take, drop, get_or, refl, sym, ap, ◌∙◌, append_assoc, add-one, if◌then◌else◌, arith, subst}
use Rattle.std.proofs.Math.Seq.{take-suc}
use Rattle.std.proofs.lemmas.List.{take-append-drop, drop_more, length-take-le, append-nil}
use Rattle.std.proofs.lemmas.Option.{slice_get_read, get_or_from_slice_get}
use Rattle.named_model.specs.declared.named.Signature.{Signature}
use Rattle.named_model.specs.Signatures.{numbers_where}

-- one item more
pub take_more : {X : Type 0} (xs : List X) (i : ℕ) (d : X) → i < length xs → take (i + 1) xs ≡ take i xs ++ get_or xs i d ∷ []
take_more xs i d l = ap (λ k. take k xs) (add-one i) ∙ take-suc xs i d l

-- an item that is read is that of its number
pub item_is : {X : Type 0} (xs : List X) (i : ℕ) (d x : X) → i < length xs → x ≡ get_or xs i x → get_or xs i d ≡ x
item_is xs i d x l is = get_or_from_slice_get xs i x d (slice_get_read xs (length xs) i x refl l is)

-- the fact holds of each of these
abbrev pub AllNumbers : (ℕ → Type 0) → List ℕ → Type 0
AllNumbers P [] = Unit {0}
AllNumbers P (n ∷ ns) = P n × AllNumbers P ns

module _ (test : Signature → Bool) where
  -- numbers go on behind those of earlier signatures
  pub numbers_append : (n : ℕ) (xs ys : List Signature) → numbers_where test n (xs ++ ys) ≡ numbers_where test n xs ++ numbers_where test (n + length xs) ys
  numbers_append n [] ys = ap (λ k. numbers_where test k ys) (omega arith)
  numbers_append n (x ∷ xs) ys =
      let rest = numbers_append (n + 1) xs ys ∙ ap (λ k. numbers_where test (n + 1) xs ++ numbers_where test k ys) (omega arith) in
      go (test x) rest
    where
      go : (b : Bool) → numbers_where test (n + 1) (xs ++ ys) ≡ numbers_where test (n + 1) xs ++ numbers_where test (n + suc (length xs)) ys
          → (if b then n ∷ numbers_where test (n + 1) (xs ++ ys) else numbers_where test (n + 1) (xs ++ ys))
          ≡ (if b then n ∷ numbers_where test (n + 1) xs else numbers_where test (n + 1) xs) ++ numbers_where test (n + suc (length xs)) ys
      go true e = ap (λ ns. n ∷ ns) e
      go false e = e

  numbers_one : (n : ℕ) (x : Signature) (b : Bool) → test x ≡ b → numbers_where test n (x ∷ []) ≡ (if b then n ∷ [] else [])
  numbers_one n x true e = rw e refl
  numbers_one n x false e = rw e refl

  length_front : (xs : List Signature) (i : ℕ) → i < length xs → 0 + length (take i xs) ≡ i
  length_front xs i l = let e = length-take-le i xs (omega arith) in omega (arith, e)

  -- the numbers as far as one signature more
  pub numbers_more : (xs : List Signature) (i : ℕ) (d : Signature) (b : Bool) → i < length xs → test (get_or xs i d) ≡ b
      → numbers_where test 0 (take (i + 1) xs) ≡ numbers_where test 0 (take i xs) ++ (if b then i ∷ [] else [])
  numbers_more xs i d b l e =
      ap (numbers_where test 0) (take_more xs i d l) ∙ numbers_append 0 (take i xs) (get_or xs i d ∷ [])
      ∙ ap (λ k. numbers_where test 0 (take i xs) ++ numbers_where test k (get_or xs i d ∷ [])) (length_front xs i l)
      ∙ ap (λ ns. numbers_where test 0 (take i xs) ++ ns) (numbers_one i (get_or xs i d) b e)

  -- the numbers of all, from a signature on that passes the test
  pub numbers_from : (xs : List Signature) (i : ℕ) (d : Signature) → i < length xs → test (get_or xs i d) ≡ true
      → numbers_where test 0 xs ≡ numbers_where test 0 (take i xs) ++ i ∷ numbers_where test (i + 1) (drop (i + 1) xs)
  numbers_from xs i d l e =
      ap (numbers_where test 0) (sym (take-append-drop i xs) ∙ ap (λ ys. take i xs ++ ys) (drop_more xs i d l))
      ∙ numbers_append 0 (take i xs) (get_or xs i d ∷ drop (i + 1) xs)
      ∙ ap (λ k. numbers_where test 0 (take i xs) ++ numbers_where test k (get_or xs i d ∷ drop (i + 1) xs)) (length_front xs i l)
      ∙ ap (λ ns. numbers_where test 0 (take i xs) ++ ns) (rw e refl)

  -- each number is one of a signature
  pub numbers_below : (n : ℕ) (xs : List Signature) (P : ℕ → Type 0) → ((s : ℕ) → s < n + length xs → P s) → AllNumbers P (numbers_where test n xs)
  numbers_below n [] P h = tt
  numbers_below n (x ∷ xs) P h = go (test x) (h n (omega arith)) (numbers_below (n + 1) xs P (λ s l. h s (omega arith)))
    where
      go : (b : Bool) → P n → AllNumbers P (numbers_where test (n + 1) xs) → AllNumbers P (if b then n ∷ numbers_where test (n + 1) xs else numbers_where test (n + 1) xs)
      go true p ps = (p, ps)
      go false p ps = ps
