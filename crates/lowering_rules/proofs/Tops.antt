-- The numbers of top-level signatures, and the sizes that they have.
use Rattle.std.proofs.Common.{◌≡◌, ℕ, zero, suc, ◌+◌, ◌<◌, ◌≤◌, nat_le, inl, inr, List, [], ◌∷◌, length, Option, Contains, All, AllPairs, Bool, true, false, Result, Ok, Err, if◌then◌else◌, refl, sym, ◌∙◌, subst, arith, add-zero}
use Rattle.std.proofs.lemmas.Bool.Decides.{nat_tests}
use Rattle.std.proofs.lemmas.List.Elements.{All-nil, All-cons, All-weaker}
use Rattle.std.proofs.lemmas.List.Kept.{AllPairs-cons}
use Rattle.rel_formula.proofs.OpenCells.{cons_cases}
use Rattle.rel_formula.proofs.Lists.{pairs_nil}
use Rattle.named_model.specs.declared.fault.NameFault.{NameFault}
use Rattle.named_model.specs.declared.fault.NameFault.TheVariants as fault
use Rattle.named_model.specs.declared.named.Signature.{Signature}
use Rattle.named_model.specs.declared.named.Listing.{Listing}
use Rattle.named_model.specs.Model.{NamedTree}
use Rattle.named_model.specs.Answers.{◌>>=◌}
use Rattle.named_model.specs.Signatures.{signature_at, numbers_where, tops}
use Rattle.model_sizes.specs.declared.size.Size.{Size}
use Rattle.model_sizes.specs.Sizes.{places_in, sizes_in, size_of, sizes_of, default_checked, listings_checked, default_of, listings_of, scope_at}

-- ---- numbers

-- a number that is picked is that of an item for which the test is true
pub picked : (test : Signature → Bool) (k : ℕ) (xs : List Signature) (r : ℕ) → Contains (numbers_where test k xs) r →
    (i : ℕ) × (r ≡ k + i) × (i < length xs) × (test (signature_at xs i) ≡ true)
picked test k [] r c = absurd (let l = c.1 in omega arith)
picked test k (x ∷ xs) r c =
    let later : Contains (numbers_where test (k + 1) xs) r → (i : ℕ) × (r ≡ k + i) × (i < length (x ∷ xs)) × (test (signature_at (x ∷ xs) i) ≡ true) =
    λ d. let h = picked test (k + 1) xs r d in let e = h.1 in let l = h.2 in (suc h.0, omega arith, omega arith, h.3) in
    let go : (b : Bool) → test x ≡ b → Contains (if b then k ∷ numbers_where test (k + 1) xs else numbers_where test (k + 1) xs) r →
    (i : ℕ) × (r ≡ k + i) × (i < length (x ∷ xs)) × (test (signature_at (x ∷ xs) i) ≡ true) =
    λ b. elim b as (λ b. test x ≡ b → Contains (if b then k ∷ numbers_where test (k + 1) xs else numbers_where test (k + 1) xs) r →
    (i : ℕ) × (r ≡ k + i) × (i < length (x ∷ xs)) × (test (signature_at (x ∷ xs) i) ≡ true)) [
      | true ↦ λ e d. elim (cons_cases k (numbers_where test (k + 1) xs) r d) [
        | inl same ↦ (zero, sym same ∙ sym (add-zero k), omega arith, e)
        | inr d' ↦ later d'
      ]
      | false ↦ λ e d. later d
    ] in
    go (test x) refl c

-- numbers that are picked begin with the first one
picked_from : (test : Signature → Bool) (k : ℕ) (xs : List Signature) → All (λ r. k ≤ r) (numbers_where test k xs)
picked_from test k [] = All-nil (λ r. k ≤ r)
picked_from test k (x ∷ xs) =
    let later = All-weaker (λ r. k + 1 ≤ r) (λ r. k ≤ r) (λ r l. omega arith) (numbers_where test (k + 1) xs) (picked_from test (k + 1) xs) in
    let go : (b : Bool) → All (λ r. k ≤ r) (if b then k ∷ numbers_where test (k + 1) xs else numbers_where test (k + 1) xs) =
    λ b. elim b as (λ b. All (λ r. k ≤ r) (if b then k ∷ numbers_where test (k + 1) xs else numbers_where test (k + 1) xs)) [
      | true ↦ All-cons (λ r. k ≤ r) k (numbers_where test (k + 1) xs) (omega arith) later
      | false ↦ later
    ] in
    go (test x)

-- and rise
pub picked_rise : (test : Signature → Bool) (k : ℕ) (xs : List Signature) → AllPairs (λ r s. r < s) (numbers_where test k xs)
picked_rise test k [] = pairs_nil (λ r s. r < s)
picked_rise test k (x ∷ xs) =
    let later = picked_rise test (k + 1) xs in
    let above = All-weaker (λ r. k + 1 ≤ r) (λ r. k < r) (λ r l. omega arith) (numbers_where test (k + 1) xs) (picked_from test (k + 1) xs) in
    let go : (b : Bool) → AllPairs (λ r s. r < s) (if b then k ∷ numbers_where test (k + 1) xs else numbers_where test (k + 1) xs) =
    λ b. elim b as (λ b. AllPairs (λ r s. r < s) (if b then k ∷ numbers_where test (k + 1) xs else numbers_where test (k + 1) xs)) [
      | true ↦ AllPairs-cons (λ r s. r < s) k (numbers_where test (k + 1) xs) above later
      | false ↦ later
    ] in
    go (test x)

-- ---- sizes

bind_ok : {A B F : Type 0} (r : Result A F) (f : A → Result B F) (b : B) → (r >>= f) ≡ Ok b → (a : A) × (r ≡ Ok a) × (f a ≡ Ok b)
bind_ok (Ok a) f b e = (a, refl, e)
bind_ok (Err x) f b e = absurd cc

abbrev sizes_ok : List Size → Result (List Size) NameFault
sizes_ok zs = Ok zs

same_ok : (xs ys : List Size) → sizes_ok xs ≡ Ok ys → xs ≡ ys
same_ok xs ys e = cc

abbrev either_ok : Bool → List Size → Result (List Size) NameFault
either_ok b xs = if b then Ok xs else Err fault.TooManyAtoms

few_ok : (b : Bool) (xs ys : List Size) → either_ok b xs ≡ Ok ys → (b ≡ true) × (xs ≡ ys)
few_ok true xs ys e = (refl, cc)
few_ok false xs ys e = absurd cc

le_test : (m n : ℕ) → nat_le m n ≡ true → m ≤ n
le_test m n e = grind (arith, nat_tests)

-- the sizes are those of the top-level signatures, with at most 64 places in all
pub sized : (m : NamedTree) (n : ℕ) (sizes : List Size) → sizes_in m n ≡ Ok sizes →
    (sizes_of m.signatures (listings_of (scope_at m.commands n)) (default_of (scope_at m.commands n)) (tops m.signatures) ≡ Ok sizes) × (places_in sizes ≤ 64)
sized m n sizes e =
    let scope = scope_at m.commands n in
    let a = bind_ok (default_checked (default_of scope)) _ sizes e in
    let b = bind_ok (listings_checked (length m.signatures) [] (listings_of scope)) _ sizes a.2 in
    let c = bind_ok (sizes_of m.signatures (listings_of scope) (default_of scope) (tops m.signatures)) _ sizes b.2 in
    let h = few_ok (nat_le (places_in c.0) 64) c.0 sizes c.2 in (
      subst (λ zs. sizes_of m.signatures (listings_of scope) (default_of scope) (tops m.signatures) ≡ Ok zs) h.1 c.1,
      subst (λ zs. places_in zs ≤ 64) h.1 (le_test (places_in c.0) 64 h.0),
    )

pub sizes_count : (xs : List Signature) (ls : List Listing) (default : Option ℕ) (ss : List ℕ) (zs : List Size) → sizes_of xs ls default ss ≡ Ok zs → length zs ≡ length ss
sizes_count xs ls default [] zs e = subst (λ (ys : List Size). length ys ≡ 0) (same_ok [] zs e) refl
sizes_count xs ls default (s ∷ ss) zs e =
    let a = bind_ok (size_of xs ls default s) _ zs e in
    let b = bind_ok (sizes_of xs ls default ss) _ zs a.2 in
    let long : length (a.0 ∷ b.0) ≡ length (s ∷ ss) = let h = sizes_count xs ls default ss b.0 b.1 in omega arith in
    subst (λ (ys : List Size). length ys ≡ length (s ∷ ss)) (same_ok (a.0 ∷ b.0) zs b.2) long
