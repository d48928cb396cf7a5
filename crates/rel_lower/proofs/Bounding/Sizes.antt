-- There are no more sizes than signatures.
use Rattle.std.proofs.Common.{◌≡◌, ℕ, suc, ◌+◌, ◌≤◌, nat_le, Bool, true, false, List, [], ◌∷◌, length, Option, Result, Ok, Err, refl, sym, ap, arith, if◌then◌else◌, is_none}
use Rattle.named_model.specs.declared.fault.NameFault.{NameFault}
use Rattle.named_model.specs.declared.fault.NameFault.TheVariants as fault
use Rattle.named_model.specs.declared.named.Signature.{Signature}
use Rattle.named_model.specs.declared.named.Listing.{Listing}
use Rattle.named_model.specs.Model.{NamedTree}
use Rattle.named_model.specs.Signatures.{numbers_where, tops}
use Rattle.named_model.specs.Answers.{◌>>=◌}
use Rattle.model_sizes.specs.declared.size.Size.{Size}
use Rattle.model_sizes.specs.Sizes.{default_checked, default_of, listings_checked, listings_of, size_of, sizes_of, places_in, scope_at, sizes_in}

bind_ok : {A B : Type 0} (r : Result A NameFault) (f : A → Result B NameFault) (b : B) → (r >>= f) ≡ Ok b → (a : A) × (r ≡ Ok a) × (f a ≡ Ok b)
bind_ok (Ok a) f b e = (a, refl, e)
bind_ok (Err x) f b e = absurd cc

abbrev fine : {A : Type 0} → A → Result A NameFault
fine a = Ok a

same_ok : {A : Type 0} (a b : A) → fine a ≡ Ok b → a ≡ b
same_ok a b e = cc

one_or_none : (n : ℕ) (ns : List ℕ) (k : ℕ) (b : Bool) → length ns ≤ k → length (if b then n ∷ ns else ns) ≤ suc k
one_or_none n ns k true l = omega arith
one_or_none n ns k false l = omega arith

few_numbers : (test : Signature → Bool) (n : ℕ) (xs : List Signature) → length (numbers_where test n xs) ≤ length xs
few_numbers test n [] = omega arith
few_numbers test n (x ∷ xs) = one_or_none n (numbers_where test (n + 1) xs) (length xs) (test x) (few_numbers test (n + 1) xs)

one_each : (xs : List Signature) (ls : List Listing) (default : Option ℕ) (ss : List ℕ) (zs : List Size) → sizes_of xs ls default ss ≡ Ok zs → length zs ≡ length ss
one_each xs ls default [] zs e = ap length (sym (same_ok [] zs e))
one_each xs ls default (s ∷ ss) zs e =
    let a = bind_ok (size_of xs ls default s) _ zs e in
    let b = bind_ok (sizes_of xs ls default ss) _ zs a.2 in
    let l = one_each xs ls default ss b.0 b.1 in
    let is = ap length (same_ok (a.0 ∷ b.0) zs b.2) in
    omega arith

few_same : (b : Bool) (zs sizes : List Size) → (if b then fine zs else Err fault.TooManyAtoms) ≡ Ok sizes → zs ≡ sizes
few_same true zs sizes e = same_ok zs sizes e
few_same false zs sizes e = absurd cc

pub few_sizes : (m : NamedTree) (n : ℕ) (sizes : List Size) → sizes_in m n ≡ Ok sizes → length sizes ≤ length m.signatures
few_sizes m n sizes e =
    let scope = scope_at m.commands n in
    let a = bind_ok (default_checked (default_of scope)) _ sizes e in
    let b = bind_ok (listings_checked (length m.signatures) [] (listings_of scope)) _ sizes a.2 in
    let c = bind_ok (sizes_of m.signatures (listings_of scope) (default_of scope) (tops m.signatures)) _ sizes b.2 in
    let same = few_same (nat_le (places_in c.0) 64) c.0 sizes c.2 in
    let l = one_each m.signatures (listings_of scope) (default_of scope) (tops m.signatures) c.0 c.1 in
    let few = few_numbers (λ x. is_none x.parent) 0 m.signatures in
    let is = ap length same in
    omega arith
