-- Calls have the same types by the bodies that are known as by all bodies.
use Rattle.std.proofs.Common.{◌≡◌, ℕ, zero, suc, Bool, true, false, List, [], reverse, Option, Some, None, refl, sym, ap, ◌∙◌, subst}
use Rattle.std.specs.List.{slice_index_or, list_any}
use Rattle.named_model.specs.declared.named.Signature.{Signature}
use Rattle.named_model.specs.Phrase.{PhraseTree}
use Rattle.model_types.specs.Bounding.{Lists, Types, type_of}
use Rattle.model_types.specs.Bounds.Same.{AreSame}
use Rattle.overload_resolution.specs.Expressions.Types.{AreEachSame, called_type, calls_within, types_within}
use Rattle.overload_resolution.proofs.Expressions.Each.{each_at, each_reverse}
use Rattle.overload_resolution.specs.Settling.Same.{AreSameTypes}
use Rattle.overload_resolution.proofs.Settling.Typed as typed
use Rattle.alloy_types.specs.Headers.Called.{EachCalled}
use Rattle.alloy_types.proofs.Headers.TypesAlike as alike

-- of each call in a body, if there is one
abbrev pub EachCalledIn : (ℕ → Type 0) → Option PhraseTree → Type 0
EachCalledIn P None = Unit {0}
EachCalledIn P (Some x) = EachCalled P x

-- a function of each number that is done; nothing for others
abbrev where_done : Bool → Lists → Lists
where_done true a = a
where_done false a = []

module _ (signatures : List Signature) (ts us : List Lists) (each : AreEachSame ts us) (bodies all : List (Option PhraseTree)) (done : ℕ → Bool)
    (known : (n : ℕ) → done n ≡ true → slice_index_or bodies n None ≡ slice_index_or all n None) (unknown : (n : ℕ) → done n ≡ false → slice_index_or bodies n None ≡ None)
    (lower : (n : ℕ) → done n ≡ true → EachCalledIn (λ l. done l ≡ true) (slice_index_or all n None)) where
  abbrev Done : ℕ → Type 0
  Done n = done n ≡ true

  -- by all bodies, as far as they are done
  abbrev by_done : ℕ → ℕ → List Lists → Lists
  by_done j n xs = where_done (done n) (calls_within signatures us all j n xs)

  abbrev types_done : ℕ → Types
  types_done j = record { signatures = signatures; fields = us; calls = by_done j }

  done_is : (j n : ℕ) → Done n → by_done j n ≡ calls_within signatures us all j n
  done_is j n d = λ i xs. where_done (d i) (calls_within signatures us all j n xs)

  nothing : (j n : ℕ) → done n ≡ false → (xs : List Lists) → calls_within signatures ts bodies j n xs ≡ []
  nothing zero n d xs = refl
  nothing (suc j) n d xs = ap (λ (b : Option PhraseTree). called_type (types_within signatures ts bodies j) b xs) (unknown n d)

  -- at one call more
  module _ (j : ℕ) (before : (n : ℕ) → Done n → (xs ys : List Lists) → AreEachSame xs ys → AreSame (calls_within signatures ts bodies j n xs) (calls_within signatures us all j n ys)) where
    call_alike : (n : ℕ) (b : Bool) → done n ≡ b → (xs ys : List Lists) → AreEachSame xs ys → AreSame (calls_within signatures ts bodies j n xs) (by_done j n ys)
    call_alike n true d xs ys h =
        subst (λ (a : Lists). AreSame (calls_within signatures ts bodies j n xs) a) (sym (ap (λ (b : Bool). where_done b (calls_within signatures us all j n ys)) d)) (before n d xs ys h)
    call_alike n false d xs ys h = λ t. ap (list_any t) (nothing j n d xs ∙ sym (ap (λ (b : Bool). where_done b (calls_within signatures us all j n ys)) d))

    types_alike : AreSameTypes (types_within signatures ts bodies j) (types_done j)
    types_alike = record {
      at_the_top = refl;
      over = λ s. refl;
      fields = λ f. each_at ts us f each;
      calls = λ n xs ys h. call_alike n (done n) refl xs ys h;
    }

    body_alike : (b : Option PhraseTree) → EachCalledIn Done b → (xs ys : List Lists) → AreEachSame xs ys → AreSame (called_type (types_within signatures ts bodies j) b xs) (called_type (types_within signatures us all j) b ys)
    body_alike None c xs ys h = λ t. refl
    body_alike (Some x) c xs ys h =
        subst (λ (a : Lists). AreSame (type_of (types_within signatures ts bodies j) (reverse xs) x) a) (alike.type_alike signatures us (by_done j) (calls_within signatures us all j) Done (done_is j) (reverse ys) x c)
        (typed.type_alike (types_within signatures ts bodies j) (types_done j) types_alike (reverse xs) (reverse ys) (each_reverse xs ys h) x)

    step : (n : ℕ) → Done n → (xs ys : List Lists) → AreEachSame xs ys → AreSame (calls_within signatures ts bodies (suc j) n xs) (calls_within signatures us all (suc j) n ys)
    step n d xs ys h =
        subst (λ (b : Option PhraseTree). AreSame (called_type (types_within signatures ts bodies j) b xs) (called_type (types_within signatures us all j) (slice_index_or all n None) ys)) (sym (known n d))
        (body_alike (slice_index_or all n None) (lower n d) xs ys h)

  pub calls_alike : (j n : ℕ) → Done n → (xs ys : List Lists) → AreEachSame xs ys → AreSame (calls_within signatures ts bodies j n xs) (calls_within signatures us all j n ys)
  calls_alike zero n d xs ys h = λ t. refl
  calls_alike (suc j) n d xs ys h = step j (calls_alike j) n d xs ys h
