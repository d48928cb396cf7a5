-- Arguments and parameters as far as a loop has come.
use Rattle.std.proofs.Common.{◌≡◌, ℕ, ◌+◌, ◌<◌, ◌≤◌, List, [], ◌∷◌, length, get_or, drop, Option, Some, None, Ok, Err, sym, ap, ◌∙◌, inl, inr, ◌⊎◌, arith}
use Rattle.std.specs.List.{slice_get}
use Rattle.std.proofs.lemmas.List.{drop_more, drop_all}
use Rattle.std.proofs.lemmas.Option.{slice_get_cases}
use Rattle.alloy_lex.specs.declared.token.Place.{Place}
use Rattle.named_model.specs.Answers.{◌>>=◌}
use Rattle.model_types.specs.declared.fault.TypeFault.{TypeFault}
use Rattle.model_types.specs.declared.fault.TypeFault.TheVariants as fault
use Rattle.model_types.specs.Sorts.{Checked}
use Rattle.model_types.specs.Typing.{arguments_fit}
use Rattle.overload_resolution.specs.Names.Headers.{argument_fits}

module _ (p : Place) (ms : List (Option ℕ)) (ns : List (ℕ × Place)) (i : ℕ) where
  next : (n : ℕ × Place) → i < length ns → n ≡ get_or ns i n
      → arguments_fit p (drop i ms) (drop i ns) ≡ (argument_fits p (slice_get ms i) n >>= λ fit. arguments_fit p (drop (i + 1) ms) (drop (i + 1) ns))
  next n l is = ap (arguments_fit p (drop i ms)) (drop_more ns i n l ∙ ap (λ z. z ∷ drop (i + 1) ns) (sym is)) ∙ go (slice_get_cases ms i).1
    where
      go : ((m : Option ℕ) × (i < length ms) × (slice_get ms i ≡ Some m) × (get_or ms i m ≡ m)) ⊎ ((length ms ≤ i) × (slice_get ms i ≡ None))
          → arguments_fit p (drop i ms) (n ∷ drop (i + 1) ns) ≡ (argument_fits p (slice_get ms i) n >>= λ fit. arguments_fit p (drop (i + 1) ms) (drop (i + 1) ns))
      go (inl some) =
          ap (λ (os : List (Option ℕ)). arguments_fit p os (n ∷ drop (i + 1) ns)) (drop_more ms i some.0 some.1 ∙ ap (λ z. z ∷ drop (i + 1) ms) some.3)
          ∙ sym (ap (λ (o : Option (Option ℕ)). argument_fits p o n >>= λ fit. arguments_fit p (drop (i + 1) ms) (drop (i + 1) ns)) some.2)
      go (inr none) =
          ap (λ (os : List (Option ℕ)). arguments_fit p os (n ∷ drop (i + 1) ns)) (drop_all i ms none.0)
          ∙ sym (ap (λ (o : Option (Option ℕ)). argument_fits p o n >>= λ fit. arguments_fit p (drop (i + 1) ms) (drop (i + 1) ns)) none.1)

  pub passed : (n : ℕ × Place) (r : Checked) → i < length ns → n ≡ get_or ns i n → argument_fits p (slice_get ms i) n ≡ Ok tt
      → arguments_fit p (drop i ms) (drop i ns) ≡ r → arguments_fit p (drop (i + 1) ms) (drop (i + 1) ns) ≡ r
  passed n r l is fit before = sym (next n l is ∙ ap (λ c. c >>= λ fit. arguments_fit p (drop (i + 1) ms) (drop (i + 1) ns)) fit) ∙ before

  pub refused : (n : ℕ × Place) (e : TypeFault) (r : Checked) → i < length ns → n ≡ get_or ns i n → argument_fits p (slice_get ms i) n ≡ Err e
      → arguments_fit p (drop i ms) (drop i ns) ≡ r → Err e ≡ r
  refused n e r l is fault before = sym (next n l is ∙ ap (λ c. c >>= λ fit. arguments_fit p (drop (i + 1) ms) (drop (i + 1) ns)) fault) ∙ before

  pub more : (r : Checked) → i ≡ length ns → length ns < length ms → arguments_fit p (drop i ms) (drop i ns) ≡ r → Err (fault.Sort p) ≡ r
  more r end l before = go (slice_get_cases ms i).1
    where
      go : ((m : Option ℕ) × (i < length ms) × (slice_get ms i ≡ Some m) × (get_or ms i m ≡ m)) ⊎ ((length ms ≤ i) × (slice_get ms i ≡ None)) → Err (fault.Sort p) ≡ r
      go (inl some) =
          sym (ap (arguments_fit p (drop i ms)) (drop_all i ns (omega (arith, end)))
          ∙ ap (λ (os : List (Option ℕ)). arguments_fit p os []) (drop_more ms i some.0 some.1)) ∙ before
      go (inr none) = absurd (omega (arith, end, l, none.0))

  pub ended : (r : Checked) → i ≡ length ns → length ms ≤ length ns → arguments_fit p (drop i ms) (drop i ns) ≡ r → Ok tt ≡ r
  ended r end l before =
      sym (ap (arguments_fit p (drop i ms)) (drop_all i ns (omega (arith, end)))
      ∙ ap (λ (os : List (Option ℕ)). arguments_fit p os []) (drop_all i ms (omega (arith, end, l)))) ∙ before
