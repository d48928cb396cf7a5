-- The types of calls, by the bodies of functions.
use Rattle.std.proofs.Common.{◌≡◌, ℕ, zero, suc, ◌<◌, ◌≤◌, List, [], ◌∷◌, map, length, reverse, refl, sym, ap, ◌∙◌, subst, slice_get, slice_index_or, Option, Some, None, option_map, Result, Ok, Err, arith}
use Rattle.named_model.specs.Phrase.{PhraseTree}
use Rattle.named_model.specs.Model.{MeaningTree, formulas, value, CalleeTree, NamedTree}
use Rattle.model_types.specs.declared.fault.TypeFault.{TypeFault}
use Rattle.model_types.specs.Bounding.{Lists, Types}
use Rattle.model_types.specs.Typing.{Local, Field, Declared, call_type, Settled, settled}
use Rattle.model_types.specs.Models.{or_unknown, Domain, domains_known, parameters_known, type_known, header_with, header_of, field_declared, callee_within, declared_in}
use Rattle.overload_resolution.specs.Expressions.Types.{called_type, calls_within}
use Rattle.alloy_types.specs.Headers.Called.{EachCalled, EachCalledInMeaning, EachCalledBy, AreRanks}
use Rattle.alloy_types.specs.Headers.Bodies.{tree_of, body_in, body_of, bodies_of, AreLow}
use Rattle.alloy_types.proofs.Headers.SameAnswers.{Alike}
use Rattle.alloy_types.proofs.Headers.TypesAlike.{type_alike}
use Rattle.alloy_types.proofs.Headers.Agreeing.{settled_agrees, known_agree}
use Rattle.alloy_types.proofs.Headers.Ranks.{headers_by_ranks}

-- what a function makes of the thing of a number
abbrev found : {X Y : Type 0} → (X → Option Y) → Option X → Option Y
found f None = None
found f (Some x) = f x

found_at : {X Y : Type 0} (f : X → Option Y) (xs : List X) (n : ℕ) → slice_index_or (map f xs) n None ≡ found f (slice_get xs n)
found_at f [] n = refl
found_at f (x ∷ xs) zero = refl
found_at f (x ∷ xs) (suc n) = found_at f xs n

module _ (m : NamedTree) (rank : ℕ → ℕ) (ranked : AreRanks m rank) (low : AreLow m rank) where
  abbrev fields : List Field
  fields = map (field_declared m) m.fields

  abbrev types : List Lists
  types = map (λ (d : Field). d.type) fields

  -- as far as calls are nested so many deep
  abbrev within : ℕ → Declared
  within j = record { signatures = m.signatures; fields = fields; callee = callee_within m j }

  abbrev by_bodies : ℕ → Types
  by_bodies j = record { signatures = m.signatures; fields = types; calls = calls_within m.signatures types (bodies_of m) j }

  -- one function, whose calls have the types that are known
  module _ (j n : ℕ) (same : (l : ℕ) → rank l < rank n → callee_within m j l ≡ callee_within m (length m.callees) l) (known : (l : ℕ) → rank l < rank n → (λ xs. call_type (callee_within m j l) xs) ≡ calls_within m.signatures types (bodies_of m) j l) where
    abbrev Lower : ℕ → Type 0
    Lower l = rank l < rank n

    body_known : (a b : Result Settled TypeFault) → Alike (λ (y : Settled). EachCalled Lower y.tree) a b → (xs : List Lists) → called_type (by_bodies j) (tree_of b) xs ≡ type_known (within j) a xs
    body_known (Ok y) b h xs =
        subst (λ (c : Result Settled TypeFault). called_type (by_bodies j) (tree_of c) xs ≡ type_known (within j) (Ok y) xs) h.same
        (sym (type_alike m.signatures types (λ l. call_type (callee_within m j l)) (calls_within m.signatures types (bodies_of m) j) Lower known (reverse xs) y.tree h.holds))
    body_known (Err e) b h xs = subst (λ (c : Result Settled TypeFault). called_type (by_bodies j) (tree_of c) xs ≡ type_known (within j) (Err e) xs) h.same refl

    meaning_known : (ls : List (Option Local)) (x : MeaningTree) → EachCalledInMeaning Lower x → (xs : List Lists)
        → called_type (by_bodies j) (body_in (declared_in m) (reverse (map or_unknown ls)) x) xs ≡ (header_with (within j) ls x).type xs
    meaning_known ls (formulas ys) h xs = refl
    meaning_known ls (value range body) h xs =
        body_known (settled (within j) (reverse (map or_unknown ls)) [] body) (settled (declared_in m) (reverse (map or_unknown ls)) [] body)
        (settled_agrees m.signatures fields (callee_within m j) (callee_within m (length m.callees)) Lower same (reverse (map or_unknown ls)) [] body h.1) xs

    callee_known : (c : CalleeTree) → EachCalledBy Lower c → (xs : List Lists) → called_type (by_bodies j) (body_of (declared_in m) c) xs ≡ (header_of (within j) c).type xs
    callee_known c h xs =
        subst (λ (es : List Domain). called_type (by_bodies j) (body_in (declared_in m) (reverse (map or_unknown (parameters_known es))) c.meaning) xs ≡ (header_of (within j) c).type xs)
        (known_agree m.signatures fields (callee_within m j) (callee_within m (length m.callees)) Lower same [] c.parameters h.0)
        (meaning_known (parameters_known (domains_known (within j) [] c.parameters)) c.meaning h.1 xs)

    there : (o : Option CalleeTree) → slice_get m.callees n ≡ o → (xs : List Lists) → called_type (by_bodies j) (found (body_of (declared_in m)) o) xs ≡ call_type (option_map (header_of (within j)) o) xs
    there None e xs = refl
    there (Some c) e xs = callee_known c (ranked n c e) xs

  -- at one call more
  step : (j n : ℕ) → ((l : ℕ) → rank l < rank n → callee_within m j l ≡ callee_within m (length m.callees) l) → ((l : ℕ) → rank l < rank n → (λ xs. call_type (callee_within m j l) xs) ≡ calls_within m.signatures types (bodies_of m) j l)
      → (xs : List Lists) → calls_within m.signatures types (bodies_of m) (suc j) n xs ≡ call_type (callee_within m (suc j) n) xs
  step j n same known xs =
      ap (λ (b : Option PhraseTree). called_type (by_bodies j) b xs) (found_at (body_of (declared_in m)) m.callees n) ∙ there j n same known (slice_get m.callees n) refl xs

  -- a number that no predicate and no function has
  nobody : (k n : ℕ) → slice_get m.callees n ≡ None → (xs : List Lists) → calls_within m.signatures types (bodies_of m) k n xs ≡ call_type (callee_within m k n) xs
  nobody zero n e xs = refl
  nobody (suc j) n e xs =
      ap (λ (b : Option PhraseTree). called_type (by_bodies j) b xs) (found_at (body_of (declared_in m)) m.callees n ∙ ap (found (body_of (declared_in m))) e)
      ∙ ap (λ (o : Option CalleeTree). call_type (option_map (header_of (within j)) o) xs) (sym e)

  calls_by_ranks : (k n : ℕ) → rank n < k → k ≤ length m.callees → (xs : List Lists) → calls_within m.signatures types (bodies_of m) k n xs ≡ call_type (callee_within m k n) xs
  calls_by_ranks zero n below high xs = absurd (omega arith)
  calls_by_ranks (suc j) n below high xs =
      step j n (λ l lower. headers_by_ranks m rank j (length m.callees) l ranked (omega (arith, lower, below)) (omega (arith, lower, below, high)))
      (λ l lower. λ i. λ ys. sym (calls_by_ranks j l (omega (arith, lower, below)) (omega (arith, high)) ys) i) xs

  pub calls_by_bodies : (n : ℕ) (xs : List Lists) → calls_within m.signatures types (bodies_of m) (length m.callees) n xs ≡ call_type ((declared_in m).callee n) xs
  calls_by_bodies n xs = go (slice_get m.callees n) refl
    where
      go : (o : Option CalleeTree) → slice_get m.callees n ≡ o → calls_within m.signatures types (bodies_of m) (length m.callees) n xs ≡ call_type ((declared_in m).callee n) xs
      go None e = nobody (length m.callees) n e xs
      go (Some c) e = calls_by_ranks (length m.callees) n (low n c e) (omega arith) xs
