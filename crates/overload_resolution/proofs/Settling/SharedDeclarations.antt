-- Parts are settled alike over the same declarations, the same local names and the same signatures, as far as their shared
-- names ask.
use Rattle.std.proofs.Common.{◌≡◌, ℕ, zero, suc, Bool, true, false, ◌||◌, List, [], ◌∷◌, Option, Some, None, Result, Ok, Err, refl, sym, ap, ◌∙◌, true≢false}
use Rattle.std.specs.List.{slice_get}
use Rattle.std.specs.Option.{option_map}
use Rattle.alloy_lex.specs.declared.token.Place.{Place}
use Rattle.named_model.specs.declared.phrase.Referent.{Referent}
use Rattle.named_model.specs.declared.phrase.Referent.TheVariants as referent
use Rattle.named_model.specs.Answers.{◌>>=◌}
use Rattle.named_model.specs.Phrase.{PhraseTree, refers, PhraseTrees}
use Rattle.model_types.specs.declared.fault.TypeFault.{TypeFault}
use Rattle.model_types.specs.declared.fault.TypeFault.TheVariants as fault
use Rattle.model_types.specs.Bounding.{types_of}
use Rattle.model_types.specs.Sorts.{relation}
use Rattle.model_types.specs.Typing.{Local, Declared, Settled, types_in, type_in, local_types, is_field, chosen, field_name, the_one, referent_settled, onto}
use Rattle.overload_resolution.specs.Fields.Alike.{AreAlike}
use Rattle.overload_resolution.proofs.Fields.Fitting.{same_fitting}
use Rattle.overload_resolution.specs.Names.Shared.{shared_in}
use Rattle.overload_resolution.specs.Expressions.Types.{AreEachSame}
use Rattle.overload_resolution.specs.Settling.Inside.{AreSameWhere, AreAlikeWhere}
use Rattle.overload_resolution.specs.Settling.Same.{AreSameTypes, AreSameTops, Asks}
use Rattle.overload_resolution.proofs.Settling.Typed.{type_alike, types_alike}

pub asks_left : (a b asked : Bool) → Asks (a || b) asked → Asks a asked
asks_left true b asked h e = h refl
asks_left false b asked h e = absurd (true≢false (sym e))

pub asks_right : (a b asked : Bool) → Asks (a || b) asked → Asks b asked
asks_right true b asked h e = h refl
asks_right false b asked h e = h e

-- a name of several fields, by the same signatures
pub shared_alike : (d : Declared) (tops ts : List ℕ) (p : Place) (f : ℕ) → AreAlike tops ts → (chosen d tops p f >>= λ g. is_field d p g) ≡ (chosen d ts p f >>= λ g. is_field d p g)
shared_alike d tops ts p f h = ap (λ r. r >>= λ g. is_field d p g) (ap (the_one p) (same_fitting tops ts (field_name (slice_get d.fields f)) h 0 d.fields))

module _ (asked : Bool) where
  pub alike_refl : (ls : List Local) → AreAlikeWhere asked ls ls
  alike_refl [] = tt
  alike_refl (l ∷ ls) = (refl, (λ a t. refl), alike_refl ls)

  pub alike_then : (ls ms ns : List Local) → AreAlikeWhere asked ls ms → AreAlikeWhere asked ms ns → AreAlikeWhere asked ls ns
  alike_then [] [] [] h k = tt
  alike_then [] [] (n ∷ ns) h k = absurd k
  alike_then [] (m ∷ ms) ns h k = absurd h
  alike_then (l ∷ ls) [] ns h k = absurd h
  alike_then (l ∷ ls) (m ∷ ms) [] h k = absurd k
  alike_then (l ∷ ls) (m ∷ ms) (n ∷ ns) h k = (h.0 ∙ k.0, (λ a t. h.1 a t ∙ k.1 a t), alike_then ls ms ns h.2 k.2)

  pub alike_onto : (n : ℕ) (l m : Local) (ls ms : List Local) → l.arity ≡ m.arity → AreSameWhere asked l.type m.type → AreAlikeWhere asked ls ms → AreAlikeWhere asked (onto n l ls) (onto n m ms)
  alike_onto zero l m ls ms e s h = h
  alike_onto (suc n) l m ls ms e s h = (e, s, alike_onto n l m ls ms e s h)

  pub types_each : (ls ms : List Local) → asked ≡ true → AreAlikeWhere asked ls ms → AreEachSame (local_types ls) (local_types ms)
  types_each [] [] a h = tt
  types_each [] (m ∷ ms) a h = absurd h
  types_each (l ∷ ls) [] a h = absurd h
  types_each (l ∷ ls) (m ∷ ms) a h = (h.1 a, types_each ls ms a h.2)

  arity_alike : (ls ms : List Local) (i : ℕ) → AreAlikeWhere asked ls ms → option_map (λ (l : Local). l.arity) (slice_get ls i) ≡ option_map (λ (l : Local). l.arity) (slice_get ms i)
  arity_alike [] [] i h = refl
  arity_alike [] (m ∷ ms) i h = absurd h
  arity_alike (l ∷ ls) [] i h = absurd h
  arity_alike (l ∷ ls) (m ∷ ms) zero h = ap Some h.0
  arity_alike (l ∷ ls) (m ∷ ms) (suc i) h = arity_alike ls ms i h.2

  module _ (d : Declared) (s : AreSameTypes (types_in d) (types_in d)) where
    abbrev local_is : Place → ℕ → Option Local → Result Settled TypeFault
    local_is p i o = elim o [
      | None ↦ Err (fault.Sort p)
      | Some l ↦ Ok (record { tree = refers p (referent.Local i); kind = relation l.arity })
    ]

    abbrev by_arity : Place → ℕ → Option ℕ → Result Settled TypeFault
    by_arity p i None = Err (fault.Sort p)
    by_arity p i (Some n) = Ok (record { tree = refers p (referent.Local i); kind = relation n })

    local_by_arity : (p : Place) (i : ℕ) (o : Option Local) → local_is p i o ≡ by_arity p i (option_map (λ (l : Local). l.arity) o)
    local_by_arity p i None = refl
    local_by_arity p i (Some l) = refl

    pub referents_alike : (ls ms : List Local) (tops ts : List ℕ) (p : Place) (r : Referent) → AreAlikeWhere asked ls ms → Asks (shared_in (refers p r)) asked → AreSameTops asked tops ts
        → referent_settled d ls tops p r ≡ referent_settled d ms ts p r
    referents_alike ls ms tops ts p (referent.Signature n) h a k = refl
    referents_alike ls ms tops ts p (referent.Field f) h a k = refl
    referents_alike ls ms tops ts p (referent.Shared f) h a k = shared_alike d tops ts p f (k (a refl))
    referents_alike ls ms tops ts p (referent.Local i) h a k =
        local_by_arity p i (slice_get ls i) ∙ ap (by_arity p i) (arity_alike ls ms i h) ∙ sym (local_by_arity p i (slice_get ms i))

    pub type_where : (ls ms : List Local) (x : PhraseTree) → AreAlikeWhere asked ls ms → AreSameWhere asked (type_in d ls x) (type_in d ms x)
    type_where ls ms x h a = type_alike (types_in d) (types_in d) s (local_types ls) (local_types ms) (types_each ls ms a h) x

    pub types_where : (ls ms : List Local) (xs : PhraseTrees) (a : asked ≡ true) → AreAlikeWhere asked ls ms → AreEachSame (types_of (types_in d) (local_types ls) xs) (types_of (types_in d) (local_types ms) xs)
    types_where ls ms xs a h = types_alike (types_in d) (types_in d) s (local_types ls) (local_types ms) (types_each ls ms a h) xs
