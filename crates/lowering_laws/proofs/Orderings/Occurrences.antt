-- Where a name stands in a list of things with names: its number, and that it stands once.
use Rattle.std.specs.Prelude.{flat_map, drop, bytes_eq}
use Rattle.std.proofs.Common.{◌≡◌, inl, inr, ℕ, suc, ◌+◌, true, false, List, [], ◌∷◌, ◌++◌, map, length, slice_get, Some, None, Contains, append_assoc, refl, sym, ◌∙◌, ap, subst, arith, add-zero, zero-add}
use Rattle.std.specs.List.{position_from}
use Rattle.std.proofs.lemmas.Bool.{cases_Bool}
use Rattle.std.proofs.lemmas.List.{map-append}
use Rattle.std.proofs.lemmas.List.Quantifiers.{position-Some}
use Rattle.std.proofs.lemmas.List.Folds.{list_any_at}
use Rattle.std.proofs.lemmas.List.Elements.{Contains-append_cases}
use Rattle.std.proofs.lemmas.Iterator.Adapters.{position_from-zero}
use Rattle.std.proofs.lemmas.Slice.Eq.{bytes_eq-Decides}
use Rattle.rel_formula.proofs.OpenCells.{cons_first, cons_later, cons_cases}
use Rattle.named_model.specs.Names.{number_of, is_among}
use Rattle.lowering_rules.proofs.Arities.{behind}
use Rattle.lowering_laws.proofs.Orderings.Lines.{none_in}

-- ---- texts

pub same_text : (a b : List ℕ) → bytes_eq a b ≡ true → a ≡ b
same_text a b e = (bytes_eq-Decides a b).0 e

pub text_same : (a b : List ℕ) → a ≡ b → bytes_eq a b ≡ true
text_same a b e = (bytes_eq-Decides a b).1 e

pub texts_apart : (a b : List ℕ) → (a ≡ b → ⊥) → bytes_eq a b ≡ false
texts_apart a b differ = elim (cases_Bool (bytes_eq a b)) [
  | inl same ↦ absurd (differ (same_text a b same))
  | inr apart ↦ apart
]

-- ---- a thing, before which none has its name

pub record StandsFirst {X : Type 0} (name : X → List ℕ) (xs : List X) (one : X) : Type 0 where
  pub before : List X
  pub after : List X
  pub whole : xs ≡ before ++ one ∷ after
  pub none : (x : X) → Contains before x → name x ≡ name one → ⊥

-- and behind which none has it
pub record StandsOnce {X : Type 0} (name : X → List ℕ) (xs : List X) (one : X) : Type 0 where
  pub first : StandsFirst name xs one
  pub last : (x : X) → Contains first.after x → name x ≡ name one → ⊥

module _ {X : Type 0} (name : X → List ℕ) where
  found_from : (k : ℕ) (before : List X) (one : X) (after : List X) (text : List ℕ) → name one ≡ text → ((x : X) → Contains before x → name x ≡ text → ⊥) →
      position_from (λ n. bytes_eq n text) k (map name (before ++ one ∷ after)) ≡ Some (k + length before)
  found_from k [] one after text e none = rw (text_same (name one) text e) (ap Some (sym (add-zero k)))
  found_from k (x ∷ before) one after text e none =
      let differ : bytes_eq (name x) text ≡ false = texts_apart (name x) text (none x (cons_first x before)) in
      let rest = found_from (k + 1) before one after text e (λ y c. none y (cons_later x before y c)) in
      rw differ (rest ∙ ap Some (omega arith))

  pub number_is : (xs : List X) (one : X) (is : StandsFirst name xs one) → number_of (map name xs) (name one) ≡ Some (length is.before)
  number_is xs one is =
      position_from-zero (λ n. bytes_eq n (name one)) (map name xs)
      ∙ ap (λ ys. position_from (λ n. bytes_eq n (name one)) 0 (map name ys)) is.whole
      ∙ found_from 0 is.before one is.after (name one) refl is.none
      ∙ ap Some (zero-add (length is.before))

  pub place_is : (xs : List X) (one : X) (is : StandsFirst name xs one) → slice_get xs (length is.before) ≡ Some one
  place_is xs one is =
      ap (λ ys. slice_get ys (length is.before)) is.whole
      ∙ ap (slice_get (is.before ++ one ∷ is.after)) (sym (add-zero (length is.before)))
      ∙ behind is.before (one ∷ is.after) 0

  not_among : (xs : List X) (text : List ℕ) → ((x : X) → Contains xs x → name x ≡ text → ⊥) → is_among (map name xs) text ≡ false
  not_among [] text none = refl
  not_among (x ∷ xs) text none = rw (texts_apart (name x) text (none x (cons_first x xs))) (not_among xs text (λ y c. none y (cons_later x xs y c)))

  dropped : (before : List X) (one : X) (after : List X) → drop (length before + 1) (map name (before ++ one ∷ after)) ≡ map name after
  dropped [] one after = refl
  dropped (x ∷ before) one after =
      let count : length (x ∷ before) + 1 ≡ suc (length before + 1) = omega arith in
      ap (λ k. drop k (map name (x ∷ before ++ one ∷ after))) count ∙ dropped before one after

  pub no_later : (xs : List X) (one : X) (is : StandsOnce name xs one) → is_among (drop (length is.first.before + 1) (map name xs)) (name one) ≡ false
  no_later xs one is =
      ap (λ ys. is_among (drop (length is.first.before + 1) (map name ys)) (name one)) is.first.whole
      ∙ ap (λ ns. is_among ns (name one)) (dropped is.first.before one is.first.after)
      ∙ not_among is.first.after (name one) is.last

  -- ---- in longer lists

  pub first_left : (xs ys : List X) (one : X) → StandsFirst name xs one → StandsFirst name (xs ++ ys) one
  first_left xs ys one is = record {
    before = is.before;
    after = is.after ++ ys;
    whole = ap (λ zs. zs ++ ys) is.whole ∙ append_assoc is.before (one ∷ is.after) ys;
    none = is.none;
  }

  pub first_right : (xs ys : List X) (one : X) → ((x : X) → Contains xs x → name x ≡ name one → ⊥) → StandsFirst name ys one → StandsFirst name (xs ++ ys) one
  first_right xs ys one differ is = record {
    before = xs ++ is.before;
    after = is.after;
    whole = ap (λ zs. xs ++ zs) is.whole ∙ sym (append_assoc xs is.before (one ∷ is.after));
    none = λ x c e. elim (Contains-append_cases xs is.before x c) [ inl front ↦ differ x front e | inr later ↦ is.none x later e ];
  }

  pub once_left : (xs ys : List X) (one : X) → StandsOnce name xs one → ((x : X) → Contains ys x → name x ≡ name one → ⊥) → StandsOnce name (xs ++ ys) one
  unfolding first_left
  once_left xs ys one is differ = record {
    first = first_left xs ys one is.first;
    last = λ x c e. elim (Contains-append_cases is.first.after ys x c) [ inl front ↦ is.last x front e | inr later ↦ differ x later e ];
  }

  pub once_right : (xs ys : List X) (one : X) → ((x : X) → Contains xs x → name x ≡ name one → ⊥) → StandsOnce name ys one → StandsOnce name (xs ++ ys) one
  unfolding first_right
  once_right xs ys one differ is = record { first = first_right xs ys one differ is.first; last = is.last }

  pub first_head : (one : X) (xs : List X) → StandsFirst name (one ∷ xs) one
  first_head one xs = record { before = []; after = xs; whole = refl; none = λ x c e. none_in x c }

  pub once_head : (one : X) (xs : List X) → ((x : X) → Contains xs x → name x ≡ name one → ⊥) → StandsOnce name (one ∷ xs) one
  unfolding first_head
  once_head one xs differ = record { first = first_head one xs; last = differ }

-- a name that no thing has
pub no_number : (names : List (List ℕ)) (text : List ℕ) → ((n : List ℕ) → Contains names n → n ≡ text → ⊥) → number_of names text ≡ None
no_number names text none = position_from-zero (λ n. bytes_eq n text) names ∙ missed 0 names none
  where
    missed : (k : ℕ) (ns : List (List ℕ)) → ((n : List ℕ) → Contains ns n → n ≡ text → ⊥) → position_from (λ n. bytes_eq n text) k ns ≡ None
    missed k [] differ = refl
    missed k (n ∷ ns) differ = rw (texts_apart n text (differ n (cons_first n ns))) (missed (k + 1) ns (λ m c. differ m (cons_later n ns m c)))

-- a name with a number is among them
pub number_there : (names : List (List ℕ)) (text : List ℕ) (k : ℕ) → number_of names text ≡ Some k → is_among names text ≡ true
number_there names text k e = let at = position-Some (λ n. bytes_eq n text) names k [] e in list_any_at (λ n. bytes_eq n text) names k [] at.0 at.1

-- ---- flat maps

pub flat_map_has : {P X : Type 0} (k : P → List X) (ps : List P) (x : X) → Contains (flat_map k ps) x → (p : P) × Contains ps p × Contains (k p) x
flat_map_has k [] x c = absurd (none_in x c)
flat_map_has k (p ∷ ps) x c = elim (Contains-append_cases (k p) (flat_map k ps) x c) [
  | inl here ↦ (p, cons_first p ps, here)
  | inr later ↦ let there = flat_map_has k ps x later in (there.0, cons_later p ps there.0 there.1, there.2)
]

pub flat_names : {P X Y N : Type 0} (k : P → List X) (l : P → List Y) (u : X → N) (v : Y → N) → ((p : P) → map u (k p) ≡ map v (l p)) → (ps : List P) → map u (flat_map k ps) ≡ map v (flat_map l ps)
flat_names k l u v same [] = refl
flat_names k l u v same (p ∷ ps) =
    map-append u (k p) (flat_map k ps)
    ∙ (let rest = flat_names k l u v same ps in λ i. same p i ++ rest i)
    ∙ sym (map-append v (l p) (flat_map l ps))

-- none is so related to a later one
abbrev pub Differing : {P : Type 0} → (P → P → Type 0) → List P → Type 0
Differing {P} R [] = Unit {0}
Differing {P} R (p ∷ ps) = ((q : P) → Contains ps q → R p q → ⊥) × Differing R ps

-- things of one of many parts, where the others have none of their names
pub once_among : {P X : Type 0} (name : X → List ℕ) (k : P → List X) (ps : List P) (p : P) (one : X) → Contains ps p → StandsOnce name (k p) one
    → (R : P → P → Type 0) → Differing R ps → ((q : P) (x : X) → Contains (k q) x → name x ≡ name one → R q p × R p q) → StandsOnce name (flat_map k ps) one
once_among name k [] p one c is R apart others = absurd (none_in p c)
once_among name k (q ∷ qs) p one c is R apart others = elim (cons_cases q qs p c) [
  | inl same ↦
      let here = subst (λ z. StandsOnce name (k z) one) (sym same) is in
      once_left name (k q) (flat_map k qs) one here (
      λ x d e.
      let there = flat_map_has k qs x d in
      apart.0 there.0 there.1 (subst (λ z. R z there.0) (sym same) (others there.0 x there.2 e).1))
  | inr later ↦ once_right name (k q) (flat_map k qs) one (λ x d e. apart.0 p later (others q x d e).0) (once_among name k qs p one later is R apart.1 others)
]
