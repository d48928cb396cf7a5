-- Things with what their outcomes put into them: from the last to the first, and all at once.
use Rattle.std.proofs.Common.{◌≡◌, ℕ, ◌+◌, ◌<◌, ◌≤◌, List, [], ◌∷◌, ◌++◌, map, length, take, drop, get_or, Some, Result, Ok, Err, refl, sym, ap, ◌∙◌, arith}
use Rattle.std.specs.List.{slice_get, slice_set}
use Rattle.std.proofs.Math.Seq.{set-append_seam}
use Rattle.std.proofs.lemmas.List.{append_assoc, append-nil, take-append-drop, take_more, drop_more, length-take-le, length-append}
use Rattle.named_model.specs.Answers.{◌>>=◌}
use Rattle.model_types.specs.declared.fault.TypeFault.{TypeFault}
use Rattle.model_types.specs.Models.{or_same}
use Rattle.alloy_types.specs.Outcomes.{outcome_view, with_outcomes, the_other}

with_none : {X Y : Type 0} (put : X → Y → X) (xs : List X) → with_outcomes put xs [] ≡ xs
with_none put [] = refl
with_none put (x ∷ xs) = refl

-- an element, where there is one
some_of : {X : Type 0} (n : ℕ) (xs : List X) → n < length xs → X
some_of n [] l = absurd (omega (arith, l))
some_of n (x ∷ xs) l = x

module _ {X Y : Type 0} (put : X → Y → X) (old : List X) (all : List (Result Y TypeFault)) where
  -- what is left, and what was done from the last one on
  pub record AreSettled (left : List (Result Y TypeFault)) (now : List X) : Type 0 where
    pub done : List (Result Y TypeFault)
    pub all_are : all ≡ left ++ done
    pub now_is : now ≡ take (length left) old ++ with_outcomes put (drop (length left) old) done

  pub settled_start : AreSettled all old
  settled_start = record {
    done = [];
    all_are = sym (append-nil all);
    now_is = sym (ap (λ (xs : List X). take (length all) old ++ xs) (with_none put (drop (length all) old)) ∙ take-append-drop (length all) old);
  }

  pub settled_end : (left : List (Result Y TypeFault)) (now : List X) → left ≡ [] → AreSettled left now → now ≡ with_outcomes put old all
  settled_end left now none are =
      are.now_is ∙ ap (λ (ls : List (Result Y TypeFault)). take (length ls) old ++ with_outcomes put (drop (length ls) old) are.done) none
      ∙ ap (with_outcomes put old) (sym (are.all_are ∙ ap (λ (ls : List (Result Y TypeFault)). ls ++ are.done) none))

  module _ (long : length all ≤ length old) (left rest : List (Result Y TypeFault)) (r : Result Y TypeFault) (popped : left ≡ rest ++ r ∷ []) (now : List X) (are : AreSettled left now) where
    all_left : all ≡ rest ++ r ∷ are.done
    all_left = are.all_are ∙ ap (λ (ls : List (Result Y TypeFault)). ls ++ are.done) popped ∙ append_assoc rest (r ∷ []) are.done

    left_long : length left ≡ length rest + 1
    left_long = ap length popped ∙ length-append rest (r ∷ [])

    within : length rest < length old
    within = let whole = ap length all_left ∙ length-append rest (r ∷ are.done) in omega arith

    abbrev here : X
    here = get_or old (length rest) (some_of (length rest) old within)

    abbrev behind : List X
    behind = with_outcomes put (drop (length rest + 1) old) are.done

    in_front : length (take (length rest) old) ≡ length rest
    in_front = length-take-le (length rest) old (omega (arith, within))

    now_was : now ≡ take (length rest) old ++ here ∷ behind
    now_was =
        are.now_is ∙ ap (λ n. take n old ++ with_outcomes put (drop n old) are.done) left_long
        ∙ ap (λ (xs : List X). xs ++ behind) (take_more old (length rest) (some_of (length rest) old within) within)
        ∙ append_assoc (take (length rest) old) (here ∷ []) behind

    drops : drop (length rest) old ≡ here ∷ drop (length rest + 1) old
    drops = drop_more old (length rest) (some_of (length rest) old within) within

    pub inside_now : length rest < length now
    inside_now = let long_now = ap length now_was ∙ length-append (take (length rest) old) (here ∷ behind) in omega (arith, in_front)

    pub settled_fault : (e : TypeFault) → r ≡ Err e → AreSettled rest now
    settled_fault e is = record {
      done = r ∷ are.done;
      all_are = all_left;
      now_is = now_was ∙ ap (λ (xs : List X). take (length rest) old ++ xs) (sym (ap (λ (xs : List X). with_outcomes put xs (r ∷ are.done)) drops ∙ ap (λ (q : Result Y TypeFault). with_outcomes put (here ∷ drop (length rest + 1) old) (q ∷ are.done)) is));
    }

    seam : (z : X) → slice_set now (length rest) z ≡ take (length rest) old ++ z ∷ behind
    seam z =
        ap (λ (xs : List X). slice_set xs (length rest) z) now_was ∙ ap (λ n. slice_set (take (length rest) old ++ here ∷ behind) n z) (sym in_front)
        ∙ set-append_seam (take (length rest) old) here behind z

    found : slice_get now (length rest) ≡ Some here
    found = ap (λ (xs : List X). slice_get xs (length rest)) now_was ∙ ap (λ n. slice_get (take (length rest) old ++ here ∷ behind) n) (sym in_front) ∙ get_seam (take (length rest) old)
      where
        get_seam : (xs : List X) → slice_get (xs ++ here ∷ behind) (length xs) ≡ Some here
        get_seam [] = refl
        get_seam (x ∷ xs) = get_seam xs

    pub settled_thing : (y : Y) (z : X) (new : List X) → r ≡ Ok y → ((x : X) → slice_get now (length rest) ≡ Some x → z ≡ put x y) → new ≡ slice_set now (length rest) z → AreSettled rest new
    settled_thing y z new is puts set = record {
      done = r ∷ are.done;
      all_are = all_left;
      now_is =
          set ∙ seam z ∙ ap (λ (x : X). take (length rest) old ++ x ∷ behind) (puts here found)
          ∙ ap (λ (xs : List X). take (length rest) old ++ xs) (sym (ap (λ (xs : List X). with_outcomes put xs (r ∷ are.done)) drops ∙ ap (λ (q : Result Y TypeFault). with_outcomes put (here ∷ drop (length rest + 1) old) (q ∷ are.done)) is));
    }

-- seen by `see`
pub with_outcomes_seen : {X Y : Type 0} (see : X → Y) (xs : List X) (rs : List (Result X TypeFault)) → map see (with_outcomes the_other xs rs) ≡ with_outcomes the_other (map see xs) (map (outcome_view see) rs)
with_outcomes_seen see [] rs = refl
with_outcomes_seen see (x ∷ xs) [] = refl
with_outcomes_seen see (x ∷ xs) (Ok y ∷ rs) = ap (λ ys. see y ∷ ys) (with_outcomes_seen see xs rs)
with_outcomes_seen see (x ∷ xs) (Err e ∷ rs) = ap (λ ys. see x ∷ ys) (with_outcomes_seen see xs rs)

-- outcomes of the things themselves
module _ {X Y : Type 0} (put : X → Y → X) (f : X → Result Y TypeFault) where
  one_settled : (x : X) (xs ys : List X) (rs : List (Result Y TypeFault)) (r : Result Y TypeFault) → f x ≡ r → with_outcomes put xs rs ≡ ys
      → with_outcomes put (x ∷ xs) (r ∷ rs) ≡ or_same (λ (z : X). f z >>= λ y. Ok (put z y)) x ∷ ys
  one_settled x xs ys rs (Ok y) is rest =
      ap (λ zs. put x y ∷ zs) rest ∙ ap (λ (q : Result Y TypeFault). elim (q >>= λ y. Ok (put x y)) [ Ok z ↦ z | Err e ↦ x ] ∷ ys) (sym is)
  one_settled x xs ys rs (Err e) is rest =
      ap (λ zs. x ∷ zs) rest ∙ ap (λ (q : Result Y TypeFault). elim (q >>= λ y. Ok (put x y)) [ Ok z ↦ z | Err e ↦ x ] ∷ ys) (sym is)

  pub with_own : (xs : List X) → with_outcomes put xs (map f xs) ≡ map (or_same (λ (x : X). f x >>= λ y. Ok (put x y))) xs
  with_own [] = refl
  with_own (x ∷ xs) = one_settled x xs (map (or_same (λ (z : X). f z >>= λ y. Ok (put z y))) xs) (map f xs) (f x) refl (with_own xs)

abbrev or_this : {X : Type 0} → X → Result X TypeFault → X
or_this x (Ok y) = y
or_this x (Err e) = x

or_this_is : {X : Type 0} (f : X → Result X TypeFault) (x : X) (r : Result X TypeFault) → f x ≡ r → or_same f x ≡ or_this x r
or_this_is {X = X} f x (Ok y) is = ap (λ (q : Result X TypeFault). elim q as (λ _. X) [ Ok z ↦ z | Err e ↦ x ]) is
or_this_is {X = X} f x (Err e) is = ap (λ (q : Result X TypeFault). elim q as (λ _. X) [ Ok z ↦ z | Err e ↦ x ]) is

-- what has a value is the value
same_other : {X : Type 0} (f : X → Result X TypeFault) (x : X) (r : Result X TypeFault) → f x ≡ r → or_same (λ (z : X). f z >>= λ y. Ok (the_other z y)) x ≡ or_this x r
same_other f x (Ok y) is = or_this_is (λ z. f z >>= λ y. Ok (the_other z y)) x (Ok y) (ap (λ r. r >>= λ y. Ok (the_other x y)) is)
same_other f x (Err e) is = or_this_is (λ z. f z >>= λ y. Ok (the_other z y)) x (Err e) (ap (λ r. r >>= λ y. Ok (the_other x y)) is)

or_same_other : {X : Type 0} (f : X → Result X TypeFault) (x : X) → or_same (λ (z : X). f z >>= λ y. Ok (the_other z y)) x ≡ or_same f x
or_same_other f x = same_other f x (f x) refl ∙ sym (or_this_is f x (f x) refl)

pub with_own_same : {X : Type 0} (f : X → Result X TypeFault) (xs : List X) → with_outcomes the_other xs (map f xs) ≡ map (or_same f) xs
with_own_same f xs = with_own the_other f xs ∙ (λ i. map (λ x. or_same_other f x i) xs)
