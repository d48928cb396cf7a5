-- The rule that the steps keep says all that holds between any two.
use Rattle.std.proofs.Common.{◌≡◌, ◌⊎◌, inl, inr, ⊎_elim, ℕ, zero, suc, ◌<◌, ◌≤◌, Bool, true, false, true≢false, List, [], ◌∷◌, length, lt_of_not-le, slice_index, Option, Some, None, IsSome, refl, sym, ap, ◌∙◌, subst, arith}
use mathlib.Core.Option.{some, some-injective}
use mathlib.Core.Logic.{dite}
use native.Mathlib.Decide.{ℕ_discrete, dec_le}
use lib.ListN.{get_elem?}
use Rattle.atomic_table.specs.Table.{State}
use Rattle.hub_lock.specs.declared.view.View.{View}
use Rattle.hub_lock.specs.Passes.{has, of_pass}
use Rattle.hub_lock.specs.Between.{HasView, IsInTurn, IsHome, HoldsBetweenSteps}
use Rattle.hub_lock.specs.Orderly.{turn_at, IsOrderly}
use Rattle.hub_lock.proofs.Lists.{there_below}
use Rattle.hub_lock.proofs.TurnTaking.{turn_here, taken_turn}

there_at : {A : Type 0} (l : List A) (i : ℕ) → i < length l → (a : A) × (get_elem? l i ≡ some a)
there_at [] i lt = absurd (omega arith)
there_at (x ∷ xs) zero lt = (x, refl)
there_at (x ∷ xs) (suc i) lt = there_at xs i (omega arith)

some_of : {A : Type 0} (o : Option A) → IsSome o → (a : A) × (o ≡ Some a)
some_of None h = absurd (true≢false (sym h))
some_of (Some a) h = (a, refl)

true_or_false : (b : Bool) → (b ≡ true) ⊎ (b ≡ false)
true_or_false true = inl refl
true_or_false false = inr refl

module _ {T E B : Type 0} (by : E → ℕ) (entries : T → List E) (base : T → B) (start : B) (s : State (Option T) (View E B)) (o : IsOrderly by entries base start s) where
  word_is : slice_index s.words 0 ≡ o.word
  word_is = ap (λ (ws : List ℕ). slice_index ws 0) o.words

  -- who is in turn holds it, and found the list
  in_turn_is : (i : ℕ) (v : View E B) → HasView s.views i v → IsInTurn v → (o.word ≡ 1) × (o.holder ≡ i) × (v.turn ≡ Some o.log)
  in_turn_is i v h it =
      let t = some_of v.turn it in
      let q = taken_turn o.word o.holder i o.log t.0 (sym t.1 ∙ o.turns i v h) in
      (q.0, q.1, t.1 ∙ ap Some q.2)

  at_home_is : (value : T) → IsHome s value → (entries value ≡ o.log) × (base value ≡ start)
  at_home_is value is = dite (ℕ_discrete o.word 1)
      (λ one. let q : some (some (Some value)) ≡ some mathlib.Core.Option.none = sym is ∙ o.away one in absurd (cc))
      (λ ne.
      let h = o.home (omega (arith, o.bit)) in
      let q : some (some (Some h.0)) ≡ some (some (Some value)) = sym h.1 ∙ is in
      let same : h.0 ≡ value = cc in
      subst (λ (x : T). (entries x ≡ o.log) × (base x ≡ start)) same (h.2, h.3))

  first_is : o.front.number ≡ 0
  first_is = (o.each 0 o.front o.front_is).number

  -- a number that was taken back is a spent seat's
  was_made : (n : ℕ) → has o.front.joined n ≡ true → n < length s.views
  was_made n is_in = dite (dec_le (suc n) (length s.views)) (λ lt. lt) (λ ge. absurd (true≢false (sym is_in ∙ o.not_made n (omega (arith, lt_of_not-le ge)))))

  pub between : HoldsBetweenSteps by entries base start s
  between = record {
    log = o.log;
    front = o.front;
    first = (o.front_is, first_is);
    differ = λ i j v w hv hw e. sym (o.each i v hv).number ∙ (e ∙ (o.each j w hw).number);
    made = λ i v h. omega (arith, (o.each i v h).number, there_below s.views i v h.0, o.made);
    live = o.live;
    bit = subst (λ (n : ℕ). n ≤ 1) (sym word_is) o.bit;
    one_in_turn = λ i j v w hv hw iv iw. sym (in_turn_is i v hv iv).1 ∙ (in_turn_is j w hw iw).1;
    held = (
      λ one. let is = sym word_is ∙ one in let t = o.held is in
          (o.holder, t.0, t.1, subst IsSome (sym (o.turns o.holder t.0 t.1 ∙ (ap (λ (n : ℕ). turn_at n o.holder o.holder o.log) is ∙ turn_here o.holder o.log))) refl),
      λ t. word_is ∙ (in_turn_is t.0 t.1 t.2 t.3).0,
    );
    count = ap (λ (ws : List ℕ). slice_index ws 1) o.words;
    home = λ free. let h = o.home (sym word_is ∙ free) in (h.0, h.1);
    at_home = λ value is. (at_home_is value is).0;
    found = λ i v h it. (in_turn_is i v h it).2;
    seen = λ i v h. (o.each i v h).seen;
    whole = o.known;
    numbers = o.numbers;
    own = λ i v h. let f = o.each i v h in (ap (λ (n : ℕ). of_pass by n o.log) f.number ∙ f.own, ap (λ (n : ℕ). of_pass by n v.seen) f.number ∙ f.own_seen);
    joined = λ n. (
      λ is_in. (
        nonzero n is_in,
        omega (arith, was_made n is_in, o.made),
        λ i v h e. true≢false (sym is_in ∙ (o.joined n v (subst (λ (k : ℕ). get_elem? s.views k ≡ some v) (sym (o.each i v h).number ∙ e) h.0) ∙ h.1)),
      ),
      λ t. let u = there_at s.views n (omega (arith, t.1, o.made)) in
          ⊎_elim (λ gone. o.joined n u.0 u.1 ∙ gone) (λ live. absurd (t.2 n u.0 (u.1, live) (o.each n u.0 (u.1, live)).number)) (true_or_false u.0.spent),
    );
    joined_seen = o.joined_seen;
    last_join = o.last_join;
    base_of_each = λ i v h. (o.each i v h).base_is;
    base_at_home = λ value is. (at_home_is value is).1;
  }
    where
      nonzero : (n : ℕ) → has o.front.joined n ≡ true → 0 < n
      nonzero zero is_in = absurd (true≢false (sym is_in ∙ (o.joined 0 o.front o.front_is.0 ∙ o.front_is.1)))
      nonzero (suc n) is_in = omega arith
