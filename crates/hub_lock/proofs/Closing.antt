-- What is left when the first pass is the only one.
use Rattle.std.proofs.Common.{◌≡◌, ℕ, ◌+◌, ◌≤◌, false, List, Option, Some, None, All, sym, ap, ◌∙◌, subst, arith}
use mathlib.Core.Option.{some, some-injective}
use mathlib.Core.Logic.{dite}
use native.Mathlib.Decide.{ℕ_discrete}
use lib.ListN.{get_elem?}
use Rattle.atomic_table.specs.Table.{Final, Seen}
use Rattle.hub_lock.specs.declared.view.View.{View}
use Rattle.hub_lock.specs.Passes.{of_pass}
use Rattle.hub_lock.specs.Between.{HasView, live_of}
use Rattle.hub_lock.specs.Orderly.{turn_at, IsOrderly}
use Rattle.hub_lock.proofs.Lists.{at_one}
use Rattle.hub_lock.proofs.TurnTaking.{turn_here, front_is_mine}
use Rattle.hub_lock.proofs.Joining.{live_two}

module _ {T E B : Type 0} (by : E → ℕ) (entries : T → List E) (base : T → B) where
  -- the value that the first pass v is left with
  pub record IsLast (v : View E B) (value : T) : Type 0 where
    pub entries_are : entries value ≡ v.seen
    pub mine : of_pass by 0 (entries value) ≡ v.own
    pub numbers : All (λ e. by e ≤ v.made) (entries value)
    pub base_is : v.base ≡ Some (base value)

  pub in_some : (v : View E B) (value : T) → ((x : T) × (Some value ≡ Some x) × IsLast v x) → IsLast v value
  in_some v value t = let same : t.0 ≡ value = cc in subst (IsLast v) same t.2

module _ {T E B : Type 0} (by : E → ℕ) (entries : T → List E) (base : T → B) (start : B) where
  pub closes : (id : ℕ) (v : View E B) (ws : List ℕ) (xs : List (Option T)) → Final (Seen (IsOrderly by entries base start) id v) ws xs
      → v.number ≡ 0 → v.spent ≡ false → v.live ≡ 0 → v.turn ≡ None
      → (value : T) × (get_elem? xs 0 ≡ some (Some value)) × IsLast by entries base v value
  closes id v ws xs final zeroth live alone idle =
      let s = final.0 in
      let o = final.1.0 in
      let me : HasView s.views id v = (final.1.1, live) in
      let f = o.each id v me in
      let m : o.front ≡ v = front_is_mine by entries base start s o id v me (sym f.number ∙ zeroth) in
      let one : live_of s.views ≡ 1 = o.live ∙ ap (λ (n : ℕ). n + 1) (ap (λ (x : View E B). x.live) m ∙ alone) in
      let only : (seat : ℕ) (u : View E B) → HasView s.views seat u → (seat ≡ id) × (u ≡ v)
      = λ seat u h. dite (ℕ_discrete seat id)
      (λ e. (e, at_one s.views id u v (subst (λ (i : ℕ). get_elem? s.views i ≡ some u) e h.0) me.0))
      (λ ne. absurd (omega (arith, live_two s.views seat id u v ne h me))) in
      let free : o.word ≡ 0 = dite (ℕ_discrete o.word 1)
      (λ is. let t = o.held is in
      let same = (only o.holder t.0 t.1).0 in
      let q : None ≡ Some o.log = sym idle ∙ (o.turns id v me ∙ (ap (λ (n : ℕ). turn_at n o.holder id o.log) is ∙ (ap (λ (h : ℕ). turn_at 1 h id o.log) same ∙ turn_here id o.log))) in absurd (cc))
      (λ ne. omega (arith, o.bit)) in
      let home = o.home free in
      let k = o.known in
      let here : id ≡ 0 = sym f.number ∙ zeroth in (
        home.0,
        final.4 0 (Some home.0) home.1,
        record {
          entries_are = home.2 ∙ (sym k.3 ∙ ap (λ (x : View E B). x.seen) (only k.0 k.1 k.2).1);
          mine = ap (of_pass by 0) home.2 ∙ (ap (λ (n : ℕ). of_pass by n o.log) (sym here) ∙ f.own);
          numbers = subst (λ (l : List E). All (λ e. by e ≤ v.made) l) (sym home.2) (subst (λ (x : View E B). All (λ e. by e ≤ x.made) o.log) m o.numbers);
          base_is = f.base_is ∙ ap Some (sym home.3);
        },
      )

  -- the slot that the closed table has
  pub closed : (id : ℕ) (v : View E B) (ws : List ℕ) (xs : List (Option T)) → Final (Seen (IsOrderly by entries base start) id v) ws xs
      → v.number ≡ 0 → v.spent ≡ false → v.live ≡ 0 → v.turn ≡ None
      → (slot : Option T) → get_elem? xs 0 ≡ some slot → (value : T) × (slot ≡ Some value) × IsLast by entries base v value
  closed id v ws xs final zeroth live alone idle slot at =
      let t = closes id v ws xs final zeroth live alone idle in
      (t.0, some-injective slot (Some t.0) (sym at ∙ t.1), t.2)
