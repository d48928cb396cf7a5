-- A step that moves one pass's view keeps the rule.
use Rattle.std.proofs.Common.{◌≡◌, ◌≢◌, ◌⊎◌, inl, inr, ⊎_elim, ℕ, zero, suc, ◌+◌, ◌≤◌, Bool, true, false, true≢false, List, [], ◌∷◌, length, set, length-set, Option, Some, refl, sym, ap, ◌∙◌, subst, arith, if◌then◌else◌, All}
use mathlib.Core.List.{IsPrefix}
use mathlib.Core.Option.{some, some-injective, some-ne-none}
use mathlib.Core.Logic.{dite}
use native.Mathlib.Decide.{ℕ_discrete}
use lib.ListN.{get_elem?}
use base.Growing.{prefix_trans}
use Rattle.atomic_table.specs.Table.{State}
use Rattle.atomic_table.proofs.Lists.{at_set, set_here, set_else}
use Rattle.hub_lock.specs.declared.view.View.{View}
use Rattle.hub_lock.specs.declared.view.LastJoin.{LastJoin}
use Rattle.hub_lock.specs.Passes.{has, moved, of_pass, IsJoined}
use Rattle.hub_lock.specs.Between.{HasView, is_live, live_of}
use Rattle.hub_lock.specs.Orderly.{turn_at, Fits, IsAt, IsOrderly}
use Rattle.hub_lock.proofs.Lists.{there_below, at_one}

module _ {E B : Type 0} where
  -- a view that is set in the place of another of the same kind leaves the number of passes
  pub live_set : (vs : List (View E B)) (i : ℕ) (v w : View E B) → get_elem? vs i ≡ some v → w.spent ≡ v.spent → live_of (set vs i w) ≡ live_of vs
  live_set [] i v w e same = refl
  live_set (x ∷ vs) zero v w e same = ap (λ (b : Bool). (if b then 0 else 1) + live_of vs) (same ∙ ap (λ (y : View E B). y.spent) (sym (some-injective x v e)))
  live_set (x ∷ vs) (suc i) v w e same = ap (λ (n : ℕ). is_live x + n) (live_set vs i v w e same)

module _ {T E B : Type 0} (by : E → ℕ) (entries : T → List E) (base : T → B) (start : B) (s : State (Option T) (View E B)) (o : IsOrderly by entries base start s)
    (id : ℕ) (v : View E B) (me : HasView s.views id v) (seen own : List E) (turn : Option (List E)) where
  pub here : HasView (set s.views id (moved v seen own turn)) id (moved v seen own turn)
  here = (set_here s.views id (moved v seen own turn) (there_below s.views id v me.0), me.1)

  pub there : (seat : ℕ) (u : View E B) → seat ≢ id → HasView s.views seat u → HasView (set s.views id (moved v seen own turn)) seat u
  there seat u ne h = (set_else s.views id seat (moved v seen own turn) ne ∙ h.0, h.1)

  back : (seat : ℕ) (u : View E B) → HasView (set s.views id (moved v seen own turn)) seat u → ((seat ≡ id) × (moved v seen own turn ≡ u)) ⊎ ((seat ≢ id) × HasView s.views seat u)
  back seat u h = ⊎_elim inl (λ t. inr (t.0, (t.1, h.1))) (at_set s.views id seat (moved v seen own turn) u h.0)

  IsFrontAfter : View E B → Type 0
  IsFrontAfter f = ((id ≡ 0) × (f ≡ moved v seen own turn) × (o.front ≡ v)) ⊎ ((id ≢ 0) × (f ≡ o.front))

  front_after : (f : View E B) × HasView (set s.views id (moved v seen own turn)) 0 f × IsFrontAfter f
  unfolding IsFrontAfter
  front_after = dite (ℕ_discrete id 0)
      (λ z. (
        moved v seen own turn,
        subst (λ (i : ℕ). HasView (set s.views id (moved v seen own turn)) i (moved v seen own turn)) z here,
        inl (z, refl, at_one s.views 0 o.front v o.front_is.0 (subst (λ (i : ℕ). get_elem? s.views i ≡ some v) z me.0)),
      ))
      (λ nz. (o.front, there 0 o.front (λ e. nz (sym e)) o.front_is, inr (nz, refl)))

  same : {X : Type 0} (g : View E B → X) (f : View E B) → IsFrontAfter f → g (moved v seen own turn) ≡ g v → g f ≡ g o.front
  unfolding IsFrontAfter
  same g f is e = ⊎_elim (λ t. ap g t.1 ∙ (e ∙ ap g (sym t.2))) (λ t. ap g t.1) is

  pub moves : (word : ℕ) (log : List E) (holder : ℕ) (ws : List ℕ) (hs : List (mathlib.Core.Option.Option (Option T)))
      → ws ≡ word ∷ length log ∷ []
      → IsPrefix o.log log
      → ((n : ℕ) → n ≢ id → of_pass by n log ≡ of_pass by n o.log)
      → Fits by start log id (moved v seen own turn)
      → word ≤ 1
      → turn ≡ turn_at word holder id log
      → ((seat : ℕ) → seat ≢ id → turn_at o.word o.holder seat o.log ≡ turn_at word holder seat log)
      → (word ≡ 1 → holder ≡ id)
      → (word ≡ 1 → get_elem? hs 0 ≡ some mathlib.Core.Option.none)
      → (word ≡ 0 → IsAt entries base (record { words = ws; homes = hs; views = set s.views id (moved v seen own turn) }) start log)
      → ((seat : ℕ) × (u : View E B) × HasView (set s.views id (moved v seen own turn)) seat u × (u.seen ≡ log))
      → All (λ e. by e ≤ o.front.made) log
      → (id ≡ 0 → (n : ℕ) → has v.joined n ≡ true → of_pass by n seen ≡ of_pass by n log)
      → (id ≡ 0 → (j : LastJoin E) → v.last ≡ Some j → IsJoined by (moved v seen own turn) j)
      → IsOrderly by entries base start (record { words = ws; homes = hs; views = set s.views id (moved v seen own turn) })
  unfolding IsFrontAfter
  moves word log holder ws hs words pre grow fits bit mine others held away home known numbers front_seen front_joins =
      let w : View E B = moved v seen own turn in
      let t = front_after in
      let f : View E B = t.0 in
      let made : f.made ≡ o.front.made = same (λ u. u.made) f t.2 refl in
      let live : f.live ≡ o.front.live = same (λ u. u.live) f t.2 refl in
      let joined : f.joined ≡ o.front.joined = same (λ u. u.joined) f t.2 refl in
      let long : length (set s.views id w) ≡ length s.views = length-set s.views id w in
      let unjoined : has o.front.joined id ≡ false = o.joined id v me.0 ∙ me.1 in
      record {
        log = log;
        front = f;
        holder = holder;
        word = word;
        words = words;
        front_is = t.1;
        made = omega (arith, o.made);
        live = live_set s.views id v w me.0 refl ∙ (o.live ∙ ap (λ (n : ℕ). n + 1) (sym live));
        each = λ seat u h. ⊎_elim (λ x. subst (λ (y : ℕ × View E B). Fits by start log y.0 y.1) (λ i. (sym x.0 i, x.1 i)) fits)
            (λ x. let k = o.each seat u x.1 in record { number = k.number; seen = prefix_trans u.seen o.log log k.seen pre; own = grow seat x.0 ∙ k.own; own_seen = k.own_seen; base_is = k.base_is }) (back seat u h);
        turns = λ seat u h. ⊎_elim (λ x. ap (λ (y : View E B). y.turn) (sym x.1) ∙ (mine ∙ ap (λ (i : ℕ). turn_at word holder i log) (sym x.0))) (λ x. o.turns seat u x.1 ∙ others seat x.0) (back seat u h);
        bit = bit;
        held = λ e. (w, subst (λ (i : ℕ). HasView (set s.views id w) i w) (sym (held e)) here);
        away = away;
        home = home;
        known = known;
        numbers = subst (λ (m : ℕ). All (λ e. by e ≤ m) log) (sym made) numbers;
        joined = λ seat u h. ap (λ (js : List ℕ). has js seat) joined ∙ ⊎_elim (λ x. ap (has o.front.joined) x.0 ∙ (o.joined id v me.0 ∙ ap (λ (y : View E B). y.spent) x.1)) (λ x. o.joined seat u x.1) (at_set s.views id seat w u h);
        not_made = λ seat le. ap (λ (js : List ℕ). has js seat) joined ∙ o.not_made seat (omega arith);
        joined_seen = λ n yes. let yes' : has o.front.joined n ≡ true = ap (λ (js : List ℕ). has js n) (sym joined) ∙ yes in
            ⊎_elim (λ x. ap (λ (y : View E B). of_pass by n y.seen) x.1 ∙ front_seen x.0 n (ap (λ (y : View E B). has y.joined n) (sym x.2) ∙ yes'))
            (λ x. ap (λ (y : View E B). of_pass by n y.seen) x.1 ∙ (o.joined_seen n yes' ∙ sym (grow n (λ e. true≢false (sym yes' ∙ (ap (has o.front.joined) e ∙ unjoined)))))) t.2;
        last_join = λ j e. ⊎_elim (λ x. subst (λ (y : View E B). IsJoined by y j) (sym x.1) (front_joins x.0 j (ap (λ (y : View E B). y.last) (sym x.1) ∙ e)))
            (λ x. subst (λ (y : View E B). IsJoined by y j) (sym x.1) (o.last_join j (ap (λ (y : View E B). y.last) (sym x.1) ∙ e))) t.2;
      }
