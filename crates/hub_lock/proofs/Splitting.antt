-- A pass that is split off keeps the rule, and a look tells what the rule says of the own view.
use Rattle.std.proofs.Common.{◌≡◌, ◌≢◌, ⊎_elim, ℕ, ◌+◌, Bool, false, ◌&&◌, eqb, ne_eqb, List, [], ◌∷◌, ◌++◌, length, set, length-set, length-append, Option, Some, None, refl, sym, ap, ◌∙◌, subst, arith, if◌then◌else◌, All, ◌≤◌}
use mathlib.Core.Option.{some}
use mathlib.Core.Logic.{dite}
use native.Mathlib.Decide.{ℕ_discrete}
use lib.ListN.{get_elem?}
use Rattle.atomic_table.specs.Table.{Me, keeps, step, Allows, Splits}
use Rattle.atomic_table.proofs.Lists.{at_set, set_here, set_else, at_longer}
use Rattle.hub_lock.specs.declared.view.View.{View}
use Rattle.hub_lock.specs.Passes.{has, splitting, split_off, of_pass, IsJoined}
use Rattle.hub_lock.specs.Between.{HasView, is_live, live_of}
use Rattle.hub_lock.specs.Orderly.{turn_at, Fits, IsOrderly, looked}
use Rattle.hub_lock.proofs.Lists.{there_below, at_one, at_pushed, none_of, front_nil, of_pass-append, all_of_prefix}
use Rattle.hub_lock.proofs.Keeps.{live_set}
use Rattle.hub_lock.proofs.TurnTaking.{turn_else, unmoved, front_is_mine}

module _ {E B : Type 0} where
  live_push : (vs : List (View E B)) (v : View E B) → live_of (vs ++ v ∷ []) ≡ live_of vs + is_live v
  live_push [] v = omega arith
  live_push (x ∷ vs) v = omega (arith, live_push vs v)

module _ {T E B : Type 0} (by : E → ℕ) (entries : T → List E) (base : T → B) (start : B) where
  pub splits : (id : ℕ) (v : View E B) → v.number ≡ 0 → v.spent ≡ false → Splits {S = Option T} (IsOrderly by entries base start) id v (splitting v) (split_off v)
  splits id v zeroth live s o at =
      let me : HasView s.views id v = (at, live) in
      let f = o.each id v me in
      let here : id ≡ 0 = sym f.number ∙ zeroth in
      let m : o.front ≡ v = front_is_mine by entries base start s o id v me here in
      let w : View E B = splitting v in
      let r : View E B = split_off v in
      let vs : List (View E B) = set s.views id w in
      let n : ℕ = length s.views in
      let made : n ≡ v.made + 1 = o.made ∙ ap (λ (u : View E B). u.made + 1) m in
      let long : length vs ≡ n = length-set s.views id w in
      let placed : get_elem? vs id ≡ some w = set_here s.views id w (there_below s.views id v at) in
      let keep : (seat : ℕ) (u : View E B) → seat ≢ id → HasView s.views seat u → HasView (vs ++ r ∷ []) seat u = λ seat u ne h. (at_longer vs (r ∷ []) seat u (set_else s.views id seat w ne ∙ h.0), h.1) in
      let mine : HasView (vs ++ r ∷ []) id w = (at_longer vs (r ∷ []) id w placed, live) in
      let cases : (P : ℕ → View E B → Type 0) → P id w → ((seat : ℕ) (u : View E B) → seat ≢ id → get_elem? s.views seat ≡ some u → P seat u) → P n r → (seat : ℕ) (u : View E B) → get_elem? (vs ++ r ∷ []) seat ≡ some u → P seat u
      = λ P a b c seat u e. ⊎_elim
      (λ x. ⊎_elim (λ (y : (seat ≡ id) × (w ≡ u)). subst (λ (z : ℕ × View E B). P z.0 z.1) (λ i. (sym y.0 i, y.1 i)) a) (λ (y : (seat ≢ id) × (get_elem? s.views seat ≡ some u)). b seat u y.0 y.1) (at_set s.views id seat w u x))
      (λ (x : (seat ≡ length vs) × (r ≡ u)). subst (λ (z : ℕ × View E B). P z.0 z.1) (λ i. (sym (x.0 ∙ long) i, x.1 i)) c)
      (at_pushed vs r u seat e) in
      let none : of_pass by n o.log ≡ [] = none_of by o.front.made n o.log o.numbers (omega (arith, o.made)) in
      let front_cut = f.seen in
      let none_seen : of_pass by n v.seen ≡ [] = front_nil by n (of_pass by n v.seen) (of_pass by n front_cut.0) (sym none ∙ (ap (of_pass by n) (sym front_cut.1) ∙ of_pass-append by n v.seen front_cut.0)) in
      record {
        log = o.log;
        front = w;
        holder = o.holder;
        word = o.word;
        words = o.words;
        front_is = subst (λ (i : ℕ). HasView (vs ++ r ∷ []) i w) here mine;
        made = length-append vs (r ∷ []) ∙ omega arith;
        live = live_push vs r ∙ omega (arith, live_set s.views id v w at refl, o.live, ap (λ (u : View E B). u.live) m);
        each = λ seat u h. cases (λ i x. x.spent ≡ false → Fits by start o.log i x)
            (λ _. record { number = f.number; seen = f.seen; own = f.own; own_seen = f.own_seen; base_is = f.base_is })
            (λ i x ne e l. o.each i x (e, l))
            (λ _. record { number = sym made; seen = f.seen; own = none; own_seen = none_seen; base_is = f.base_is })
            seat u h.0 h.1;
        turns = λ seat u h. cases (λ i x. x.spent ≡ false → x.turn ≡ turn_at o.word o.holder i o.log)
            (λ _. o.turns id v me)
            (λ i x ne e l. o.turns i x (e, l))
            (λ _. sym (dite (ℕ_discrete o.word 1)
            (λ one. let t = o.held one in ap (λ (k : ℕ). turn_at k o.holder n o.log) one ∙ turn_else o.holder n o.log (λ e. omega (arith, there_below s.views o.holder t.0 t.1.0)))
            (λ ne. ap (λ (b : Bool). if b && eqb n o.holder then Some o.log else None) (ne_eqb o.word 1 ne))))
            seat u h.0 h.1;
        bit = o.bit;
        held = λ one. let t = o.held one in dite (ℕ_discrete o.holder id) (λ y. (w, subst (λ (i : ℕ). HasView (vs ++ r ∷ []) i w) (sym y) mine)) (λ ne. (t.0, keep o.holder t.0 ne t.1));
        away = o.away;
        home = o.home;
        known = let k = o.known in dite (ℕ_discrete k.0 id)
            (λ y. (id, w, mine, ap (λ (x : View E B). x.seen) (at_one s.views id v k.1 at (subst (λ (i : ℕ). get_elem? s.views i ≡ some k.1) y k.2.0)) ∙ k.3))
            (λ ne. (k.0, k.1, keep k.0 k.1 ne k.2, k.3));
        numbers = λ k d lt. omega (arith, o.numbers k d lt, ap (λ (u : View E B). u.made) m);
        joined = λ seat u e. ap (λ (x : View E B). has x.joined seat) (sym m) ∙ cases (λ i x. has o.front.joined i ≡ x.spent)
            (o.joined id v at)
            (λ i x ne a. o.joined i x a)
            (o.not_made n (omega arith))
            seat u e;
        not_made = λ seat le. ap (λ (x : View E B). has x.joined seat) (sym m) ∙ o.not_made seat (omega (arith, length-append vs (r ∷ [])));
        joined_seen = λ k yes. ap (λ (x : View E B). of_pass by k x.seen) (sym m) ∙ o.joined_seen k (ap (λ (x : View E B). has x.joined k) m ∙ yes);
        last_join = λ j e. let t = subst (λ (x : View E B). IsJoined by x j) m (o.last_join j (ap (λ (x : View E B). x.last) m ∙ e)) in
            record { some = t.some; mine = t.mine; theirs = t.theirs; of_other = t.of_other; of_earlier = t.of_earlier; other_joined = t.other_joined; earlier_joined = t.earlier_joined };
      }

  pub looks : (slots id : ℕ) (m : Me (Option T) (View E B)) → m.0.spent ≡ false
      → Allows (IsOrderly by entries base start) slots id m 0 (λ n. n) (looked by (step slots 0 0 0 mathlib.Core.Option.none) m)
  looks slots id m live s o wide at bound =
      let v : View E B = m.0 in
      let f = o.each id v (at, live) in (
        v,
        keeps,
        tt,
        unmoved by entries base start s o id v at,
        (
          refl,
          record {
            own = ap (λ (n : ℕ). of_pass by n v.seen) f.number ∙ f.own_seen;
            numbers = λ zeroth. let q = front_is_mine by entries base start s o id v (at, live) (sym f.number ∙ zeroth) in subst (λ (x : View E B). All (λ e. by e ≤ x.made) v.seen) q (all_of_prefix (λ (e : E). by e ≤ o.front.made) v.seen o.log f.seen o.numbers);
            joins = λ zeroth j e. let q = front_is_mine by entries base start s o id v (at, live) (sym f.number ∙ zeroth) in subst (λ (x : View E B). IsJoined by x j) q (o.last_join j (ap (λ (x : View E B). x.last) q ∙ e));
          },
        ),
      )
