-- Taking a pass back keeps the rule.
use Rattle.std.proofs.Common.{◌≡◌, ◌≢◌, ⊎_elim, ℕ, zero, suc, ◌+◌, ◌<◌, ◌≤◌, Bool, true, false, true≢false, ◌||◌, eqb, eq-eqb, ne_eqb, List, [], ◌∷◌, length, set, length-set, Option, Some, None, refl, sym, ap, ◌∙◌, subst, arith, if◌then◌else◌, All}
use mathlib.Core.Option.{some, some-injective, some-ne-none}
use mathlib.Core.Logic.{dite}
use native.Mathlib.Decide.{ℕ_discrete}
use lib.ListN.{get_elem?}
use Rattle.atomic_table.specs.Table.{Me, Joins}
use Rattle.atomic_table.proofs.Lists.{at_set, set_here, set_else}
use Rattle.hub_lock.specs.declared.view.View.{View}
use Rattle.hub_lock.specs.Passes.{has, longer, spent, last_of, joining, of_pass, IsJoined}
use Rattle.hub_lock.specs.Between.{HasView, is_live, live_of}
use Rattle.hub_lock.specs.Orderly.{turn_at, Fits, Known, IsOrderly}
use Rattle.hub_lock.proofs.Lists.{there_below, at_one, between, first_begins, second_begins, longer_begins, longer_whole, longer_whole_other}
use Rattle.hub_lock.proofs.Keeps.{live_set}
use Rattle.hub_lock.proofs.TurnTaking.{turn_here, front_is_mine}

module _ {E B : Type 0} where
  -- one pass less
  pub live_spend : (vs : List (View E B)) (i : ℕ) (w : View E B) → get_elem? vs i ≡ some w → w.spent ≡ false → live_of (set vs i spent) + 1 ≡ live_of vs
  live_spend [] i w e l = absurd (some-ne-none w (sym e))
  live_spend (x ∷ vs) zero w e l =
      let one : is_live x ≡ 1 = ap (λ (b : Bool). if b then 0 else 1) (ap (λ (y : View E B). y.spent) (some-injective x w e) ∙ l) in omega arith
  live_spend (x ∷ vs) (suc i) w e l = omega (arith, live_spend vs i w e l)

  pub live_some : (vs : List (View E B)) (i : ℕ) (w : View E B) → get_elem? vs i ≡ some w → w.spent ≡ false → 1 ≤ live_of vs
  live_some vs i w e l = omega (arith, live_spend vs i w e l)

  pub live_two : (vs : List (View E B)) (i j : ℕ) (v w : View E B) → i ≢ j → HasView vs i v → HasView vs j w → 2 ≤ live_of vs
  live_two vs i j v w ne h k =
      omega (arith, live_spend vs i v h.0 h.1, live_some (set vs i spent) j w (set_else vs i j spent (λ e. ne (sym e)) ∙ k.0) k.1)

has_more : (m : ℕ) (ms : List ℕ) (n : ℕ) → has ms n ≡ true → has (m ∷ ms) n ≡ true
has_more m ms n e = ap (λ (b : Bool). eqb m n || b) e ∙ or_true (eqb m n)
  where
    or_true : (b : Bool) → (b || true) ≡ true
    or_true true = refl
    or_true false = refl

has_first : (m : ℕ) (ms : List ℕ) → has (m ∷ ms) m ≡ true
has_first m ms = ap (λ (b : Bool). b || has ms m) (eq-eqb m m refl)

has_else : (m : ℕ) (ms : List ℕ) (n : ℕ) → m ≢ n → has (m ∷ ms) n ≡ has ms n
has_else m ms n ne = ap (λ (b : Bool). b || has ms n) (ne_eqb m n ne)

module _ {T E B : Type 0} (by : E → ℕ) (entries : T → List E) (base : T → B) (start : B) where
  pub joins : (id : ℕ) (v : View E B) (other : ℕ) (u : View E B) → v.number ≡ 0 → v.spent ≡ false → u.spent ≡ false → u.turn ≡ None
      → Joins {S = Option T} (IsOrderly by entries base start) id v other u (joining v u) spent
  joins id v other u zeroth live live' idle s o at apart there =
      let me : HasView s.views id v = (at, live) in
      let f = o.each id v me in
      let here : id ≡ 0 = sym f.number ∙ zeroth in
      let m : o.front ≡ v = front_is_mine by entries base start s o id v me here in
      let w : View E B = joining v u in
      let vs : List (View E B) = set s.views id w in
      let now : List (View E B) = set vs other spent in
      let at' : get_elem? s.views other ≡ some u = sym (set_else s.views id other w apart) ∙ there in
      let f' = o.each other u (at', live') in
      let placed : get_elem? vs id ≡ some w = set_here s.views id w (there_below s.views id v at) in
      let mine : HasView now id w = (set_else vs other id spent (λ e. apart (sym e)) ∙ placed, live) in
      let keep : (seat : ℕ) (x : View E B) → seat ≢ id → seat ≢ other → HasView s.views seat x → HasView now seat x
      = λ seat x ne ne' h. (set_else vs other seat spent ne' ∙ (set_else s.views id seat w ne ∙ h.0), h.1) in
      let cases : (P : ℕ → View E B → Type 0) → P id w → ((seat : ℕ) (x : View E B) → seat ≢ id → seat ≢ other → get_elem? s.views seat ≡ some x → P seat x) → P other spent → (seat : ℕ) (x : View E B) → get_elem? now seat ≡ some x → P seat x
      = λ P a b c seat x e. ⊎_elim
      (λ (y : (seat ≡ other) × (spent ≡ x)). subst (λ (z : ℕ × View E B). P z.0 z.1) (λ i. (sym y.0 i, y.1 i)) c)
      (λ (y : (seat ≢ other) × (get_elem? vs seat ≡ some x)). ⊎_elim
      (λ (z : (seat ≡ id) × (w ≡ x)). subst (λ (q : ℕ × View E B). P q.0 q.1) (λ i. (sym z.0 i, z.1 i)) a)
      (λ (z : (seat ≢ id) × (get_elem? s.views seat ≡ some x)). b seat x z.0 y.0 z.1)
      (at_set s.views id seat w x y.1))
      (at_set vs other seat spent x e) in
      let long : length now ≡ length s.views = length-set vs other spent ∙ length-set s.views id w in
      let both : List E = longer v.seen u.seen in
      let a = first_begins v.seen u.seen o.log f.seen f'.seen in
      let b = second_begins v.seen u.seen o.log f.seen f'.seen in
      let whole = longer_begins v.seen u.seen o.log f.seen f'.seen in
      let of_mine : (n : ℕ) → of_pass by n v.seen ≡ of_pass by n o.log → of_pass by n both ≡ of_pass by n v.seen = λ n e. between by n v.seen both o.log a whole e in
      let of_theirs : of_pass by other both ≡ of_pass by other u.seen = between by other u.seen both o.log b whole (f'.own_seen ∙ sym f'.own) in
      let earlier : (n : ℕ) → has v.joined n ≡ true → of_pass by n v.seen ≡ of_pass by n o.log
      = λ n yes. ap (λ (x : View E B). of_pass by n x.seen) (sym m) ∙ o.joined_seen n (ap (λ (x : View E B). has x.joined n) m ∙ yes) in
      let some_live : 0 < v.live = omega (arith, live_set s.views id v w at refl, live_spend vs other u there live', live_some now id w mine.0 mine.1, o.live, ap (λ (x : View E B). x.live) m) in
      record {
        log = o.log;
        front = w;
        holder = o.holder;
        word = o.word;
        words = o.words;
        front_is = subst (λ (i : ℕ). HasView now i w) here mine;
        made = long ∙ (o.made ∙ ap (λ (x : View E B). x.made + 1) m);
        live = omega (arith, live_set s.views id v w at refl, live_spend vs other u there live', live_some now id w mine.0 mine.1, o.live, ap (λ (x : View E B). x.live) m);
        each = λ seat x h. cases (λ i y. y.spent ≡ false → Fits by start o.log i y)
            (λ _. record { number = f.number; seen = whole; own = f.own; own_seen = of_mine id (f.own_seen ∙ sym f.own) ∙ f.own_seen; base_is = f.base_is })
            (λ i y ne ne' e l. o.each i y (e, l))
            (λ l. absurd (true≢false l))
            seat x h.0 h.1;
        turns = λ seat x h. cases (λ i y. y.spent ≡ false → y.turn ≡ turn_at o.word o.holder i o.log)
            (λ _. o.turns id v me)
            (λ i y ne ne' e l. o.turns i y (e, l))
            (λ l. absurd (true≢false l))
            seat x h.0 h.1;
        bit = o.bit;
        held = λ one. let t = o.held one in
            let unheld : o.holder ≢ other = λ e.
            let q : None ≡ Some o.log = sym idle ∙ (o.turns other u (at', live') ∙ (ap (λ (n : ℕ). turn_at n o.holder other o.log) one ∙ (ap (λ (h : ℕ). turn_at 1 h other o.log) e ∙ turn_here other o.log))) in absurd (cc) in
            dite (ℕ_discrete o.holder id) (λ y. (w, subst (λ (i : ℕ). HasView now i w) (sym y) mine)) (λ ne. (t.0, keep o.holder t.0 ne unheld t.1));
        away = o.away;
        home = o.home;
        known = let k = o.known in
            dite (ℕ_discrete k.0 other)
            (λ y. let same : u ≡ k.1 = at_one s.views other u k.1 at' (subst (λ (i : ℕ). get_elem? s.views i ≡ some k.1) y k.2.0) in
            (id, w, mine, longer_whole_other v.seen u.seen o.log f.seen f'.seen (ap (λ (x : View E B). x.seen) same ∙ k.3)))
            (λ ne'. dite (ℕ_discrete k.0 id)
            (λ y. let same : v ≡ k.1 = at_one s.views id v k.1 at (subst (λ (i : ℕ). get_elem? s.views i ≡ some k.1) y k.2.0) in
            (id, w, mine, longer_whole v.seen u.seen o.log f.seen f'.seen (ap (λ (x : View E B). x.seen) same ∙ k.3)))
            (λ ne. (k.0, k.1, keep k.0 k.1 ne ne' k.2, k.3)));
        numbers = subst (λ (x : View E B). All (λ e. by e ≤ x.made) o.log) m o.numbers;
        joined = λ seat x e. cases (λ i y. has (u.number ∷ v.joined) i ≡ y.spent)
            (has_else u.number v.joined id (λ q. apart (sym f'.number ∙ q)) ∙ (ap (λ (y : View E B). has y.joined id) (sym m) ∙ o.joined id v at))
            (λ i y ne ne' a'. has_else u.number v.joined i (λ q. ne' (sym (sym f'.number ∙ q))) ∙ (ap (λ (z : View E B). has z.joined i) (sym m) ∙ o.joined i y a'))
            (ap (λ (n : ℕ). has (n ∷ v.joined) other) f'.number ∙ has_first other v.joined)
            seat x e;
        not_made = λ seat le. has_else u.number v.joined seat (λ q. omega (arith, f'.number, there_below s.views other u at')) ∙ (ap (λ (x : View E B). has x.joined seat) (sym m) ∙ o.not_made seat (omega arith));
        joined_seen = λ n yes. dite (ℕ_discrete n other)
            (λ y. subst (λ (i : ℕ). of_pass by i both ≡ of_pass by i o.log) (sym y) (of_theirs ∙ (f'.own_seen ∙ sym f'.own)))
            (λ ne. let yes' : has v.joined n ≡ true = sym (has_else u.number v.joined n (λ q. ne (sym q ∙ f'.number))) ∙ yes in of_mine n (earlier n yes') ∙ earlier n yes');
        last_join = λ j e. let same : last_of v u ≡ j = cc in subst (IsJoined by w) same (record {
          some = some_live;
          mine = a;
          theirs = b;
          of_other = ap (λ (n : ℕ). of_pass by n both) f'.number ∙ (of_theirs ∙ f'.own_seen);
          of_earlier = λ n yes. of_mine n (earlier n yes);
          other_joined = has_first u.number v.joined;
          earlier_joined = λ n yes. has_more u.number v.joined n yes;
        });
      }

-- what a look after a join tells
pub tells : {S E B : Type 0} (by : E → ℕ) (m m' : Me S (View E B)) (v u : View E B) (slots : List (ℕ × S)) → (m' ≡ m) × Known by m.0 → m ≡ (joining v u, slots) → v.number ≡ 0 → IsJoined by m'.0 (last_of v u)
tells {S} {E} {B} by m m' v u slots look at zeroth =
    let k = look.1 in
    let t = k.joins (ap (λ (x : Me S (View E B)). x.0.number) at ∙ zeroth) (last_of v u) (ap (λ (x : Me S (View E B)). x.0.last) at) in
    subst (λ (x : Me S (View E B)). IsJoined by x.0 (last_of v u)) (sym look.0) t

pub tells_numbers : {S E B : Type 0} (by : E → ℕ) (m m' : Me S (View E B)) (v u : View E B) (slots : List (ℕ × S)) → (m' ≡ m) × Known by m.0 → m ≡ (joining v u, slots) → v.number ≡ 0 → All (λ e. by e ≤ m'.0.made) m'.0.seen
tells_numbers {S} {E} {B} by m m' v u slots look at zeroth =
    subst (λ (x : Me S (View E B)). All (λ e. by e ≤ x.0.made) x.0.seen) (sym look.0) (look.1.numbers (ap (λ (x : Me S (View E B)). x.0.number) at ∙ zeroth))

pub tells_own : {S E B : Type 0} (by : E → ℕ) (m m' : Me S (View E B)) (v u : View E B) (slots : List (ℕ × S)) → (m' ≡ m) × Known by m.0 → m ≡ (joining v u, slots) → v.number ≡ 0 → of_pass by 0 m'.0.seen ≡ m'.0.own
tells_own {S} {E} {B} by m m' v u slots look at zeroth =
    let zero_now : m.0.number ≡ 0 = ap (λ (x : Me S (View E B)). x.0.number) at ∙ zeroth in
    subst (λ (x : Me S (View E B)). of_pass by 0 x.0.seen ≡ x.0.own) (sym look.0) (ap (λ (n : ℕ). of_pass by n m.0.seen) (sym zero_now) ∙ look.1.own)
