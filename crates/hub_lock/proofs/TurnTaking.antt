-- Trying for the turn, counting and handing on keep the rule.
use Rattle.std.proofs.Common.{◌≡◌, ◌≢◌, ℕ, ◌≤◌, Bool, true, false, true≢false, ◌&&◌, eqb, eq-eqb, ne_eqb, List, [], ◌∷◌, ◌++◌, length, set, get_or, slice_index, Option, Some, None, refl, sym, ap, ◌∙◌, subst, arith, if◌then◌else◌, All}
use Rattle.std.proofs.lemmas.List.Elements.{All-push}
use mathlib.Core.List.{IsPrefix, append-nil}
use mathlib.Core.Option.{some}
use mathlib.Core.Logic.{dite}
use native.Mathlib.Decide.{ℕ_discrete}
use lib.ListN.{get_elem?}
use prog.Atomic.{either}
use base.Growing.{prefix_refl, prefix_trans}
use Rattle.atomic_table.specs.Table.{State, Me, Act, keeps, takes, gives, Valid, stepped, carried_after, step, rest, Allows}
use Rattle.atomic_table.proofs.Lists.{set_here, set_again, exchanged}
use Rattle.hub_lock.specs.declared.view.View.{View}
use Rattle.hub_lock.specs.Passes.{has, moved, in_turn, out_of_turn, seeing, of_pass, IsStep, Adds, IsJoined}
use Rattle.hub_lock.specs.Between.{HasView}
use Rattle.hub_lock.specs.Orderly.{turn_at, IsAt, IsOrderly, IsTaken, tried, counted, handed_on}
use Rattle.hub_lock.proofs.Lists.{there_below, at_one, of_others}
use Rattle.hub_lock.proofs.Keeps.{moves, here, there}

module _ {E : Type 0} where
  pub turn_here : (id : ℕ) (log : List E) → turn_at 1 id id log ≡ Some log
  turn_here id log = ap (λ (b : Bool). if b then Some log else None) (eq-eqb id id refl)

  pub turn_else : (holder seat : ℕ) (log : List E) → seat ≢ holder → turn_at 1 holder seat log ≡ None
  turn_else holder seat log ne = ap (λ (b : Bool). if b then Some log else None) (ne_eqb seat holder ne)

  turn_free : (word holder seat : ℕ) (log : List E) → word ≡ 0 → turn_at word holder seat log ≡ None
  turn_free word holder seat log e = ap (λ (n : ℕ). turn_at n holder seat log) e

  -- who holds the turn is the holder
  pub taken_turn : (word holder seat : ℕ) (log es : List E) → Some es ≡ turn_at word holder seat log → (word ≡ 1) × (holder ≡ seat) × (es ≡ log)
  taken_turn word holder seat log es e =
      dite (ℕ_discrete word 1)
      (λ one. dite (ℕ_discrete seat holder)
      (λ same. let f : Some es ≡ Some log = e ∙ (ap (λ (n : ℕ). turn_at n holder seat log) one ∙ (ap (λ (n : ℕ). turn_at 1 holder n log) same ∙ turn_here holder log)) in (one, sym same, cc))
      (λ ne. let f : Some es ≡ None = e ∙ (ap (λ (n : ℕ). turn_at n holder seat log) one ∙ turn_else holder seat log ne) in absurd (cc)))
      (λ ne. let f : Some es ≡ None = e ∙ ap (λ (b : Bool). if b && eqb seat holder then Some log else None) (ne_eqb word 1 ne) in absurd (cc))

module _ {T E B : Type 0} (by : E → ℕ) (entries : T → List E) (base : T → B) (start : B) (s : State (Option T) (View E B)) (o : IsOrderly by entries base start s)
    (id : ℕ) (v : View E B) (me : HasView s.views id v) where
  pub front_is_mine : id ≡ 0 → o.front ≡ v
  front_is_mine z = at_one s.views 0 o.front v o.front_is.0 (subst (λ (i : ℕ). get_elem? s.views i ≡ some v) z me.0)

  -- only the turn of one view changes
  turned : (turn : Option (List E)) (word holder : ℕ) (ws : List ℕ) (hs : List (mathlib.Core.Option.Option (Option T)))
      → ws ≡ word ∷ length o.log ∷ []
      → word ≤ 1
      → turn ≡ turn_at word holder id o.log
      → ((seat : ℕ) → seat ≢ id → turn_at o.word o.holder seat o.log ≡ turn_at word holder seat o.log)
      → (word ≡ 1 → holder ≡ id)
      → (word ≡ 1 → get_elem? hs 0 ≡ some mathlib.Core.Option.none)
      → (word ≡ 0 → IsAt entries base (record { words = ws; homes = hs; views = set s.views id (moved v v.seen v.own turn) }) start o.log)
      → IsOrderly by entries base start (record { words = ws; homes = hs; views = set s.views id (moved v v.seen v.own turn) })
  turned turn word holder ws hs words bit mine others held away home =
      let w : View E B = moved v v.seen v.own turn in
      let f = o.each id v me in
      let k = o.known in
      moves by entries base start s o id v me v.seen v.own turn word o.log holder ws hs words (prefix_refl o.log) (λ n ne. refl)
      (record { number = f.number; seen = f.seen; own = f.own; own_seen = f.own_seen; base_is = f.base_is })
      bit mine others held away home
      (dite (ℕ_discrete k.0 id)
      (λ y. let u : k.1 ≡ v = at_one s.views id k.1 v (subst (λ (i : ℕ). get_elem? s.views i ≡ some k.1) y k.2.0) me.0 in
      (id, w, here by entries base start s o id v me v.seen v.own turn, ap (λ (x : View E B). x.seen) (sym u) ∙ k.3))
      (λ ne. (k.0, k.1, there by entries base start s o id v me v.seen v.own turn k.0 k.1 ne k.2, k.3)))
      o.numbers
      (λ z n yes. let m = front_is_mine z in ap (λ (x : View E B). of_pass by n x.seen) (sym m) ∙ o.joined_seen n (ap (λ (x : View E B). has x.joined n) m ∙ yes))
      (λ z j e. let m = front_is_mine z in let t = subst (λ (x : View E B). IsJoined by x j) m (o.last_join j (ap (λ (x : View E B). x.last) m ∙ e)) in
      record { some = t.some; mine = t.mine; theirs = t.theirs; of_other = t.of_other; of_earlier = t.of_earlier; other_joined = t.other_joined; earlier_joined = t.earlier_joined })

  word_is : slice_index s.words 0 ≡ o.word
  word_is = ap (λ (ws : List ℕ). slice_index ws 0) o.words

  takes_turn : slice_index s.words 0 ≡ 0 → (value : T) × (get_elem? s.homes 0 ≡ some (some (Some value)))
      × IsOrderly by entries base start (stepped s 0 1 id [] (in_turn v (entries value)) (takes 0 (Some value)))
      × IsTaken by entries base (v, []) (in_turn v (entries value), (0, Some value) ∷ []) value
  takes_turn free =
      let zero_word : o.word ≡ 0 = sym word_is ∙ free in
      let h = o.home zero_word in
      let value : T = h.0 in
      let f = o.each id v me in (
        value,
        h.1,
        turned (Some (entries value)) 1 id (set s.words 0 1) (set s.homes 0 mathlib.Core.Option.none) (ap (λ (ws : List ℕ). set ws 0 1) o.words) (omega arith)
            (ap Some h.2 ∙ sym (turn_here id o.log))
            (λ seat ne. turn_free o.word o.holder seat o.log zero_word ∙ sym (turn_else id seat o.log ne))
            (λ _. refl)
            (λ _. set_here s.homes 0 mathlib.Core.Option.none (there_below s.homes 0 (some (Some value)) h.1))
            (λ e. absurd (omega arith)),
        record {
          slot = refl;
          view = refl;
          seen = subst (IsPrefix v.seen) (sym h.2) f.seen;
          own = ap (λ (n : ℕ). of_pass by n (entries value)) f.number ∙ (ap (of_pass by id) h.2 ∙ f.own);
          base_is = f.base_is ∙ ap Some (sym h.3);
        },
      )

abbrev slot_of : {T : Type 0} → T → List (ℕ × Option T)
slot_of x = (0, Some x) ∷ []

slot_value : {T : Type 0} (a b : T) → slot_of a ≡ slot_of b → a ≡ b
slot_value {T} a b e = let f : Some a ≡ Some b = ap (λ (l : List (ℕ × Option T)). (get_or l 0 (0, Some a)).1) e in cc

-- a step that changes nothing
pub unmoved : {T E B : Type 0} (by : E → ℕ) (entries : T → List E) (base : T → B) (start : B) (s : State (Option T) (View E B)) → IsOrderly by entries base start s → (id : ℕ) (v : View E B)
    → get_elem? s.views id ≡ some v → IsOrderly by entries base start (record { words = set s.words 0 (slice_index s.words 0); homes = s.homes; views = set s.views id v })
unmoved {T} {E} {B} by entries base start s o id v at =
    let a : set s.words 0 (slice_index s.words 0) ≡ s.words = subst (λ (ws : List ℕ). set ws 0 (slice_index ws 0) ≡ ws) (sym o.words) refl in
    let b : set s.views id v ≡ s.views = set_again s.views id v at in
    let P : State (Option T) (View E B) → Type 0 = IsOrderly by entries base start in
    subst P (λ i. record { words = sym a i; homes = s.homes; views = sym b i }) o

module _ {T E B : Type 0} (by : E → ℕ) (entries : T → List E) (base : T → B) (start : B) where
  Sat : Type 0
  Sat = Me (Option T) (View E B)

  pub tries_as : (slots id : ℕ) (v : View E B) (said : mathlib.Core.Option.Option (Option T)) → v.spent ≡ false
      → Allows (IsOrderly by entries base start) slots id (v, []) 0 (λ n. either (eqb n 0) 1 n) (tried by entries base (step slots 0 0 1 said) (v, []))
  tries_as slots id v said live s o wide at bound =
      exchanged (slice_index s.words 0) 0 1
      (λ n. (w : View E B) × (a : Act (Option T)) × Valid s.homes [] a × IsOrderly by entries base start (stepped s 0 n id [] w a) × tried by entries base (step slots 0 0 1 said) (v, []) (slice_index s.words 0) (w, carried_after [] a))
      (λ hit. let t = takes_turn by entries base start s o id v (at, live) hit in
      (in_turn v (entries t.0), takes 0 (Some t.0), t.1, t.2, ((λ _. (t.0, t.3)), (λ ne. absurd (ne hit)))))
      (λ miss. (v, keeps, tt, unmoved by entries base start s o id v at, ((λ hit. absurd (miss hit)), (λ _. refl))))

  numbers_after : (n made : ℕ) (log more : List E) → IsStep by n more → n ≤ made → All (λ e. by e ≤ made) log → All (λ e. by e ≤ made) (log ++ more)
  numbers_after n made log [] s le h = subst (All (λ e. by e ≤ made)) (sym (append-nil log)) h
  numbers_after n made log (e ∷ []) s le h = All-push (λ e. by e ≤ made) log e h (subst (λ (m : ℕ). m ≤ made) (sym s) le)
  numbers_after n made log (e ∷ f ∷ es) s le h = absurd s

  pub counts_as : (slots id : ℕ) (v : View E B) (value : T) (new : ℕ) → v.spent ≡ false → new ≡ length (entries value) → Adds by v (entries value)
      → Allows (IsOrderly by entries base start) slots id (v, (0, Some value) ∷ []) 1 (λ _. new) (λ _. counted by entries (step slots 1 new 0 mathlib.Core.Option.none) (v, (0, Some value) ∷ []) new)
  counts_as slots id v value new live is adds s o wide at bound =
      let es : List E = entries value in
      let found : List E = adds.0 in
      let more : List E = adds.1 in
      let me : HasView s.views id v = (at, live) in
      let f = o.each id v me in
      let t = taken_turn o.word o.holder id o.log found (sym adds.2 ∙ o.turns id v me) in
      let es_is : es ≡ o.log ++ more = adds.3 ∙ ap (λ (l : List E). l ++ more) t.2 in
      let its : IsStep by id more = subst (λ (n : ℕ). IsStep by n more) f.number adds.4 in
      let pre : IsPrefix o.log es = (more, sym es_is) in
      let grow : (n : ℕ) → n ≢ id → of_pass by n es ≡ of_pass by n o.log = λ n ne. ap (of_pass by n) es_is ∙ of_others by n id o.log more its ne in
      let unjoined : has o.front.joined id ≡ false = o.joined id v at ∙ live in
      let apart : (n : ℕ) → has o.front.joined n ≡ true → n ≢ id = λ n yes e. true≢false (sym yes ∙ (ap (has o.front.joined) e ∙ unjoined)) in
      let w : View E B = seeing by v es in
      let below = there_below s.views id v at in (
        w,
        keeps,
        tt,
        moves by entries base start s o id v me es (of_pass by v.number es) (Some es) 1 es id (set s.words 1 new) s.homes
            (ap (λ (ws : List ℕ). set ws 1 new) o.words ∙ (λ i. t.0 i ∷ is i ∷ []))
            pre
            grow
            (record { number = f.number; seen = prefix_refl es; own = ap (λ (n : ℕ). of_pass by n es) (sym f.number); own_seen = ap (λ (n : ℕ). of_pass by n es) (sym f.number); base_is = f.base_is })
            (omega arith)
            (sym (turn_here id es))
            (λ seat ne. (ap (λ (n : ℕ). turn_at n o.holder seat o.log) t.0 ∙ (ap (λ (h : ℕ). turn_at 1 h seat o.log) t.1 ∙ turn_else id seat o.log ne)) ∙ sym (turn_else id seat es ne))
            (λ _. refl)
            (λ _. o.away t.0)
            (λ e. absurd (omega arith))
            (id, w, here by entries base start s o id v me es (of_pass by v.number es) (Some es), refl)
            (subst (All (λ e. by e ≤ o.front.made)) (sym es_is) (numbers_after id o.front.made o.log more its (omega (arith, o.made)) o.numbers))
            (λ z n yes. refl)
            (λ z j e. let m = front_is_mine by entries base start s o id v me z in
            let q = o.last_join j (ap (λ (x : View E B). x.last) m ∙ e) in
            let far : IsPrefix o.front.seen es = prefix_trans o.front.seen o.log es (o.each 0 o.front o.front_is).seen pre in
            let ours : (n : ℕ) → has o.front.joined n ≡ true → of_pass by n es ≡ of_pass by n o.front.seen = λ n yes. grow n (apart n yes) ∙ sym (o.joined_seen n yes) in
            record {
              some = q.some;
              mine = prefix_trans j.mine o.front.seen es q.mine far;
              theirs = prefix_trans j.theirs o.front.seen es q.theirs far;
              of_other = ours j.number q.other_joined ∙ q.of_other;
              of_earlier = λ n yes. ours n (q.earlier_joined n yes) ∙ q.of_earlier n yes;
              other_joined = ap (λ (x : View E B). has x.joined j.number) (sym m) ∙ q.other_joined;
              earlier_joined = λ n yes. ap (λ (x : View E B). has x.joined n) (sym m) ∙ q.earlier_joined n yes;
            }),
        λ value' e. let same : value ≡ value' = slot_value value value' e in ap (λ (x : T). (seeing by v (entries x), (0, Some value) ∷ [])) same,
      )

  pub hands_on_as : (slots id : ℕ) (v : View E B) (value : T) → slots ≡ 1 → v.spent ≡ false → v.turn ≡ Some (entries value) → v.base ≡ Some (base value)
      → Allows (IsOrderly by entries base start) slots id (v, (0, Some value) ∷ []) 0 (λ _. 0) (λ _. handed_on (step slots 0 0 0 mathlib.Core.Option.none) (v, (0, Some value) ∷ []) 0)
  hands_on_as slots id v value one live turn base_is s o wide at bound =
      let me : HasView s.views id v = (at, live) in
      let f = o.each id v me in
      let t = taken_turn o.word o.holder id o.log (entries value) (sym turn ∙ o.turns id v me) in
      let b : Some (base value) ≡ Some start = sym base_is ∙ f.base_is in
      let same : base value ≡ start = cc in (
        out_of_turn v,
        gives,
        tt,
        turned by entries base start s o id v me None 0 id (set s.words 0 0) (set s.homes 0 (some (Some value)))
            (ap (λ (ws : List ℕ). set ws 0 0) o.words)
            (omega arith)
            refl
            (λ seat ne. ap (λ (n : ℕ). turn_at n o.holder seat o.log) t.0 ∙ (ap (λ (h : ℕ). turn_at 1 h seat o.log) t.1 ∙ turn_else id seat o.log ne))
            (λ e. absurd (omega arith))
            (λ e. absurd (omega arith))
            (λ _. (value, set_here s.homes 0 (some (Some value)) (omega arith), t.2, same)),
        refl,
      )

  -- the steps, at what a seat is known to have
  pub tries : (slots id : ℕ) (m : Me (Option T) (View E B)) (said : mathlib.Core.Option.Option (Option T)) → m.0.spent ≡ false → m.1 ≡ []
      → Allows (IsOrderly by entries base start) slots id m 0 (λ n. either (eqb n 0) 1 n) (tried by entries base (step slots 0 0 1 said) m)
  tries slots id m said live idle =
      let e : (m.0, []) ≡ m = λ i. (m.0, sym idle i) in
      subst (λ (x : Me (Option T) (View E B)). Allows (IsOrderly by entries base start) slots id x 0 (λ n. either (eqb n 0) 1 n) (tried by entries base (step slots 0 0 1 said) x)) e
      (tries_as slots id m.0 said live)

  pub counts : (slots id : ℕ) (m : Me (Option T) (View E B)) (v : View E B) (value : T) (new : ℕ) → m ≡ (v, (0, Some value) ∷ []) → v.spent ≡ false → new ≡ length (entries value) → Adds by v (entries value)
      → Allows (IsOrderly by entries base start) slots id m 1 (λ _. new) (λ _. counted by entries (step slots 1 new 0 mathlib.Core.Option.none) m new)
  counts slots id m v value new at live is adds =
      subst (λ (x : Me (Option T) (View E B)). Allows (IsOrderly by entries base start) slots id x 1 (λ _. new) (λ _. counted by entries (step slots 1 new 0 mathlib.Core.Option.none) x new)) (sym at)
      (counts_as slots id v value new live is adds)

  pub hands_on : (slots id : ℕ) (m : Me (Option T) (View E B)) (v : View E B) (value : T) → slots ≡ 1 → m ≡ (v, (0, Some value) ∷ []) → v.spent ≡ false → v.turn ≡ Some (entries value) → v.base ≡ Some (base value)
      → Allows (IsOrderly by entries base start) slots id m 0 (λ _. 0) (λ _. handed_on (step slots 0 0 0 mathlib.Core.Option.none) m 0)
  hands_on slots id m v value one at live turn base_is =
      subst (λ (x : Me (Option T) (View E B)). Allows (IsOrderly by entries base start) slots id x 0 (λ _. 0) (λ _. handed_on (step slots 0 0 0 mathlib.Core.Option.none) x 0)) (sym at)
      (hands_on_as slots id v value one live turn base_is)

-- a seat after a plain exchange of the slot that it took
pub with_slot : {S V : Type 0} (m m' : Me S V) (x y : S) → m' ≡ (m.0, (0, y) ∷ rest m.1) → m.1 ≡ (0, x) ∷ [] → m' ≡ (m.0, (0, y) ∷ [])
with_slot m m' x y e h = e ∙ (λ i. (m.0, (0, y) ∷ rest (h i)))

-- a seat that took one slot, as a plain exchange asks
pub one_slot : {S : Type 0} (l : List (ℕ × S)) (x : S) → l ≡ (0, x) ∷ [] → (old : S) × (l ≡ (0, old) ∷ rest l)
one_slot l x e = (x, e ∙ (λ i. (0, x) ∷ rest (sym e i)))

-- the seat after the count
pub with_count : {E B S : Type 0} (by : E → ℕ) (m m' : Me S (View E B)) (v : View E B) (es : List E) (slot : List (ℕ × S)) → m' ≡ (seeing by m.0 es, m.1) → m ≡ (v, slot) → m' ≡ (seeing by v es, slot)
with_count by m m' v es slot e at = e ∙ (λ i. (seeing by (at i).0 es, (at i).1))
