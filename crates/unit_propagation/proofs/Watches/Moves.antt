-- What a slot's move from one list to another, and a new slot, leave.
use Rattle.std.proofs.Common.{◌≡◌, ◌<◌, ◌+◌, ◌-◌, ◌++◌, [], ◌∷◌, ◌⊎◌, ℕ, zero, suc, List, length, get_or, set, take, drop, map, arith, sym, ◌∙◌, ap, inl, inr, refl, subst, append_assoc, length-append, length-set, get_or-set_other, get_or-set_same, replicate}
use Rattle.std.proofs.lemmas.Bool.{cases_eq}
use Rattle.std.proofs.lemmas.List.{set_split, set-get_or, take_more, get_or_append_left, get_or_push, length-replicate, map-set, map-append, length-map, get_or-map}
use Rattle.std.proofs.Math.Seq.{map-set_same}
use Rattle.std.proofs.Math.Dec.{eqb-suc-zero}
use Rattle.std.proofs.lemmas.List.Elements.{Contains-append_left, Contains-append_right}
use Rattle.std.specs.List.{Contains, remove}
use Rattle.unit_propagation.specs.Watches.Steps.{unlinked_first, unlinked_slots}
use Rattle.unit_propagation.specs.declared.watch_lists.lists.Slot.{Slot}
use Rattle.unit_propagation.specs.Watches.Linked.{next_of, code_at, lists_of, IsLinked}
use Rattle.unit_propagation.specs.Watches.WatchState.{WatchState, IsListed, list_at, link_at, moved, added, with_slot}
use Rattle.unit_propagation.specs.Watches.Kept.{AreLists, IsOnce}
use Rattle.unit_propagation.proofs.Watches.Links.{lists_found, short, linked_next, linked_frame, linked_unlink, linked_in_range, contains_cases, contains_past, contains_mid, contains_other, once_middle, Contains-head, Contains-tail}

-- what a move leaves: the slot has its new code and is linked before the list of it, the others keep their codes, and those of other lists their links
pub record Moving (slots news : List Slot) (first heads : List ℕ) (lists : List (List ℕ)) (from to x : ℕ) (front rest : List ℕ) : Type 0 where
  pub split : list_at lists from ≡ front ++ x ∷ rest
  pub long : length news ≡ length slots
  pub heads_long : length heads ≡ length first
  pub next_x : next_of news x ≡ get_or first to 0
  pub code_x : code_at news x ≡ to
  pub codes : (y : ℕ) → (y ≡ x → ⊥) → code_at news y ≡ code_at slots y
  pub nexts : (y : ℕ) → (code_at slots y ≡ from → ⊥) → next_of news y ≡ next_of slots y
  pub head_to : get_or heads to 0 ≡ x + 1
  pub others : (c : ℕ) → (c ≡ from → ⊥) → (c ≡ to → ⊥) → get_or heads c 0 ≡ get_or first c 0
  pub unlinked : IsLinked news (get_or heads from 0) (front ++ rest)

-- the lists after it
pub record MovedLists (lists news : List (List ℕ)) (from to x : ℕ) (front rest : List ℕ) : Type 0 where
  pub long : length news ≡ length lists
  pub at_to : list_at news to ≡ x ∷ list_at lists to
  pub at_from : list_at news from ≡ front ++ rest
  pub others : (c : ℕ) → (c ≡ from → ⊥) → (c ≡ to → ⊥) → list_at news c ≡ list_at lists c

module _ (slots news : List Slot) (first heads : List ℕ) (lists afters : List (List ℕ)) (from to x : ℕ) (front rest : List ℕ) (was : AreLists slots first lists) (moving : Moving slots news first heads lists from to x front rest) (after : MovedLists lists afters from to x front rest) (from_in : from < length first) (to_in : to < length first) (apart : from ≡ to → ⊥) where
  x_there : Contains (list_at lists from) x
  x_there = subst (λ (xs : List ℕ). Contains xs x) (sym moving.split) (contains_mid front rest x)

  x_code : code_at slots x ≡ from
  x_code = was.own from x from_in x_there

  x_in : x < length slots
  x_in = let in' = linked_in_range slots (get_or first from 0) (list_at lists from) (was.linked from from_in) in
      let there = x_there in
      let here : get_or (list_at lists from) there.0 x < length slots = in' there.0 x there.1 in
      omega (arith, here, there.2)

  once_from : IsOnce (front ++ x ∷ rest)
  once_from = subst IsOnce moving.split (was.once from from_in)

  -- a slot of another list is another slot
  not_x : (c y : ℕ) → c < length first → (c ≡ from → ⊥) → Contains (list_at lists c) y → y ≡ x → ⊥
  not_x c y in' ne h same = ne (sym (was.own c y in' h) ∙ (ap (code_at slots) same ∙ x_code))

  kept_linked : (c : ℕ) → c < length first → (c ≡ from → ⊥) → IsLinked news (get_or first c 0) (list_at lists c)
  kept_linked c in' ne =
      linked_frame slots news (get_or first c 0) (list_at lists c) (omega (arith, moving.long)) (λ y h. moving.nexts y (λ e. ne (sym (was.own c y in' h) ∙ e))) (was.linked c in')

  three : (c : ℕ) → ((c ≡ to) ⊎ (c ≡ from)) ⊎ ((c ≡ from → ⊥) × (c ≡ to → ⊥))
  three c = elim (cases_eq c to) [
    | inl t ↦ inl (inl t)
    | inr nt ↦ elim (cases_eq c from) [ inl f ↦ inl (inr f) | inr nf ↦ inr (nf, nt) ]
  ]

  linked' : (c : ℕ) → c < length heads → IsLinked news (get_or heads c 0) (list_at afters c)
  linked' c h =
      let in' : c < length first = omega (arith, moving.heads_long) in
      elim (three c) [
        | inl one ↦ elim one [
          | inl t ↦
              let later : IsLinked news (next_of news x) (list_at lists to) = rw moving.next_x (kept_linked to to_in (λ e. apart (sym e))) in
              let here : IsLinked news (get_or heads to 0) (x ∷ list_at lists to) = (moving.head_to, omega (arith, x_in, moving.long), later) in
              subst (λ (k : ℕ). IsLinked news (get_or heads k 0) (list_at afters k)) (sym t) (rw after.at_to here)
          | inr f ↦ subst (λ (k : ℕ). IsLinked news (get_or heads k 0) (list_at afters k)) (sym f) (rw after.at_from moving.unlinked)
        ]
        | inr (nf, nt) ↦ rw (moving.others c nf nt, after.others c nf nt) (kept_linked c in' nf)
      ]

  own' : (c y : ℕ) → c < length heads → Contains (list_at afters c) y → code_at news y ≡ c
  own' c y h there =
      let in' : c < length first = omega (arith, moving.heads_long) in
      elim (three c) [
        | inl one ↦ elim one [
          | inl t ↦
              let there' : Contains (x ∷ list_at lists to) y = subst (λ (xs : List ℕ). Contains xs y) (ap (list_at afters) t ∙ after.at_to) there in
              elim (contains_cases x y (list_at lists to) there') [
                | inl is ↦ ap (code_at news) (sym is) ∙ (moving.code_x ∙ sym t)
                | inr later ↦ moving.codes y (not_x to y to_in (λ e. apart (sym e)) later) ∙ (was.own to y to_in later ∙ sym t)
              ]
          | inr f ↦
              let there' : Contains (front ++ rest) y = subst (λ (xs : List ℕ). Contains xs y) (ap (list_at afters) f ∙ after.at_from) there in
              let old : Contains (list_at lists from) y = subst (λ (xs : List ℕ). Contains xs y) (sym moving.split) (contains_past front rest x y there') in
              moving.codes y (λ e. (once_middle front rest x once_from).1 y there' (sym e)) ∙ (was.own from y from_in old ∙ sym f)
        ]
        | inr (nf, nt) ↦
            let there' : Contains (list_at lists c) y = subst (λ (xs : List ℕ). Contains xs y) (after.others c nf nt) there in
            moving.codes y (not_x c y in' nf there') ∙ was.own c y in' there'
      ]

  there_after : (c y : ℕ) → c < length first → (y ≡ x → ⊥) → Contains (list_at lists c) y → Contains (list_at afters c) y
  there_after c y in' ne there =
      elim (three c) [
        | inl one ↦ elim one [
          | inl t ↦
              let there' : Contains (list_at lists to) y = subst (λ (k : ℕ). Contains (list_at lists k) y) t there in
              subst (λ (k : ℕ). Contains (list_at afters k) y) (sym t) (subst (λ (xs : List ℕ). Contains xs y) (sym after.at_to) (Contains-tail x y (list_at lists to) there'))
          | inr f ↦
              let there' : Contains (front ++ x ∷ rest) y = subst (λ (xs : List ℕ). Contains xs y) (ap (list_at lists) f ∙ moving.split) there in
              subst (λ (k : ℕ). Contains (list_at afters k) y) (sym f) (subst (λ (xs : List ℕ). Contains xs y) (sym after.at_from) (contains_other front rest x y (λ e. ne (sym e)) there'))
        ]
        | inr (nf, nt) ↦ subst (λ (xs : List ℕ). Contains xs y) (sym (after.others c nf nt)) there
      ]

  all' : (y : ℕ) → y < length news → (code_at news y < length heads) × Contains (list_at afters (code_at news y)) y
  all' y h =
      elim (cases_eq y x) [
        | inl is ↦
            let code : code_at news y ≡ to = ap (code_at news) is ∙ moving.code_x in (
              omega (arith, code, moving.heads_long),
              subst (λ (k : ℕ). Contains (list_at afters k) y) (sym code) (subst (λ (xs : List ℕ). Contains xs y) (sym after.at_to) (subst (λ (z : ℕ). Contains (x ∷ list_at lists to) z) (sym is) (Contains-head x (list_at lists to)))),
            )
        | inr ne ↦
            let code : code_at news y ≡ code_at slots y = moving.codes y ne in
            let old = was.all y (omega (arith, moving.long)) in (
              omega (arith, code, old.0, moving.heads_long),
              subst (λ (k : ℕ). Contains (list_at afters k) y) (sym code) (there_after (code_at slots y) y old.0 ne old.1),
            )
      ]

  once' : (c : ℕ) → c < length heads → IsOnce (list_at afters c)
  once' c h =
      let in' : c < length first = omega (arith, moving.heads_long) in
      elim (three c) [
        | inl one ↦ elim one [
          | inl t ↦
              let here : IsOnce (x ∷ list_at lists to) = (λ there. not_x to x to_in (λ e. apart (sym e)) there refl, was.once to to_in) in
              subst (λ (k : ℕ). IsOnce (list_at afters k)) (sym t) (subst IsOnce (sym after.at_to) here)
          | inr f ↦ subst (λ (k : ℕ). IsOnce (list_at afters k)) (sym f) (subst IsOnce (sym after.at_from) (once_middle front rest x once_from).0)
        ]
        | inr (nf, nt) ↦ subst IsOnce (sym (after.others c nf nt)) (was.once c in')
      ]

  pub lists_moved : AreLists news heads afters
  lists_moved = record {
    long = omega (arith, after.long, was.long, moving.heads_long);
    linked = linked';
    own = own';
    all = all';
    once = once';
  }

next-set_same : (s : List Slot) (i : ℕ) (v : Slot) → i < length s → next_of (set s i v) i ≡ v.next
next-set_same s i v h = ap (λ (a : Slot). a.next) (get_or-set_same s i v (record { code = 0; next = 0 }) h)

next-set_other : (s : List Slot) (i j : ℕ) (v : Slot) → (j ≡ i → ⊥) → next_of (set s i v) j ≡ next_of s j
next-set_other s i j v ne = ap (λ (a : Slot). a.next) (get_or-set_other s i j v (record { code = 0; next = 0 }) ne)

code-set_same : (s : List Slot) (i : ℕ) (v : Slot) → i < length s → code_at (set s i v) i ≡ v.code
code-set_same s i v h = ap (λ (a : Slot). a.code) (get_or-set_same s i v (record { code = 0; next = 0 }) h)

code-set_other : (s : List Slot) (i j : ℕ) (v : Slot) → (j ≡ i → ⊥) → code_at (set s i v) j ≡ code_at s j
code-set_other s i j v ne = ap (λ (a : Slot). a.code) (get_or-set_other s i j v (record { code = 0; next = 0 }) ne)

-- the parts of a list about one place
pub split_at : (xs : List ℕ) (k : ℕ) (x : ℕ) → k < length xs → get_or xs k 0 ≡ x → xs ≡ take k xs ++ x ∷ drop (suc k) xs
split_at xs k x h is =
    let e : set xs k (get_or xs k 0) ≡ xs = set-get_or xs k 0 in
    let f : set xs k (get_or xs k 0) ≡ take k xs ++ get_or xs k 0 ∷ drop (suc k) xs = set_split xs k (get_or xs k 0) h in
    sym e ∙ (f ∙ ap (λ (z : ℕ). take k xs ++ z ∷ drop (suc k) xs) is)

module _ (slots : List Slot) (first : List ℕ) (lists : List (List ℕ)) (from to x : ℕ) (was : AreLists slots first lists) (from_in : from < length first) (to_in : to < length first) (apart : from ≡ to → ⊥) where
  -- the slot is the first of its list
  pub moving_first : (rest : List ℕ) → list_at lists from ≡ x ∷ rest → (v : Slot) → v ≡ record { code = to; next = get_or (set first from (next_of slots x)) to 0 } →
      Moving slots (set slots x v) first (set (set first from (next_of slots x)) to (x + 1)) lists from to x [] rest
  moving_first rest split v v_is =
      let firsts : List ℕ = set first from (next_of slots x) in
      let old : IsLinked slots (get_or first from 0) (x ∷ rest) = subst (IsLinked slots (get_or first from 0)) split (was.linked from from_in) in
      let once : IsOnce (x ∷ rest) = subst IsOnce split (was.once from from_in) in
      let code : code_at slots x ≡ from = was.own from x from_in (subst (λ (xs : List ℕ). Contains xs x) (sym split) (Contains-head x rest)) in
      let heads : get_or (set firsts to (x + 1)) from 0 ≡ next_of slots x = get_or-set_other firsts to from (x + 1) 0 apart ∙ get_or-set_same first from (next_of slots x) 0 from_in in
      let next_to : get_or firsts to 0 ≡ get_or first to 0 = get_or-set_other first from to (next_of slots x) 0 (λ e. apart (sym e)) in
      record {
        split = split;
        long = length-set slots x v;
        heads_long = length-set firsts to (x + 1) ∙ length-set first from (next_of slots x);
        next_x = next-set_same slots x v old.1 ∙ (ap (λ (a : Slot). a.next) v_is ∙ next_to);
        code_x = code-set_same slots x v old.1 ∙ ap (λ (a : Slot). a.code) v_is;
        codes = λ y ne. code-set_other slots x y v ne;
        nexts = λ y ne. next-set_other slots x y v (λ e. ne (ap (code_at slots) e ∙ code));
        head_to = get_or-set_same firsts to (x + 1) 0 (omega (arith, to_in, length-set first from (next_of slots x)));
        others = λ c nf nt. get_or-set_other firsts to c (x + 1) 0 nt ∙ get_or-set_other first from c (next_of slots x) 0 nf;
        unlinked = subst (λ (l : ℕ). IsLinked (set slots x v) l rest) (sym heads)
            (linked_frame slots (set slots x v) (next_of slots x) rest (omega (arith, length-set slots x v)) (λ y h. next-set_other slots x y v (λ e. once.0 (subst (Contains rest) e h))) old.2);
      }

  -- another slot is before it
  pub moving_later : (p : ℕ) (front rest : List ℕ) → list_at lists from ≡ (front ++ p ∷ []) ++ x ∷ rest → (u v : Slot) → u ≡ record { code = code_at slots p; next = next_of slots x } → v ≡ record { code = to; next = get_or first to 0 } →
      Moving slots (set (set slots p u) x v) first (set first to (x + 1)) lists from to x (front ++ p ∷ []) rest
  moving_later p front rest split u v u_is v_is =
      let news : List Slot = set (set slots p u) x v in
      let whole : (front ++ p ∷ []) ++ x ∷ rest ≡ front ++ p ∷ (x ∷ rest) = append_assoc front (p ∷ []) (x ∷ rest) in
      let old : IsLinked slots (get_or first from 0) (front ++ p ∷ (x ∷ rest)) = subst (IsLinked slots (get_or first from 0)) (split ∙ whole) (was.linked from from_in) in
      let once : IsOnce (front ++ p ∷ (x ∷ rest)) = subst IsOnce (split ∙ whole) (was.once from from_in) in
      let once_x : IsOnce ((front ++ p ∷ []) ++ x ∷ rest) = subst IsOnce split (was.once from from_in) in
      let p_not : (y : ℕ) → Contains (front ++ x ∷ rest) y → p ≡ y → ⊥ = (once_middle front (x ∷ rest) p once).1 in
      let x_not : (y : ℕ) → Contains ((front ++ p ∷ []) ++ rest) y → x ≡ y → ⊥ = (once_middle (front ++ p ∷ []) rest x once_x).1 in
      let x_there : Contains (list_at lists from) x = subst (λ (xs : List ℕ). Contains xs x) (sym split) (contains_mid (front ++ p ∷ []) rest x) in
      let p_there : Contains (list_at lists from) p = subst (λ (xs : List ℕ). Contains xs p) (sym (split ∙ whole)) (contains_mid front (x ∷ rest) p) in
      let x_code : code_at slots x ≡ from = was.own from x from_in x_there in
      let p_code : code_at slots p ≡ from = was.own from p from_in p_there in
      let ranges = linked_in_range slots (get_or first from 0) (list_at lists from) (was.linked from from_in) in
      let x_in : x < length slots = let h : get_or (list_at lists from) x_there.0 x < length slots = ranges x_there.0 x x_there.1 in omega (arith, h, x_there.2) in
      let p_in : p < length slots = let h : get_or (list_at lists from) p_there.0 p < length slots = ranges p_there.0 p p_there.1 in omega (arith, h, p_there.2) in
      let p_x : p ≡ x → ⊥ = p_not x (contains_mid front rest x) in
      let other : (y : ℕ) → (y ≡ x → ⊥) → (y ≡ p → ⊥) → next_of news y ≡ next_of slots y = λ y nx np. next-set_other (set slots p u) x y v nx ∙ next-set_other slots p y u np in
      let x_in' : x < length (set slots p u) = omega (arith, x_in, length-set slots p u) in
      let wide : length news ≡ length slots = length-set (set slots p u) x v ∙ length-set slots p u in
      let heads : get_or (set first to (x + 1)) from 0 ≡ get_or first from 0 = get_or-set_other first to from (x + 1) 0 apart in
      let skip : next_of news p ≡ next_of slots x = next-set_other (set slots p u) x p v p_x ∙ (next-set_same slots p u p_in ∙ ap (λ (a : Slot). a.next) u_is) in
      let back : (front ++ p ∷ []) ++ rest ≡ front ++ p ∷ rest = append_assoc front (p ∷ []) rest in
      let in_front : (y : ℕ) → Contains front y → Contains ((front ++ p ∷ []) ++ rest) y = λ y h. subst (λ (xs : List ℕ). Contains xs y) (sym back) (Contains-append_left front (p ∷ rest) y h) in
      let in_rest : (y : ℕ) → Contains rest y → Contains ((front ++ p ∷ []) ++ rest) y = λ y h. Contains-append_right (front ++ p ∷ []) rest y h in
      let linked : IsLinked news (get_or first from 0) (front ++ p ∷ rest) =
      linked_unlink slots news (get_or first from 0) p x front rest (omega (arith, wide)) skip
      (λ y h. other y (λ e. x_not y (in_front y h) (sym e)) (λ e. p_not y (Contains-append_left front (x ∷ rest) y h) (sym e)))
      (λ y h. other y (λ e. x_not y (in_rest y h) (sym e)) (λ e. p_not y (Contains-append_right front (x ∷ rest) y (Contains-tail x y rest h)) (sym e)))
      old in
      record {
        split = split;
        long = wide;
        heads_long = length-set first to (x + 1);
        next_x = next-set_same (set slots p u) x v x_in' ∙ ap (λ (a : Slot). a.next) v_is;
        code_x = code-set_same (set slots p u) x v x_in' ∙ ap (λ (a : Slot). a.code) v_is;
        codes = λ y ne. code-set_other (set slots p u) x y v ne ∙ elim (cases_eq y p) [
          | inl e ↦ ap (code_at (set slots p u)) e ∙ (code-set_same slots p u p_in ∙ (ap (λ (a : Slot). a.code) u_is ∙ ap (code_at slots) (sym e)))
          | inr np ↦ code-set_other slots p y u np
        ];
        nexts = λ y ne. other y (λ e. ne (ap (code_at slots) e ∙ x_code)) (λ e. ne (ap (code_at slots) e ∙ p_code));
        head_to = get_or-set_same first to (x + 1) 0 to_in;
        others = λ c nf nt. get_or-set_other first to c (x + 1) 0 nt;
        unlinked = rw (heads, back) linked;
      }

-- the lists after a move
pub moved_lists : (lists : List (List ℕ)) (from at x to : ℕ) → from < length lists → to < length lists → (from ≡ to → ⊥) →
    MovedLists lists (moved lists from at x to) from to x (take at (list_at lists from)) (drop (suc at) (list_at lists from))
moved_lists lists from at x to from_in to_in apart =
    let without : List (List ℕ) = set lists from (remove (list_at lists from) at) in
    let long : length without ≡ length lists = length-set lists from (remove (list_at lists from) at) in
    record {
      long = length-set without to (x ∷ list_at lists to) ∙ long;
      at_to = get_or-set_same without to (x ∷ list_at lists to) [] (omega arith);
      at_from = get_or-set_other without to from (x ∷ list_at lists to) [] apart ∙ get_or-set_same lists from (remove (list_at lists from) at) [] from_in;
      others = λ c nf nt. get_or-set_other without to c (x ∷ list_at lists to) [] nt ∙ get_or-set_other lists from c (remove (list_at lists from) at) [] nf;
    }

-- the whole step, as it is written
pub lists_brought : (slots : List Slot) (first : List ℕ) (lists : List (List ℕ)) (from at p x to : ℕ) → AreLists slots first lists → from < length first → to < length first → (from ≡ to → ⊥) → at < length (list_at lists from) → get_or (list_at lists from) at 0 ≡ x → (0 < at → get_or (list_at lists from) (at - 1) 0 ≡ p) →
    (news : List Slot) (heads : List ℕ) → heads ≡ set (unlinked_first first slots from at x) to (x + 1) → news ≡ set (unlinked_slots slots at p x) x (record { code = to; next = get_or (unlinked_first first slots from at x) to 0 }) →
    AreLists news heads (moved lists from at x to)
lists_brought slots first lists from zero p x to was from_in to_in apart h is before news heads heads_is news_is =
    let split : list_at lists from ≡ x ∷ drop 1 (list_at lists from) = split_at (list_at lists from) 0 x h is in
    let v : Slot = record { code = to; next = get_or (set first from (next_of slots x)) to 0 } in
    let moving = moving_first slots first lists from to x was from_in to_in apart (drop 1 (list_at lists from)) split v refl in
    rw (heads_is, news_is) (lists_moved slots _ first _ lists (moved lists from 0 x to) from to x [] (drop 1 (list_at lists from)) was moving (moved_lists lists from 0 x to (omega (arith, was.long)) (omega (arith, was.long)) apart) from_in to_in apart)
lists_brought slots first lists from (suc n) p x to was from_in to_in apart h is before news heads heads_is news_is =
    let list : List ℕ = list_at lists from in
    let rest : List ℕ = drop (suc (suc n)) list in
    let split : list ≡ take (suc n) list ++ x ∷ rest = split_at list (suc n) x h is in
    let back : n ≡ suc n - 1 = omega arith in
    let up : suc n ≡ n + 1 = omega arith in
    let here : get_or list n 0 ≡ p = ap (λ (k : ℕ). get_or list k 0) back ∙ before (omega arith) in
    let front : take (suc n) list ≡ take n list ++ p ∷ [] = ap (λ (k : ℕ). take k list) up ∙ (take_more list n 0 (omega arith) ∙ ap (λ (z : ℕ). take n list ++ z ∷ []) here) in
    let whole : list ≡ (take n list ++ p ∷ []) ++ x ∷ rest = split ∙ ap (λ (f : List ℕ). f ++ x ∷ rest) front in
    let u : Slot = record { code = code_at slots p; next = next_of slots x } in
    let v : Slot = record { code = to; next = get_or first to 0 } in
    let moving = moving_later slots first lists from to x was from_in to_in apart p (take n list) rest whole u v refl refl in
    let after = moved_lists lists from (suc n) x to (omega (arith, was.long)) (omega (arith, was.long)) apart in
    let after' : MovedLists lists (moved lists from (suc n) x to) from to x (take n list ++ p ∷ []) rest = subst (λ (f : List ℕ). MovedLists lists (moved lists from (suc n) x to) from to x f rest) front after in
    rw (heads_is, news_is, eqb-suc-zero n) (lists_moved slots _ first _ lists (moved lists from (suc n) x to) from to x (take n list ++ p ∷ []) rest was moving after' from_in to_in apart)

-- one slot more
module _ (slots : List Slot) (first : List ℕ) (lists : List (List ℕ)) (code : ℕ) (was : AreLists slots first lists) (code_in : code < length first) where
  x : ℕ
  x = length slots

  wider : (v : Slot) → length (slots ++ v ∷ []) ≡ length slots + 1
  wider v = length-append slots (v ∷ [])

  old_slot : (v : Slot) (y : ℕ) → y < length slots → get_or (slots ++ v ∷ []) y (record { code = 0; next = 0 }) ≡ get_or slots y (record { code = 0; next = 0 })
  old_slot v y h = get_or_append_left slots (v ∷ []) (record { code = 0; next = 0 }) y h

  new_slot : (v : Slot) → get_or (slots ++ v ∷ []) (length slots) (record { code = 0; next = 0 }) ≡ v
  new_slot v = get_or_push slots v (record { code = 0; next = 0 }) (length slots) refl

  in_list : (c y : ℕ) → c < length first → Contains (list_at lists c) y → y < length slots
  in_list c y h (k, in', is) = let here : get_or (list_at lists c) k y < length slots = linked_in_range slots (get_or first c 0) (list_at lists c) (was.linked c h) k y in' in omega (arith, here, is)

  still_linked : (v : Slot) (c : ℕ) → c < length first → IsLinked (slots ++ v ∷ []) (get_or first c 0) (list_at lists c)
  still_linked v c h = linked_frame slots (slots ++ v ∷ []) (get_or first c 0) (list_at lists c) (omega (arith, wider v)) (λ y there. ap (λ (a : Slot). a.next) (old_slot v y (in_list c y h there))) (was.linked c h)

  pub lists_added : (v : Slot) → v ≡ record { code = code; next = get_or first code 0 } → AreLists (slots ++ v ∷ []) (set first code (length slots + 1)) (added lists code (length slots))
  lists_added v v_is =
      let news : List Slot = slots ++ v ∷ [] in
      let heads : List ℕ = set first code (length slots + 1) in
      let afters : List (List ℕ) = added lists code (length slots) in
      let n : ℕ = length slots in
      let heads_long : length heads ≡ length first = length-set first code (n + 1) in
      let code_new : code_at news n ≡ code = ap (λ (a : Slot). a.code) (new_slot v ∙ v_is) in
      let next_new : next_of news n ≡ get_or first code 0 = ap (λ (a : Slot). a.next) (new_slot v ∙ v_is) in
      let at_code : list_at afters code ≡ n ∷ list_at lists code = get_or-set_same lists code (n ∷ list_at lists code) [] (omega (arith, was.long, code_in)) in
      let at_other : (c : ℕ) → (c ≡ code → ⊥) → list_at afters c ≡ list_at lists c = λ c ne. get_or-set_other lists code c (n ∷ list_at lists code) [] ne in
      let long : length afters ≡ length lists = length-set lists code (n ∷ list_at lists code) in
      record {
        long = omega (arith, long, was.long, heads_long);
        linked = λ c h. elim (cases_eq c code) [
          | inl e ↦
              let later : IsLinked news (next_of news n) (list_at lists code) = subst (λ (l : ℕ). IsLinked news l (list_at lists code)) (sym next_new) (still_linked v code code_in) in
              let head : get_or heads code 0 ≡ n + 1 = get_or-set_same first code (n + 1) 0 code_in in
              let here : IsLinked news (get_or heads code 0) (n ∷ list_at lists code) = (head, omega (arith, wider v), later) in
              subst (λ (k : ℕ). IsLinked news (get_or heads k 0) (list_at afters k)) (sym e) (subst (IsLinked news (get_or heads code 0)) (sym at_code) here)
          | inr ne ↦
              let head : get_or heads c 0 ≡ get_or first c 0 = get_or-set_other first code c (n + 1) 0 ne in
              let here = still_linked v c (omega (arith, heads_long)) in
              subst (λ (l : ℕ). IsLinked news l (list_at afters c)) (sym head) (subst (IsLinked news (get_or first c 0)) (sym (at_other c ne)) here)
        ];
        own = λ c y h there. elim (cases_eq c code) [
          | inl e ↦
              let there' : Contains (n ∷ list_at lists code) y = subst (λ (xs : List ℕ). Contains xs y) (ap (list_at afters) e ∙ at_code) there in
              elim (contains_cases n y (list_at lists code) there') [
                | inl is ↦ ap (code_at news) (sym is) ∙ (code_new ∙ sym e)
                | inr later ↦ ap (λ (a : Slot). a.code) (old_slot v y (in_list code y code_in later)) ∙ (was.own code y code_in later ∙ sym e)
              ]
          | inr ne ↦
              let in' : c < length first = omega (arith, heads_long) in
              let there' : Contains (list_at lists c) y = subst (λ (xs : List ℕ). Contains xs y) (at_other c ne) there in
              ap (λ (a : Slot). a.code) (old_slot v y (in_list c y in' there')) ∙ was.own c y in' there'
        ];
        all = λ y h. elim (cases_eq y n) [
          | inl e ↦
              let c : code_at news y ≡ code = ap (code_at news) e ∙ code_new in (
                omega (arith, c, heads_long, code_in),
                subst (λ (k : ℕ). Contains (list_at afters k) y) (sym c) (subst (λ (xs : List ℕ). Contains xs y) (sym at_code) (subst (λ (z : ℕ). Contains (n ∷ list_at lists code) z) (sym e) (Contains-head n (list_at lists code)))),
              )
          | inr ne ↦
              let in' : y < length slots = omega (arith, wider v) in
              let c : code_at news y ≡ code_at slots y = ap (λ (a : Slot). a.code) (old_slot v y in') in
              let old = was.all y in' in (
                omega (arith, c, old.0, heads_long),
                subst (λ (k : ℕ). Contains (list_at afters k) y) (sym c) (elim (cases_eq (code_at slots y) code) [
                  | inl e ↦
                      let there : Contains (list_at lists code) y = subst (λ (k : ℕ). Contains (list_at lists k) y) e old.1 in
                      subst (λ (k : ℕ). Contains (list_at afters k) y) (sym e) (subst (λ (xs : List ℕ). Contains xs y) (sym at_code) (Contains-tail n y (list_at lists code) there))
                  | inr ne' ↦ subst (λ (xs : List ℕ). Contains xs y) (sym (at_other (code_at slots y) ne')) old.1
                ]),
              )
        ];
        once = λ c h. elim (cases_eq c code) [
          | inl e ↦
              let here : IsOnce (n ∷ list_at lists code) = (λ there. let in' = in_list code n code_in there in absurd (omega arith), was.once code code_in) in
              subst (λ (k : ℕ). IsOnce (list_at afters k)) (sym e) (subst IsOnce (sym at_code) here)
          | inr ne ↦ subst IsOnce (sym (at_other c ne)) (was.once c (omega (arith, heads_long)))
        ];
      }

-- no slots
unfoldable zeros : ℕ → List ℕ
zeros n = replicate n 0

unfoldable nils : ℕ → List (List ℕ)
nils n = replicate n []

none_at : (n c : ℕ) → get_or (zeros n) c 0 ≡ 0
unfolding zeros
none_at zero c = refl
none_at (suc n) zero = refl
none_at (suc n) (suc c) = none_at n c

nil_at : (n c : ℕ) → get_or (nils n) c [] ≡ []
unfolding nils
nil_at zero c = refl
nil_at (suc n) zero = refl
nil_at (suc n) (suc c) = nil_at n c

pub lists_none : (n : ℕ) → AreLists [] (replicate n 0) (replicate n [])
unfolding zeros nils
lists_none n =
    record {
      long = length-replicate n [] ∙ sym (length-replicate n 0);
      linked = λ c h. subst (IsLinked [] (get_or (replicate n 0) c 0)) (sym (nil_at n c)) (none_at n c);
      own = λ c x h there. let there' : Contains [] x = subst (λ (xs : List ℕ). Contains xs x) (nil_at n c) there in let in' = there'.1 in absurd (omega arith);
      all = λ x h. absurd (omega arith);
      once = λ c h. subst IsOnce (sym (nil_at n c)) tt;
    }

-- a slot of a list, as its callers see it
pub slot_in : (slots : List Slot) (first : List ℕ) (lists : List (List ℕ)) → AreLists slots first lists → (code k x : ℕ) → code < length lists → k < length (list_at lists code) → get_or (list_at lists code) k 0 ≡ x → x < length slots
slot_in slots first lists are code k x in' h is =
    let range : get_or (list_at lists code) k 0 < length slots = linked_in_range slots (get_or first code 0) (list_at lists code) (are.linked code (omega (arith, are.long))) k 0 h in
    omega (arith, range, is)

pub next_in : (slots : List Slot) (first : List ℕ) (lists : List (List ℕ)) → AreLists slots first lists → (code k x : ℕ) → code < length lists → k < length (list_at lists code) → get_or (list_at lists code) k 0 ≡ x → next_of slots x ≡ link_at (list_at lists code) (k + 1)
next_in slots first lists are code k x in' h is =
    let up : k + 1 ≡ suc k = omega arith in
    let e : link_at (list_at lists code) (suc k) ≡ next_of slots (get_or (list_at lists code) k 0) = linked_next slots (get_or first code 0) (list_at lists code) k (are.linked code (omega (arith, are.long))) h in
    sym (ap (link_at (list_at lists code)) up ∙ (e ∙ ap (next_of slots) is))

-- the codes after a move
abbrev pub mk_watched : List ℕ → List (List ℕ) → WatchState
mk_watched codes lists = record { codes = codes; lists = lists }

pub codes_brought : (slots : List Slot) (first : List ℕ) (from at p x to : ℕ) (news : List Slot) → news ≡ set (unlinked_slots slots at p x) x (record { code = to; next = get_or (unlinked_first first slots from at x) to 0 }) → map (λ s. s.code) news ≡ set (map (λ s. s.code) slots) x to
codes_brought slots first from zero p x to news is =
    rw is (map-set (λ (s : Slot). s.code) slots x (record { code = to; next = get_or (set first from (next_of slots x)) to 0 }))
codes_brought slots first from (suc n) p x to news is =
    let u : Slot = record { code = code_at slots p; next = next_of slots x } in
    let same : map (λ (s : Slot). s.code) (set slots p u) ≡ map (λ (s : Slot). s.code) slots = map-set_same (λ (s : Slot). s.code) slots p u (record { code = 0; next = 0 }) refl in
    rw (is, eqb-suc-zero n) (map-set (λ (s : Slot). s.code) (set slots p u) x (record { code = to; next = get_or first to 0 }) ∙ ap (λ (cs : List ℕ). set cs x to) same)

pub watched_equal : (a b : List ℕ) (ls ms : List (List ℕ)) → a ≡ b → ls ≡ ms → mk_watched a ls ≡ mk_watched b ms
watched_equal a b ls ms e f = ap (λ (c : List ℕ). mk_watched c ls) e ∙ ap (mk_watched b) f

pub unlinked_long : (slots : List Slot) (first : List ℕ) (from at p x : ℕ) → (length (unlinked_slots slots at p x) ≡ length slots) × (length (unlinked_first first slots from at x) ≡ length first)
unlinked_long slots first from zero p x = (refl, length-set first from (next_of slots x))
unlinked_long slots first from (suc n) p x = (rw (eqb-suc-zero n) (length-set slots p (record { code = code_at slots p; next = next_of slots x })), rw (eqb-suc-zero n) refl)

-- what the second step writes, by what the first one left
pub relinked : (unlinked slots : List Slot) (heads first : List ℕ) (x to : ℕ) → unlinked ≡ slots → heads ≡ first → set unlinked x (record { code = to; next = get_or heads to 0 }) ≡ set slots x (record { code = to; next = get_or first to 0 })
relinked unlinked slots heads first x to e f =
    let mk : ℕ → Slot = λ n. record { code = to; next = n } in
    ap (λ (s : List Slot). set s x (mk (get_or heads to 0))) e ∙ ap (λ (h : List ℕ). set slots x (mk (get_or h to 0))) f

pub codes_added : (slots : List Slot) (v : Slot) → map (λ s. s.code) (slots ++ v ∷ []) ≡ map (λ s. s.code) slots ++ v.code ∷ []
codes_added slots v = map-append (λ (s : Slot). s.code) slots (v ∷ [])

-- what one slot more makes of slots and heads, and of what callers see
pub slot_added : (slots news : List Slot) (first heads : List ℕ) (code : ℕ) → AreLists slots first (lists_of slots first) → code < length first → heads ≡ set first code (length slots + 1) → news ≡ slots ++ record { code = code; next = get_or first code 0 } ∷ [] →
    AreLists news heads (lists_of news heads) × (mk_watched (map (λ s. s.code) news) (lists_of news heads) ≡ with_slot (mk_watched (map (λ s. s.code) slots) (lists_of slots first)) code) × (length heads ≡ length first) × (length news ≡ length slots + 1)
slot_added slots news first heads code are in' heads_are news_are =
    let v : Slot = record { code = code; next = get_or first code 0 } in
    let lists : List (List ℕ) = lists_of slots first in
    let made : AreLists (slots ++ v ∷ []) (set first code (length slots + 1)) (added lists code (length slots)) = lists_added slots first lists code are in' v refl in
    let now : AreLists news heads (added lists code (length slots)) =
    subst (λ (h : List ℕ). AreLists news h (added lists code (length slots))) (sym heads_are) (subst (λ (s : List Slot). AreLists s (set first code (length slots + 1)) (added lists code (length slots))) (sym news_are) made) in
    let found : lists_of news heads ≡ added lists code (length slots) = lists_found news heads (added lists code (length slots)) now in
    let codes : map (λ (s : Slot). s.code) news ≡ map (λ (s : Slot). s.code) slots ++ code ∷ [] = ap (λ (s : List Slot). map (λ (a : Slot). a.code) s) news_are ∙ codes_added slots v in
    let count : length slots ≡ length (map (λ (s : Slot). s.code) slots) = sym (length-map slots (λ (s : Slot). s.code)) in (
      subst (AreLists news heads) (sym found) now,
      watched_equal _ _ _ _ codes (found ∙ ap (added lists code) count),
      ap length heads_are ∙ length-set first code (length slots + 1),
      ap length news_are ∙ length-append slots (v ∷ []),
    )

pub listed_of : (slots : List Slot) (first : List ℕ) (lists : List (List ℕ)) → AreLists slots first lists → IsListed (mk_watched (map (λ s. s.code) slots) lists)
listed_of slots first lists are =
    let f : Slot → ℕ = λ s. s.code in
    let long : length (map f slots) ≡ length slots = length-map slots f in
    let read : (x : ℕ) → x < length slots → get_or (map f slots) x 0 ≡ code_at slots x = λ x h. get_or-map f slots x (record { code = 0; next = 0 }) 0 h in
    record {
      own = λ code x h (k, in', is).
          let in_first : code < length first = omega (arith, are.long) in
          let range : get_or (list_at lists code) k x < length slots = linked_in_range slots (get_or first code 0) (list_at lists code) (are.linked code in_first) k x in' in
          let x_in : x < length slots = omega (arith, range, is) in
          (omega (arith, x_in, long), read x x_in ∙ are.own code x in_first (k, in', is));
      all = λ x h.
          let x_in : x < length slots = omega (arith, long) in
          let there = are.all x x_in in
          let same : code_at slots x ≡ get_or (map f slots) x 0 = sym (read x x_in) in
          (omega (arith, there.0, same, are.long), subst (λ (c : ℕ). Contains (list_at lists c) x) same there.1);
      short = λ code h.
          let in_first : code < length first = omega (arith, are.long) in
          omega (arith, long, short slots (get_or first code 0) (list_at lists code) (are.linked code in_first) (are.once code in_first));
    }
