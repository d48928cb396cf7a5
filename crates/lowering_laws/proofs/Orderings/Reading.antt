-- What the names of an ordering stand for is read off the list of its atoms.
use Rattle.std.proofs.Common.{◌≡◌, ◌≢◌, ◌⊎◌, ◌↔◌, inl, inr, ℕ, List, [], ◌∷◌, ◌++◌, Contains, AllPairs, refl, sym, ◌∙◌, ap, subst}
use Rattle.std.proofs.lemmas.List.{same_from_push}
use Rattle.tuple_core.specs.declared.atom.Atom.{Atom}
use Rattle.tuple_core.specs.Operators.{Pred, Joined, Transposed, Without, Walk, Closed}
use Rattle.tuple_core.proofs.Walks.{walk_push}
use Rattle.rel_formula.specs.Bounds.{Bounded}
use Rattle.rel_formula.specs.Instance.{InRelation}
use Rattle.lowering_laws.specs.Orders.{Ordering, IsHead, Follows, IsLast, IsBehind, IsOrderable, IsOrdered, Value, ReadsOff}
use Rattle.rel_formula.proofs.OpenCells.{cons_later, cons_cases}
use Rattle.lowering_laws.proofs.Orderings.Lines.{nothing_in, here_is, apart, rest_once, second_there, either_there}
use Rattle.lowering_laws.proofs.Orderings.Said.{single_joined, single_joins, same_atoms, same_firsts, same_seconds, same_tails}

-- ---- lists

behind_there : (xs : List Atom) (a b : Atom) → IsBehind xs a b → Contains xs b
behind_there [] a b h = absurd h
behind_there (x ∷ xs) a b (inl (e, c)) = cons_later x xs b c
behind_there (x ∷ xs) a b (inr h) = cons_later x xs b (behind_there xs a b h)

-- the neighbours of a list, as pairs
abbrev pub Pairs : List Atom → Pred
Pairs xs t = (a : Atom) × (b : Atom) × (t ≡ a ∷ b ∷ []) × Follows xs a b

pair : (xs : List Atom) (a b : Atom) → Follows xs a b → Pairs xs (a ∷ b ∷ [])
pair xs a b f = (a, b, refl, f)

paired : (xs : List Atom) (a b : Atom) → Pairs xs (a ∷ b ∷ []) → Follows xs a b
paired xs a b (c, d, e, f) =
    subst (λ (z : Atom). Follows xs z b) (sym (same_firsts a b c d e)) (subst (λ (z : Atom). Follows xs c z) (sym (same_seconds a b c d e)) f)

further : (xs : List Atom) → AllPairs (λ (a b : Atom). a ≢ b) xs → (a m b : Atom) → Follows xs a m → IsBehind xs m b → IsBehind xs a b
further [] once a m b f h = absurd f
further (x ∷ []) once a m b f h = absurd f
further (x ∷ y ∷ more) once a m b (inl (e, f)) (inl (g, c)) = inl (e, c)
further (x ∷ y ∷ more) once a m b (inl (e, f)) (inr h) = inl (e, behind_there (y ∷ more) m b h)
further (x ∷ y ∷ more) once a m b (inr f) (inl (g, c)) = absurd (apart x m (y ∷ more) once (cons_later y more m (second_there y more a m f)) g)
further (x ∷ y ∷ more) once a m b (inr f) (inr h) = inr (further (y ∷ more) (rest_once x (y ∷ more) once) a m b f h)

next_behind : (xs : List Atom) (a b : Atom) → Follows xs a b → IsBehind xs a b
next_behind [] a b f = absurd f
next_behind (x ∷ []) a b f = absurd f
next_behind (x ∷ y ∷ more) a b (inl (e, f)) = inl (e, here_is y b more f)
next_behind (x ∷ y ∷ more) a b (inr f) = inr (next_behind (y ∷ more) a b f)

walk_behind : (xs : List Atom) → AllPairs (λ (a b : Atom). a ≢ b) xs → (a : Atom) (ms : List Atom) (b : Atom) → Walk (Pairs xs) a ms b → IsBehind xs a b
walk_behind xs once a [] b w = next_behind xs a b (paired xs a b w)
walk_behind xs once a (m ∷ ms) b w = further xs once a m b (paired xs a m w.0) (walk_behind xs once m ms b w.1)

pub more_walks : (P Q : Pred) → ((t : List Atom) → P t → Q t) → (a : Atom) (ms : List Atom) (b : Atom) → Walk P a ms b → Walk Q a ms b
more_walks P Q is a [] b w = is (a ∷ b ∷ []) w
more_walks P Q is a (m ∷ ms) b w = (is (a ∷ m ∷ []) w.0, more_walks P Q is m ms b w.1)

longer : (x : Atom) (xs : List Atom) (t : List Atom) → Pairs xs t → Pairs (x ∷ xs) t
longer x [] t (a, b, e, f) = absurd f
longer x (y ∷ more) t (a, b, e, f) = (a, b, e, inr f)

head_walks : (x : Atom) (xs : List Atom) (b : Atom) → Contains xs b → (ms : List Atom) × Walk (Pairs (x ∷ xs)) x ms b
head_walks x [] b c = absurd (nothing_in b [] refl c)
head_walks x (y ∷ more) b c = elim (cons_cases y more b c) [
  | inl same ↦ ([], pair (x ∷ y ∷ more) x b (inl (refl, same)))
  | inr later ↦
      let way = head_walks y more b later in
      (y ∷ way.0, (pair (x ∷ y ∷ more) x y (inl (refl, refl)), more_walks (Pairs (y ∷ more)) (Pairs (x ∷ y ∷ more)) (longer x (y ∷ more)) y way.0 b way.1))
]

behind_walks : (xs : List Atom) (a b : Atom) → IsBehind xs a b → (ms : List Atom) × Walk (Pairs xs) a ms b
behind_walks [] a b h = absurd h
behind_walks (x ∷ xs) a b (inl (e, c)) =
    let way = head_walks x xs b c in
    (way.0, subst (λ (z : Atom). Walk (Pairs (x ∷ xs)) z way.0 b) e way.1)
behind_walks (x ∷ xs) a b (inr h) =
    let way = behind_walks xs a b h in
    (way.0, more_walks (Pairs xs) (Pairs (x ∷ xs)) (longer x xs) a way.0 b way.1)

-- an atom is the last one, or another one follows
last_or : (xs : List Atom) (a : Atom) → Contains xs a → IsLast xs a ⊎ ((b : Atom) × Follows xs a b)
last_or [] a c = absurd (nothing_in a [] refl c)
last_or (x ∷ []) a c = elim (cons_cases x [] a c) [
  | inl same ↦ inl same
  | inr later ↦ absurd (nothing_in a [] refl later)
]
last_or (x ∷ y ∷ more) a c = elim (cons_cases x (y ∷ more) a c) [
  | inl same ↦ inr (y, inl (same, refl))
  | inr later ↦ elim (last_or (y ∷ more) a later) [
    | inl is ↦ inl is
    | inr (b, f) ↦ inr (b, inr f)
  ]
]

last_there : (xs : List Atom) (a : Atom) → IsLast xs a → Contains xs a
last_there [] a h = absurd h
last_there (x ∷ []) a h = here_is x a [] h
last_there (x ∷ y ∷ more) a h = cons_later x (y ∷ more) a (last_there (y ∷ more) a h)

none_follows : (xs : List Atom) → AllPairs (λ (a b : Atom). a ≢ b) xs → (a b : Atom) → IsLast xs a → Follows xs a b → ⊥
none_follows [] once a b h f = f
none_follows (x ∷ []) once a b h f = f
none_follows (x ∷ y ∷ more) once a b h (inl (e, f)) = apart x a (y ∷ more) once (last_there (y ∷ more) a h) e
none_follows (x ∷ y ∷ more) once a b h (inr f) = none_follows (y ∷ more) (rest_once x (y ∷ more) once) a b h f

-- ---- pairs the other way round

abbrev pub Backward : List Atom → Pred
Backward xs t = Transposed (Pairs xs) t

back : (xs : List Atom) (a b : Atom) → Backward xs (a ∷ b ∷ []) → Follows xs b a
back xs a b (x, y, w, e) =
    paired xs b a (subst (λ (z : Atom). Pairs xs (z ∷ a ∷ [])) (sym (same_seconds a b y x e)) (subst (λ (z : Atom). Pairs xs (x ∷ z ∷ [])) (sym (same_firsts a b y x e)) w))

ahead : (xs : List Atom) (a b : Atom) → Follows xs b a → Backward xs (a ∷ b ∷ [])
ahead xs a b f = (b, a, pair xs b a f, refl)

-- the last step first
behind_last : (xs : List Atom) → AllPairs (λ (a b : Atom). a ≢ b) xs → (a m b : Atom) → IsBehind xs a m → Follows xs m b → IsBehind xs a b
behind_last [] once a m b h f = absurd h
behind_last (x ∷ []) once a m b h f = absurd f
behind_last (x ∷ y ∷ more) once a m b (inl (e, c)) (inl (g, k)) = absurd (apart x m (y ∷ more) once c g)
behind_last (x ∷ y ∷ more) once a m b (inl (e, c)) (inr f) = inl (e, cons_later y more b (second_there y more m b f))
behind_last (x ∷ y ∷ more) once a m b (inr h) (inl (g, k)) = absurd (apart x m (y ∷ more) once (behind_there (y ∷ more) a m h) g)
behind_last (x ∷ y ∷ more) once a m b (inr h) (inr f) = inr (behind_last (y ∷ more) (rest_once x (y ∷ more) once) a m b h f)

back_behind : (xs : List Atom) → AllPairs (λ (a b : Atom). a ≢ b) xs → (a : Atom) (ms : List Atom) (b : Atom) → Walk (Backward xs) a ms b → IsBehind xs b a
back_behind xs once a [] b w = next_behind xs b a (back xs a b w)
back_behind xs once a (m ∷ ms) b w = behind_last xs once b m a (back_behind xs once m ms b w.1) (back xs a m w.0)

turned_walk : (xs : List Atom) (a : Atom) (ms : List Atom) (b : Atom) → Walk (Pairs xs) a ms b → (ns : List Atom) × Walk (Backward xs) b ns a
turned_walk xs a [] b w = ([], ahead xs b a (paired xs a b w))
turned_walk xs a (m ∷ ms) b w =
    let way = turned_walk xs m ms b w.1 in
    (way.0 ++ m ∷ [], walk_push (Backward xs) b way.0 m a way.1 (ahead xs m a (paired xs a m w.0)))

module _ (p : Bounded) (s : List ℕ) (o : Ordering) (own : Atom) (is : IsOrderable p s o own) (ordering : IsOrdered p s o own) where
  abbrev In : ℕ → Pred
  In r t = InRelation p (Contains s) r t

  abbrev Nexts : Pred
  Nexts t = Joined (In o.own) (In o.next) t

  own_alone : (t : List Atom) → In o.own t → t ≡ own ∷ []
  own_alone t x = (is.alone t).0 x

  own_there : In o.own (own ∷ [])
  own_there = (is.alone (own ∷ [])).1 refl

  first_reads : (t : List Atom) → Joined (In o.own) (In o.first) t ↔ ((a : Atom) × (t ≡ a ∷ []) × IsHead ordering.atoms a)
  first_reads t = (
    λ j. let (a, e, h) = (ordering.first (own ∷ t)).0 (single_joined (In o.own) (In o.first) own own_alone t j) in (a, same_tails own own t (a ∷ []) e, h),
    λ x. let (a, e, h) = x in single_joins (In o.own) (In o.first) own own_there t ((ordering.first (own ∷ t)).1 (a, ap (λ (u : List Atom). own ∷ u) e, h)),
  )

  next_reads : (t : List Atom) → Nexts t ↔ Pairs ordering.atoms t
  next_reads t = (
    λ j. let (a, b, e, f) = (ordering.next (own ∷ t)).0 (single_joined (In o.own) (In o.next) own own_alone t j) in (a, b, same_tails own own t (a ∷ b ∷ []) e, f),
    λ x. let (a, b, e, f) = x in single_joins (In o.own) (In o.next) own own_there t ((ordering.next (own ∷ t)).1 (a, b, ap (λ (u : List Atom). own ∷ u) e, f)),
  )

  prev_reads : (t : List Atom) → Transposed Nexts t ↔ ((a : Atom) × (b : Atom) × (t ≡ a ∷ b ∷ []) × Follows ordering.atoms b a)
  prev_reads t = (
    λ j. let (x, y, n, e) = j in (y, x, e, paired ordering.atoms x y ((next_reads (x ∷ y ∷ [])).0 n)),
    λ j. let (a, b, e, f) = j in (b, a, (next_reads (b ∷ a ∷ [])).1 (pair ordering.atoms b a f), e),
  )

  backward_is : (t : List Atom) → Transposed Nexts t ↔ Backward ordering.atoms t
  backward_is t = (
    λ j. let (x, y, n, e) = j in (x, y, (next_reads (x ∷ y ∷ [])).0 n, e),
    λ j. let (x, y, n, e) = j in (x, y, (next_reads (x ∷ y ∷ [])).1 n, e),
  )

  -- the atoms that a walk from x leads to, where the set V has x alone
  walked : (P Q V : Pred) → ((t : List Atom) → P t → Q t) → (x : Atom) → ((t : List Atom) → V t ↔ (t ≡ x ∷ [])) → (t : List Atom) → Joined V (Closed P) t → (a : Atom) × (t ≡ a ∷ []) × ((ms : List Atom) × Walk Q x ms a)
  walked P Q V to x alone t j =
      let (y, ms, a, e, w) = single_joined V (Closed P) x (λ u. (alone u).0) t j in
      let same : x ≡ y = cc in
      (a, same_tails x y t (a ∷ []) e, (ms, more_walks P Q to x ms a (subst (λ (z : Atom). Walk P z ms a) (sym same) w)))

  walks : (P Q V : Pred) → ((t : List Atom) → Q t → P t) → (x : Atom) → ((t : List Atom) → V t ↔ (t ≡ x ∷ [])) → (t : List Atom) (a : Atom) → t ≡ a ∷ [] → (ms : List Atom) → Walk Q x ms a → Joined V (Closed P) t
  walks P Q V from x alone t a e ms w =
      single_joins V (Closed P) x ((alone (x ∷ [])).1 refl) t (x, ms, a, ap (λ (u : List Atom). x ∷ u) e, more_walks Q P from x ms a w)

  module _ (V : Pred) (x : Atom) (alone : (t : List Atom) → V t ↔ (t ≡ x ∷ [])) where
    nexts_read : (t : List Atom) → Joined V (Closed Nexts) t ↔ ((a : Atom) × (t ≡ a ∷ []) × IsBehind ordering.atoms x a)
    nexts_read t = (
      λ j. let (a, e, (ms, w)) = walked Nexts (Pairs ordering.atoms) V (λ u. (next_reads u).0) x alone t j in (a, e, walk_behind ordering.atoms ordering.once x ms a w),
      λ k. let (a, e, h) = k in let way = behind_walks ordering.atoms x a h in walks Nexts (Pairs ordering.atoms) V (λ u. (next_reads u).1) x alone t a e way.0 way.1,
    )

    prevs_read : (t : List Atom) → Joined V (Closed (Transposed Nexts)) t ↔ ((a : Atom) × (t ≡ a ∷ []) × IsBehind ordering.atoms a x)
    prevs_read t = (
      λ j. let (a, e, (ms, w)) = walked (Transposed Nexts) (Backward ordering.atoms) V (λ u. (backward_is u).0) x alone t j in (a, e, back_behind ordering.atoms ordering.once x ms a w),
      λ k.
          let (a, e, h) = k in
          let there' = behind_walks ordering.atoms a x h in
          let way = turned_walk ordering.atoms a there'.0 x there'.1 in
          walks (Transposed Nexts) (Backward ordering.atoms) V (λ u. (backward_is u).1) x alone t a e way.0 way.1,
    )

  -- comparisons of an atom with another one
  module _ (U V : Pred) (x y : Atom) (one : (t : List Atom) → U t ↔ (t ≡ x ∷ [])) (other : (t : List Atom) → V t ↔ (t ≡ y ∷ [])) where
    less_reads : ((t : List Atom) → U t → Joined V (Closed (Transposed Nexts)) t) ↔ IsBehind ordering.atoms x y
    less_reads = (
      λ h. let (a, e, behind) = (prevs_read V y other (x ∷ [])).0 (h (x ∷ []) ((one (x ∷ [])).1 refl)) in subst (λ (z : Atom). IsBehind ordering.atoms z y) (sym (same_atoms x a e)) behind,
      λ h t u. (prevs_read V y other t).1 (x, (one t).0 u, h),
    )

    greater_reads : ((t : List Atom) → U t → Joined V (Closed Nexts) t) ↔ IsBehind ordering.atoms y x
    greater_reads = (
      λ h. let (a, e, behind) = (nexts_read V y other (x ∷ [])).0 (h (x ∷ []) ((one (x ∷ [])).1 refl)) in subst (λ (z : Atom). IsBehind ordering.atoms y z) (sym (same_atoms x a e)) behind,
      λ h t u. (nexts_read V y other t).1 (x, (one t).0 u, h),
    )

    equal_reads : (((t : List Atom) → U t → V t) × ((t : List Atom) → V t → U t)) ↔ (x ≡ y)
    equal_reads = (
      λ h. same_atoms x y ((other (x ∷ [])).0 (h.0 (x ∷ []) ((one (x ∷ [])).1 refl))),
      λ same. (
        λ t u. (other t).1 ((one t).0 u ∙ ap (λ (z : Atom). z ∷ []) same),
        λ t v. (one t).1 ((other t).0 v ∙ ap (λ (z : Atom). z ∷ []) (sym same)),
      ),
    )

  -- the atoms behind which another one stands
  followed : (a : Atom) → Joined Nexts (In o.signature) (a ∷ []) → (b : Atom) × Follows ordering.atoms a b
  followed a (l, r, n, x, (xs, m, ys, before, behind, whole)) =
      let (c, d, e, f) = (next_reads l).0 n in
      let (k, one) = is.atoms r x in
      let none : ys ≡ [] = same_tails m k ys [] (sym behind ∙ one) in
      let ends = same_from_push (c ∷ []) xs d m (sym e ∙ before) in
      let front : a ∷ [] ≡ c ∷ [] = whole ∙ ap (λ (u : List Atom). u ++ ys) (sym ends.0) ∙ ap (λ (u : List Atom). c ∷ u) none in
      (d, subst (λ (z : Atom). Follows ordering.atoms z d) (sym (same_atoms a c front)) f)

  follows : (a b : Atom) → Follows ordering.atoms a b → In o.signature (b ∷ []) → Joined Nexts (In o.signature) (a ∷ [])
  follows a b f x = (a ∷ b ∷ [], b ∷ [], (next_reads (a ∷ b ∷ [])).1 (pair ordering.atoms a b f), x, (a ∷ [], b, [], refl, refl, refl))

  second_in : (a b : Atom) → Follows ordering.atoms a b → In o.signature (b ∷ [])
  second_in a b f = (ordering.each b).0 (either_there ordering.atoms a b f)

  last_reads : (t : List Atom) → Without (In o.signature) (Joined Nexts (In o.signature)) t ↔ ((a : Atom) × (t ≡ a ∷ []) × IsLast ordering.atoms a)
  last_reads t = (
    λ j.
        let (a, e) = is.atoms t j.0 in
        let there' = (ordering.each a).1 (subst (In o.signature) e j.0) in (
          a,
          e,
          elim (last_or ordering.atoms a there') [
            | inl last ↦ last
            | inr (b, f) ↦ absurd (j.1 (subst (Joined Nexts (In o.signature)) (sym e) (follows a b f (second_in a b f))))
          ],
        ),
    λ k.
        let (a, e, h) = k in (
          subst (In o.signature) (sym e) ((ordering.each a).0 (last_there ordering.atoms a h)),
          λ j. let (b, f) = followed a (subst (Joined Nexts (In o.signature)) e j) in none_follows ordering.atoms ordering.once a b h f,
        ),
  )

  pub read_off : ReadsOff p s o ordering.atoms
  read_off = record {
    first = λ env. first_reads;
    last = λ env. last_reads;
    next = λ env. next_reads;
    prev = λ env. prev_reads;
    nexts = λ env t e x alone. nexts_read (Value p s env e) x alone t;
    prevs = λ env t e x alone. prevs_read (Value p s env e) x alone t;
    lt = λ env e f x y one other. let reads = less_reads (Value p s env e) (Value p s env f) x y one other in (λ h. reads.0 h.0, λ k. (reads.1 k, tt));
    gt = λ env e f x y one other. let reads = greater_reads (Value p s env e) (Value p s env f) x y one other in (λ h. reads.0 h.0, λ k. (reads.1 k, tt));
    lte = λ env e f x y one other.
        let reads = less_reads (Value p s env e) (Value p s env f) x y one other in
        let same = equal_reads (Value p s env e) (Value p s env f) x y one other in (
          λ h. elim h.0 [ inl both ↦ inl (same.0 both) | inr more ↦ elim more [ inl less ↦ inr (reads.0 less.0) | inr none ↦ absurd none ] ],
          λ k. (elim k [ inl equals ↦ inl (same.1 equals) | inr behind ↦ inr (inl (reads.1 behind, tt)) ], tt),
        );
    gte = λ env e f x y one other.
        let reads = greater_reads (Value p s env e) (Value p s env f) x y one other in
        let same = equal_reads (Value p s env e) (Value p s env f) x y one other in (
          λ h. elim h.0 [ inl both ↦ inl (same.0 both) | inr more ↦ elim more [ inl greater ↦ inr (reads.0 greater.0) | inr none ↦ absurd none ] ],
          λ k. (elim k [ inl equals ↦ inl (same.1 equals) | inr behind ↦ inr (inl (reads.1 behind, tt)) ], tt),
        );
  }
