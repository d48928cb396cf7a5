-- The tuples of a sorted list that begin with one atom stand side by side.
use Rattle.std.proofs.Common.{◌≡◌, ℕ, ◌+◌, ◌-◌, ◌≤◌, ◌<◌, ◌↔◌, inl, inr, List, [], ◌∷◌, length, get_or, take, drop, All, Contains, refl, sym, ◌∙◌, ap, subst, arith}
use Rattle.std.specs.Prelude.{Result, Ok, Err, IfOk}
use Rattle.std.specs.declared.cmp.Ordering.{Ordering}
use Rattle.std.specs.declared.cmp.Ordering.TheVariants.{Less, Equal, Greater}
use Rattle.std.specs.Ordering.{ordering_then, ordering_reverse}
use Rattle.std.specs.List.{HoldsAt}
use Rattle.std.specs.List.Sorted.{IsSearchInRange, IsBinarySearchResult}
use Rattle.std.proofs.lemmas.Bool.{cases_lt}
use Rattle.std.proofs.lemmas.Cmp.{tied_itself}
use Rattle.std.proofs.lemmas.List.{get_or_default, get_or-take, get_or-drop, length-take-le, length-drop}
use Rattle.std.proofs.lemmas.List.Elements.{All-contains, Contains-get_or}
use Rattle.tuple_core.specs.declared.atom.Atom.{Atom}
use Rattle.tuple_core.specs.Operators.{BeginsWith, EndsWith, JoinsTo}
use Rattle.tuple_core.specs.Gains.{Same, SomeGives}
use Rattle.tuple_core.specs.Order.{atom_cmp, tuple_cmp, IsAscending}
use Rattle.tuple_core.specs.Rows.{Rows, IsRows}
use Rattle.tuple_core.proofs.Ascending.{tuple_order, tied, searchable}
use Rattle.tuple_core.proofs.Atoms.{same_last}
use Rattle.rel_terms.specs.Counting.{IsPlaceOf}

abbrev pub PlaceIs : List (List Atom) → List Atom → Result ℕ ℕ → Type 0
PlaceIs xs x (Ok i) = IsPlaceOf xs x i
PlaceIs xs x (Err i) = IsPlaceOf xs x i

-- what a search finds is such a place
pub place_is : (xs : List (List Atom)) (x : List Atom) (r : Result ℕ ℕ) → IsAscending xs → IsSearchInRange r (length xs) → IfOk r (HoldsAt (λ y. tuple_cmp y x ≡ Equal) xs) → IsBinarySearchResult (λ y. tuple_cmp y x) xs r → PlaceIs xs x r
place_is xs x (Ok i) up within ok at =
    let here : get_or xs i x ≡ x = tied (get_or xs i x) x (ok x) in
    record {
      bound = omega arith;
      before = λ k d l. subst (λ y. tuple_cmp (get_or xs k d) y ≡ Less) (get_or_default xs i d x within ∙ here) (up k i d l within);
      after = λ k d l h less. elim (cases_lt i k) [
        | inl above ↦
            let later : tuple_cmp x (get_or xs k d) ≡ Less = subst (λ y. tuple_cmp y (get_or xs k d) ≡ Less) (get_or_default xs i d x within ∙ here) (up i k d above h) in
            let turned = tuple_order.antisymm (get_or xs k d) x ∙ ap ordering_reverse later in
            absurd (cc)
        | inr at' ↦
            let same : i ≡ k = omega arith in
            let equal : get_or xs k d ≡ x = subst (λ n. get_or xs n d ≡ x) same (get_or_default xs i d x within ∙ here) in
            let tie = tied_itself tuple_order x in
            let less' = subst (λ y. tuple_cmp y x ≡ Less) equal less in
            absurd (cc)
      ];
    }
place_is xs x (Err i) up within ok at =
    let part = at (searchable xs x up) in
    record {
      bound = within;
      before = λ k d l. part.0 k d (omega arith) l;
      after = λ k d l h less. let greater = part.1 k d l h in absurd (cc);
    }

-- a tuple that begins with an atom doesn't come before that atom alone
begins_late : (a : Atom) (t : List Atom) → BeginsWith a t → tuple_cmp t (a ∷ []) ≡ Less → ⊥
begins_late a t begins less = go (atom_cmp a a) begins.0 (tied_itself tuple_order (a ∷ [])) (subst (λ u. tuple_cmp u (a ∷ []) ≡ Less) begins.1 less)
  where
    go : (o : Ordering) (rest : List Atom) → ordering_then o Equal ≡ Equal → ordering_then o (tuple_cmp rest []) ≡ Less → ⊥
    go Less rest e l = absurd (cc)
    go Equal [] e l = absurd (cc)
    go Equal (y ∷ ys) e l = absurd (cc)
    go Greater rest e l = absurd (cc)

-- between the atom alone and a tuple that begins with it are such tuples only
begins_between : (a : Atom) (s t : List Atom) → (tuple_cmp s (a ∷ []) ≡ Less → ⊥) → BeginsWith a t → tuple_cmp s t ≡ Less → (b : Atom) (bs : List Atom) → s ≡ b ∷ bs → tuple_cmp (b ∷ []) (a ∷ []) ≡ Equal
begins_between a s t late begins less b bs e =
    go (atom_cmp b a) (λ h. late (subst (λ u. tuple_cmp u (a ∷ []) ≡ Less) (sym e) h)) (subst (λ u. tuple_cmp u (a ∷ begins.0) ≡ Less) e (subst (λ u. tuple_cmp s u ≡ Less) begins.1 less))
  where
    go : (o : Ordering) → (ordering_then o (tuple_cmp bs []) ≡ Less → ⊥) → ordering_then o (tuple_cmp bs begins.0) ≡ Less → ordering_then o Equal ≡ Equal
    go Less n l = absurd (n refl)
    go Equal n l = refl
    go Greater n l = absurd (cc)

-- one more tuple that begins with the atom
pub begins_here : (rows : List (List Atom)) (a : Atom) (from to : ℕ) (x : List Atom) → to < length rows → x ≡ get_or rows to x →
    ((k : ℕ) (d : List Atom) → from ≤ k → k < to → BeginsWith a (get_or rows k d)) → BeginsWith a x →
    (k : ℕ) (d : List Atom) → from ≤ k → k < to + 1 → BeginsWith a (get_or rows k d)
begins_here rows a from to x l is before here k d low high = elim (cases_lt k to) [
  | inl less ↦ before k d low less
  | inr at ↦ let same : to ≡ k = omega arith in subst (λ n. BeginsWith a (get_or rows n d)) same (subst (BeginsWith a) (is ∙ get_or_default rows to x d l) here)
]

module _ (rows : List (List Atom)) (from to : ℕ) (low : from ≤ to) (high : to ≤ length rows) where
  -- the tuples from the one place to the other
  abbrev pub run : List (List Atom)
  run = take (to - from) (drop from rows)

  run_length : length run ≡ to - from
  run_length = length-take-le (to - from) (drop from rows) (let e = length-drop from rows in omega arith)

  run_at : (k : ℕ) (d : List Atom) → k < to - from → get_or run k d ≡ get_or rows (from + k) d
  run_at k d l = get_or-take (to - from) (drop from rows) k d l ∙ get_or-drop from rows k d

  pub run_ascending : IsAscending rows → IsAscending run
  run_ascending up i j d less l =
      let e = run_length in
      subst (λ t. tuple_cmp (get_or run i d) t ≡ Less) (sym (run_at j d (omega arith)))
      (subst (λ s. tuple_cmp s (get_or rows (from + j) d) ≡ Less) (sym (run_at i d (omega arith))) (up (from + i) (from + j) d (omega arith) (omega arith)))

  -- where the tuples of the run begin with the atom, and no other does, the run has just these
  pub run_has : (a : Atom) → ((k : ℕ) (d : List Atom) → from ≤ k → k < to → BeginsWith a (get_or rows k d)) →
      ((k : ℕ) (d : List Atom) → k < from → BeginsWith a (get_or rows k d) → ⊥) → ((k : ℕ) (d : List Atom) → to ≤ k → k < length rows → BeginsWith a (get_or rows k d) → ⊥) →
      (t : List Atom) → Contains run t ↔ (Contains rows t × BeginsWith a t)
  run_has a inside before after t = (
    λ c.
        let e = run_length in
        let h = c.1 in
        let at : get_or rows (from + c.0) t ≡ t = sym (run_at c.0 t (omega arith)) ∙ c.2 in
        ((from + c.0, omega arith, at), subst (BeginsWith a) at (inside (from + c.0) t (omega arith) (omega arith))),
    λ h.
        let k = h.0.0 in
        let l = h.0.1 in
        let begins = subst (BeginsWith a) (sym h.0.2) h.1 in
        elim (cases_lt k from) [
          | inl early ↦ absurd (before k t early begins)
          | inr there ↦ elim (cases_lt k to) [
            | inr late ↦ absurd (after k t late l begins)
            | inl in' ↦
                let e = run_length in
                let same : from + (k - from) ≡ k = omega arith in
                (k - from, omega arith, run_at (k - from) t (omega arith) ∙ ap (λ n. get_or rows n t) same ∙ h.0.2)
          ]
        ],
  )

  -- where the run ends before the list does, the tuple there doesn't begin with the atom, and none behind it does
  pub run_ends : (a b : Atom) (x : List Atom) → IsAscending rows → IsPlaceOf rows (a ∷ []) from → to < length rows → x ≡ get_or rows to x → BeginsWith b x → (b ≡ a → ⊥) →
      (k : ℕ) (d : List Atom) → to ≤ k → k < length rows → BeginsWith a (get_or rows k d) → ⊥
  run_ends a b x up place l is begins other k d past h there =
      let at : get_or rows to d ≡ b ∷ begins.0 = get_or_default rows to d x l ∙ sym is ∙ begins.1 in
      elim (cases_lt to k) [
        | inr same' ↦
            let same : to ≡ k = omega arith in
            let both : b ∷ begins.0 ≡ a ∷ there.0 = sym at ∙ ap (λ n. get_or rows n d) same ∙ there.1 in
            other (cc)
        | inl later ↦
            let late : tuple_cmp (get_or rows to d) (a ∷ []) ≡ Less → ⊥ = place.after to d low l in
            let tie = begins_between a (get_or rows to d) (get_or rows k d) late there (up to k d later h) b begins.0 at in
            let one : b ∷ [] ≡ a ∷ [] = tied (b ∷ []) (a ∷ []) tie in
            other (cc)
      ]

  pub run_begins : (a : Atom) → IsPlaceOf rows (a ∷ []) from → (k : ℕ) (d : List Atom) → k < from → BeginsWith a (get_or rows k d) → ⊥
  run_begins a place k d l begins = begins_late a (get_or rows k d) begins (place.before k d l)

-- a tuple joins to something with those only that begin with its last atom
pub joins_starting : (x : List Atom) (m : Atom) (rs ss : List (List Atom)) → EndsWith m x → ((t : List Atom) → Contains ss t ↔ (Contains rs t × BeginsWith m t)) →
    Same (SomeGives ss (λ r t. JoinsTo x r t)) (SomeGives rs (λ r t. JoinsTo x r t))
joins_starting x m rs ss ends just = record {
  to = λ t g. (g.0, ((just g.0).0 g.1).0, g.2);
  back = λ t g.
      let j = g.2 in
      let same : j.1 ≡ m = same_last j.0 ends.0 j.1 m (sym j.3 ∙ ends.1) in
      (g.0, (just g.0).1 (g.1, (j.2, j.4 ∙ ap (λ a. a ∷ j.2) same)), j);
}

-- they are as long as all
pub long_starting : (v : Rows) (m : Atom) (rs ss : List (List Atom)) → IsRows v → rs ≡ v.rows → ((t : List Atom) → Contains ss t ↔ (Contains rs t × BeginsWith m t)) → All (λ r. length r ≡ v.arity) ss
long_starting v m rs ss well e just k d l =
    All-contains (λ r. length r ≡ v.arity) v.rows (get_or ss k d) well.arities (subst (λ zs. Contains zs (get_or ss k d)) e ((just (get_or ss k d)).0 (Contains-get_or ss k d l)).0)
