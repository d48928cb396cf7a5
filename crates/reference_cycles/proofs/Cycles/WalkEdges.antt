-- Walks, edge by edge.
use Rattle.std.proofs.Common.{◌≡◌, ◌⊎◌, ℕ, ◌<◌, Bool, true, false, ◌||◌, nat_lt, List, [], ◌∷◌, ◌++◌, length, inl, inr, refl, sym, ap, ◌∙◌}
use Rattle.std.proofs.lemmas.Bool.{cases_Bool, ltb-true, ltb-false}
use Rattle.std.proofs.lemmas.List.{get_or_past}
use Rattle.reference_cycles.specs.Cycles.Walks.{among, IsEdge, IsWalk}

-- ---- tests

true_is_not_false : true ≡ false → ⊥
true_is_not_false h = absurd cc

pub not_both : {b : Bool} → b ≡ true → b ≡ false → ⊥
not_both t f = true_is_not_false (sym t ∙ f)

pub either : (a b : Bool) → (a || b) ≡ true → (a ≡ true) ⊎ (b ≡ true)
either true b h = inl refl
either false b h = inr h

pub or_left : (a b : Bool) → a ≡ true → (a || b) ≡ true
or_left a b h = ap (λ c. c || b) h

pub or_right : (a b : Bool) → b ≡ true → (a || b) ≡ true
or_right true b h = refl
or_right false b h = h

-- ---- edges and walks

module _ (rows : List (List ℕ)) where
  pub has_row : (k r : ℕ) → IsEdge rows k r → k < length rows
  has_row k r edge =
      elim (cases_Bool (nat_lt k (length rows))) [
        | inl low ↦ ltb-true k (length rows) low
        | inr high ↦ absurd (not_both edge (ap (among r) (get_or_past rows k [] (ltb-false k (length rows) high))))
      ]

  -- an edge more behind a walk
  pub walk_behind : (k : ℕ) (over : List ℕ) (r l : ℕ) → IsWalk rows k over r → IsEdge rows r l → IsWalk rows k (over ++ r ∷ []) l
  walk_behind k [] r l edge last = (edge, last)
  walk_behind k (x ∷ over) r l walk last = (walk.0, walk_behind x over r l walk.1 last)

  -- what is closed under edges is never left
  pub stays_in : (Closed : ℕ → Type 0) → ((k r : ℕ) → Closed k → IsEdge rows k r → Closed r) → (k : ℕ) (over : List ℕ) (l : ℕ) → ((r : ℕ) → IsEdge rows k r → Closed r) → IsWalk rows k over l → Closed l
  stays_in Closed steps k [] l first edge = first l edge
  stays_in Closed steps k (x ∷ over) l first walk = stays_in Closed steps x over l (λ r edge. steps x r (first x walk.0) edge) walk.1
