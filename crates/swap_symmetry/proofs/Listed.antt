-- A list of the pairs of atoms that stand one after the other in a sorted list and have one signature.
use Rattle.std.proofs.Common.{◌≡◌, ℕ, ◌+◌, ◌<◌, ◌≤◌, ◌↔◌, ◌⊎◌, inl, inr, List, [], ◌∷◌, ◌++◌, length, get_or, All, AllPairs, Contains, refl, sym, ◌∙◌, ap, subst, arith}
use Rattle.std.specs.declared.cmp.Ordering.TheVariants.{Less}
use Rattle.std.proofs.lemmas.Bool.{cases_lt}
use Rattle.std.proofs.lemmas.List.{get_or_default}
use Rattle.std.proofs.lemmas.List.Quantifiers.{all_pairs_push}
use Rattle.std.proofs.lemmas.List.Elements.{All-push, All-contains, Contains-push, Contains-push_cases, Contains-append_left}
use Rattle.tuple_core.specs.declared.atom.Atom.{Atom}
use Rattle.tuple_core.specs.Order.{atom_cmp, IsAscending}
use Rattle.rel_formula.specs.Bounds.{Bounded, InAtoms}
use Rattle.swap_symmetry.specs.Swaps.{AreNeighbours}
use Rattle.swap_symmetry.proofs.Adjacent.{Pair, pair_from, neighbours_from, one_row_atom, first_before}

-- the pair stands at a place below this one
pub record StandsBelow (rows : List (List Atom)) (place : ℕ) (pair : Atom × Atom) : Type 0 where
  pub at : ℕ
  pub below : at + 1 < place
  pub within : at + 1 < length rows
  pub first : get_or rows at (pair.0 ∷ []) ≡ pair.0 ∷ []
  pub second : get_or rows (at + 1) (pair.1 ∷ []) ≡ pair.1 ∷ []
  pub one_top : pair.0.top ≡ pair.1.top

-- the pairs below a place are listed, in order
pub record Lists (rows : List (List Atom)) (place : ℕ) (pairs : List (Atom × Atom)) : Type 0 where
  pub each : All (StandsBelow rows place) pairs
  pub all : (pair : Atom × Atom) → StandsBelow rows place pair → Contains pairs pair
  pub rising : AllPairs (λ (x y : Atom × Atom). atom_cmp x.0 y.0 ≡ Less) pairs

pub none_listed : (rows : List (List Atom)) → Lists rows 1 []
none_listed rows = record {
  each = λ k d l. absurd (omega arith);
  all = λ pair s. absurd (let l = s.below in omega arith);
  rising = λ j k d less l. absurd (omega arith);
}

one_up : (rows : List (List Atom)) (i : ℕ) (pairs : List (Atom × Atom)) → All (StandsBelow rows i) pairs → All (StandsBelow rows (i + 1)) pairs
one_up rows i pairs each k d l = let s = each k d l in record {
  at = s.at;
  below = let b = s.below in omega arith;
  within = s.within;
  first = s.first;
  second = s.second;
  one_top = s.one_top;
}

-- the pair at a place is that of these two
same_pair : (rows : List (List Atom)) (i : ℕ) (a b : Atom) (pair : Atom × Atom) → i < length rows → (k : ℕ) → k + 1 ≡ i → get_or rows k (a ∷ []) ≡ a ∷ [] → get_or rows i (b ∷ []) ≡ b ∷ [] →
    get_or rows k (pair.0 ∷ []) ≡ pair.0 ∷ [] → get_or rows (k + 1) (pair.1 ∷ []) ≡ pair.1 ∷ [] → (a, b) ≡ pair
same_pair rows i a b pair l k is e f g h =
    let one = one_row_atom rows k a pair.0 (omega arith) e g in
    let two = one_row_atom rows i b pair.1 l f (subst (λ n. get_or rows n (pair.1 ∷ []) ≡ pair.1 ∷ []) is h) in
    ap (λ x. (x, b)) one ∙ ap (λ y. (pair.0, y)) two

module _ (p : Bounded) (rows : List (List Atom)) (up : IsAscending rows) (just : (t : List Atom) → Contains rows t ↔ InAtoms p t) where
  module _ (i k : ℕ) (a b : Atom) (pairs : List (Atom × Atom)) (is : k + 1 ≡ i) (l : i < length rows) (e : get_or rows k (a ∷ []) ≡ a ∷ []) (f : get_or rows i (b ∷ []) ≡ b ∷ [])
      (so_far : Lists rows i pairs) where
    -- no pair stands at this place where the two have not one signature
    pub skipped : (a.top ≡ b.top → ⊥) → Lists rows (i + 1) pairs
    skipped apart = record {
      each = one_up rows i pairs so_far.each;
      all = λ pair s. elim (cases_lt (s.at + 1) i) [
        | inl less ↦ so_far.all pair (record { at = s.at; below = less; within = s.within; first = s.first; second = s.second; one_top = s.one_top })
        | inr past ↦
            let b' = s.below in
            let here : s.at ≡ k = omega arith in
            let same = same_pair rows i a b pair l k is e f (subst (λ n. get_or rows n (pair.0 ∷ []) ≡ pair.0 ∷ []) here s.first) (subst (λ n. get_or rows (n + 1) (pair.1 ∷ []) ≡ pair.1 ∷ []) here s.second) in
            absurd (apart (subst (λ (x : Atom × Atom). x.0.top ≡ x.1.top) (sym same) s.one_top))
      ];
      rising = so_far.rising;
    }

    -- one pair more
    pub listed : a.top ≡ b.top → Lists rows (i + 1) (pairs ++ (a, b) ∷ [])
    listed tops =
        let here : StandsBelow rows (i + 1) (a, b) = record { at = k; below = omega arith; within = omega arith; first = e; second = subst (λ n. get_or rows n (b ∷ []) ≡ b ∷ []) (sym is) f; one_top = tops } in record {
          each = All-push (StandsBelow rows (i + 1)) pairs (a, b) (one_up rows i pairs so_far.each) here;
          all = λ pair s. elim (cases_lt (s.at + 1) i) [
            | inl less ↦ Contains-append_left pairs ((a, b) ∷ []) pair (so_far.all pair (record { at = s.at; below = less; within = s.within; first = s.first; second = s.second; one_top = s.one_top }))
            | inr past ↦
                let b' = s.below in
                let at : s.at ≡ k = omega arith in
                let same = same_pair rows i a b pair l k is e f (subst (λ n. get_or rows n (pair.0 ∷ []) ≡ pair.0 ∷ []) at s.first) (subst (λ n. get_or rows (n + 1) (pair.1 ∷ []) ≡ pair.1 ∷ []) at s.second) in
                subst (Contains (pairs ++ (a, b) ∷ [])) same (Contains-push pairs (a, b))
          ];
          rising = all_pairs_push (λ (x y : Atom × Atom). atom_cmp x.0 y.0 ≡ Less) pairs (a, b) so_far.rising
              (λ m d less. let s = so_far.each m d less in let w = s.below in first_before p rows up just s.at k (get_or pairs m d).0 a (omega arith) (omega arith) s.first e);
        }

  -- where all places are listed, so are all neighbours
  pub all_listed : (i : ℕ) (pairs : List (Atom × Atom)) → length rows ≤ i → Lists rows i pairs → (a b : Atom) → Contains pairs (a, b) ↔ AreNeighbours p a b
  all_listed i pairs end lists a b = (
    λ c.
        let s = All-contains (StandsBelow rows i) pairs (a, b) lists.each c in
        neighbours_from p rows up just s.at a b s.within s.first s.second s.one_top,
    λ next.
        let pair = pair_from p rows up just a b next in
        lists.all (a, b) (record { at = pair.at; below = (let l = pair.within in omega arith); within = pair.within; first = pair.first; second = pair.second; one_top = next.one_top }),
  )
