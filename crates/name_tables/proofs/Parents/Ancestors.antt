-- Signatures above each other, by names and as walks of the graph.
use Rattle.std.proofs.Common.{◌≡◌, ℕ, zero, suc, ◌<◌, Bool, true, false, ◌||◌, List, [], ◌∷◌, ◌++◌, map, length, Option, Some, None, refl, sym, ap, ◌∙◌, subst, arith, inl, inr, if◌then◌else◌, flat_map, bytes_eq, slice_get, option_map}
use Rattle.std.proofs.lemmas.Bool.{cases_Bool}
use Rattle.std.proofs.lemmas.List.{length-map}
use Rattle.named_model.specs.declared.fault.NameFault.{NameFault}
use Rattle.named_model.specs.declared.fault.NameFault.TheVariants.{Cycle}
use Rattle.named_model.specs.Answers.{first_in}
use Rattle.named_model.specs.Names.{number_of, is_among}
use Rattle.named_model.specs.Faults.{Child, parent_of, ancestors, cycle_faults}
use Rattle.reference_cycles.specs.Cycles.Walks.{IsWalk, IsCyclic, IsFirstCyclic, NoneBelow}
use Rattle.reference_cycles.proofs.Cycles.WalkEdges.{not_both, either, or_left, or_right}
use Rattle.name_tables.proofs.Texts.{equal_texts, same_text}
use Rattle.name_tables.specs.Parents.Graphs.{row_of, place_of}
use Rattle.name_tables.proofs.Parents.Numbers.{text_of, child_at, names, rows, found, missed, reached, edge_in, edge_out}

module _ (cs : List Child) where
  -- the signatures above one, where its parent is known
  above_one : (n : ℕ) (t p u : List ℕ) → parent_of cs t ≡ Some p → is_among (ancestors cs (suc n) t) u ≡ (bytes_eq p u || is_among (ancestors cs n p) u)
  above_one n t p u up = ap (λ (o : Option (List ℕ)). is_among (elim o [ None ↦ [] | Some q ↦ q ∷ ancestors cs n q ]) u) up

  above_none : (n : ℕ) (t u : List ℕ) → parent_of cs t ≡ None → is_among (ancestors cs n t) u ≡ false
  above_none zero t u up = refl
  above_none (suc n) t u up = ap (λ (o : Option (List ℕ)). is_among (elim o [ None ↦ [] | Some q ↦ q ∷ ancestors cs n q ]) u) up

  -- a walk leads to what is above
  walk_above : (n k : ℕ) (over : List ℕ) (l : ℕ) (t u : List ℕ) → number_of (names cs) t ≡ Some k → IsWalk (rows cs) k over l → length over < n → number_of (names cs) u ≡ Some l
      → is_among (ancestors cs n t) u ≡ true
  walk_above zero k over l t u at walk short to = absurd (omega (arith, short))
  walk_above (suc n) k [] l t u at walk short to =
      let e = edge_out cs k l walk in
      let up = (found cs t k at).1 ∙ e.2 in
      let same : e.0 ≡ u = sym (found cs e.0 l e.3).2 ∙ (found cs u l to).2 in
      above_one n t e.0 u up ∙ or_left (bytes_eq e.0 u) (is_among (ancestors cs n e.0) u) (subst (λ v. bytes_eq e.0 v ≡ true) same (same_text e.0))
  walk_above (suc n) k (x ∷ over) l t u at walk short to =
      let e = edge_out cs k x walk.0 in
      let up = (found cs t k at).1 ∙ e.2 in
      above_one n t e.0 u up ∙ or_right (bytes_eq e.0 u) (is_among (ancestors cs n e.0) u) (walk_above n x over l e.0 u e.3 walk.1 (omega (arith, short)) to)

  -- a walk ends at a signature that is the first of its name
  walk_ends : (k : ℕ) (over : List ℕ) (l : ℕ) → IsWalk (rows cs) k over l → (p : List ℕ) × (number_of (names cs) p ≡ Some l)
  walk_ends k [] l walk = let e = edge_out cs k l walk in (e.0, e.3)
  walk_ends k (x ∷ over) l walk = walk_ends x over l walk.1

  -- what is above is reached by a walk
  above_walk : (n k l : ℕ) (t u : List ℕ) → number_of (names cs) t ≡ Some k → number_of (names cs) u ≡ Some l → is_among (ancestors cs n t) u ≡ true
      → (over : List ℕ) × IsWalk (rows cs) k over l
  above_walk zero k l t u at to h = absurd (not_both h refl)
  above_walk (suc n) k l t u at to h = parent (λ m p e inside. above_walk n m l p u e to inside) (parent_of cs t) refl
    where
      here : (k < length cs) × (parent_of cs t ≡ (child_at cs k).parent) × (text_of (child_at cs k) ≡ t)
      here = found cs t k at

      step : ((m : ℕ) (p : List ℕ) → number_of (names cs) p ≡ Some m → is_among (ancestors cs n p) u ≡ true → (over : List ℕ) × IsWalk (rows cs) m over l)
          → (p : List ℕ) → parent_of cs t ≡ Some p → (o : Option ℕ) → number_of (names cs) p ≡ o → is_among (ancestors cs n p) u ≡ true → (over : List ℕ) × IsWalk (rows cs) k over l
      step on p up None e inside = absurd (not_both inside (above_none n p u (missed cs p e)))
      step on p up (Some m) e inside =
          let w = on m p e inside in
          (m ∷ w.0, (edge_in cs k m p here.0 (sym here.1 ∙ up) e, w.1))

      parent : ((m : ℕ) (p : List ℕ) → number_of (names cs) p ≡ Some m → is_among (ancestors cs n p) u ≡ true → (over : List ℕ) × IsWalk (rows cs) m over l)
          → (o : Option (List ℕ)) → parent_of cs t ≡ o → (over : List ℕ) × IsWalk (rows cs) k over l
      parent on None up = absurd (not_both h (above_none (suc n) t u up))
      parent on (Some p) up =
          elim (either (bytes_eq p u) (is_among (ancestors cs n p) u) (sym (above_one n t p u up) ∙ h)) [
            | inl same ↦ ([], edge_in cs k l p here.0 (sym here.1 ∙ up) (ap (number_of (names cs)) (equal_texts p u same) ∙ to))
            | inr inside ↦ step on p up (number_of (names cs) p) refl inside
          ]

  -- whether a signature is above itself
  above_itself : Child → Bool
  above_itself c = is_among (ancestors cs (length cs) (text_of c)) (text_of c)

  cyclic_is_above : (k : ℕ) → IsCyclic (rows cs) k → above_itself (child_at cs k) ≡ true
  unfolding above_itself
  cyclic_is_above k cyclic =
      let end = walk_ends k cyclic.0 k cyclic.1 in
      let name = (found cs end.0 k end.1).2 in
      let number : number_of (names cs) (text_of (child_at cs k)) ≡ Some k = ap (number_of (names cs)) name ∙ end.1 in
      walk_above (length cs) k cyclic.0 k (text_of (child_at cs k)) (text_of (child_at cs k)) number cyclic.1 (omega (arith, cyclic.2, length-map cs (row_of (names cs)))) number

  none_is_above : (bound : ℕ) → NoneBelow (rows cs) bound → (j : ℕ) → j < length cs → j < bound → above_itself (child_at cs j) ≡ false
  unfolding above_itself
  none_is_above bound none j l below =
      elim (cases_Bool (is_among (ancestors cs (length cs) (text_of (child_at cs j))) (text_of (child_at cs j)))) [
        | inl above ↦
            let first = reached cs j l in
            let w = above_walk (length cs) first.0 first.0 (text_of (child_at cs j)) (text_of (child_at cs j)) first.1 first.1 above in
            absurd (none first.0 (omega (arith, below, first.2)) w.0 w.1)
        | inr never ↦ never
      ]

-- the first signature that passes a test is told
faults_by : (Child → Bool) → List Child → List NameFault
faults_by test = flat_map (λ (c : Child). if test c then Cycle c.name.place ∷ [] else [])

first_told : (test : Child → Bool) (xs : List Child) (j : ℕ) → j < length xs → ((i : ℕ) → i < j → test (child_at xs i) ≡ false) → test (child_at xs j) ≡ true
    → first_in (faults_by test xs) ≡ option_map Cycle (slice_get (map place_of xs) j)
unfolding faults_by
first_told test [] j l none here = absurd (omega (arith, l))
first_told test (x ∷ xs) zero l none here = ap (λ b. first_in ((if b then Cycle x.name.place ∷ [] else []) ++ faults_by test xs)) here
first_told test (x ∷ xs) (suc j) l none here =
    ap (λ b. first_in ((if b then Cycle x.name.place ∷ [] else []) ++ faults_by test xs)) (none 0 (omega arith))
    ∙ first_told test xs j (omega (arith, l)) (λ i h. none (suc i) (omega (arith, h))) here

none_told : (test : Child → Bool) (xs : List Child) → ((i : ℕ) → i < length xs → test (child_at xs i) ≡ false) → first_in (faults_by test xs) ≡ None
unfolding faults_by
none_told test [] none = refl
none_told test (x ∷ xs) none =
    ap (λ b. first_in ((if b then Cycle x.name.place ∷ [] else []) ++ faults_by test xs)) (none 0 (omega arith))
    ∙ none_told test xs (λ i h. none (suc i) (omega (arith, h)))

pub some_cycle : (cs : List Child) (k : ℕ) → IsFirstCyclic (rows cs) (Some k) → option_map Cycle (slice_get (map place_of cs) k) ≡ first_in (flat_map (cycle_faults cs) cs)
unfolding faults_by above_itself
some_cycle cs k first =
    let l : k < length cs = omega (arith, first.0, length-map cs (row_of (names cs))) in
    sym (first_told (above_itself cs) cs k l (λ i h. none_is_above cs k first.2 i (omega (arith, h, l)) h) (cyclic_is_above cs k first.1))

pub no_cycle : (cs : List Child) → IsFirstCyclic (rows cs) None → None ≡ first_in (flat_map (cycle_faults cs) cs)
unfolding faults_by above_itself
no_cycle cs first =
    sym (none_told (above_itself cs) cs (λ i h. none_is_above cs (length (rows cs)) first i h (omega (arith, h, length-map cs (row_of (names cs))))))
