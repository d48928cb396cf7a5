-- Signatures by their names and by their numbers, and the edges of their graph.
use Rattle.std.proofs.Common.{◌≡◌, ℕ, zero, suc, ◌+◌, ◌<◌, ◌≤◌, ◌==◌, true, false, List, [], ◌∷◌, map, length, get_or, Option, Some, None, refl, sym, ap, ◌∙◌, subst, arith, inl, inr, bytes_eq}
use Rattle.std.specs.Option.{option_and_then}
use Rattle.std.specs.List.{position_from}
use Rattle.std.proofs.lemmas.Bool.{cases_Bool, eqb-true, eq-eqb}
use Rattle.std.proofs.lemmas.List.{length-map, get_or-map}
use Rattle.std.proofs.lemmas.Iterator.Adapters.{position_from-zero}
use Rattle.named_model.specs.Names.{number_of}
use Rattle.named_model.specs.Faults.{Child, parent_of}
use Rattle.reference_cycles.specs.Cycles.Walks.{row_of as row_at, among, IsEdge}
use Rattle.reference_cycles.proofs.Cycles.WalkEdges.{not_both, either, or_left, has_row}
use Rattle.name_tables.proofs.Texts.{equal_texts, same_text}
use Rattle.name_tables.specs.Parents.Graphs.{row_to, row_of}

abbrev pub text_of : Child → List ℕ
text_of c = c.name.text

abbrev pub no_child : Child
no_child = record { name = record { text = []; place = record { line = 1; column = 1 } }; parent = None }

abbrev pub child_at : List Child → ℕ → Child
child_at cs k = get_or cs k no_child

-- the first signature of a name, where the first of these has the number i
found_from : (i : ℕ) (cs : List Child) (t : List ℕ) (k : ℕ) → position_from (λ name. bytes_eq name t) i (map text_of cs) ≡ Some k
    → (j : ℕ) × (k ≡ i + j) × (j < length cs) × (parent_of cs t ≡ (child_at cs j).parent) × (text_of (child_at cs j) ≡ t)
found_from i [] t k e = absurd cc
found_from i (c ∷ cs) t k e =
    elim (cases_Bool (bytes_eq (text_of c) t)) [
      | inl holds ↦
          let here : i ≡ k = some_same (rw holds at e) in
          (zero, omega (arith, here), omega arith, rw holds refl, equal_texts (text_of c) t holds)
      | inr fails ↦
          let more = found_from (i + 1) cs t k (rw fails at e) in
          (suc more.0, omega (arith, more.1), omega (arith, more.2), rw fails more.3, more.4)
    ]
  where
    some_same : Some i ≡ Some k → i ≡ k
    some_same h = cc

missed_from : (i : ℕ) (cs : List Child) (t : List ℕ) → position_from (λ name. bytes_eq name t) i (map text_of cs) ≡ None → parent_of cs t ≡ None
missed_from i [] t e = refl
missed_from i (c ∷ cs) t e =
    elim (cases_Bool (bytes_eq (text_of c) t)) [
      | inl holds ↦ absurd (some_is_none i (rw holds at e))
      | inr fails ↦ rw fails (missed_from (i + 1) cs t (rw fails at e))
    ]
  where
    some_is_none : (n : ℕ) → Some n ≡ None → ⊥
    some_is_none n h = absurd cc

-- a name that a signature has is found, no later than there
reached_from : (i : ℕ) (cs : List Child) (j : ℕ) → j < length cs → (f : ℕ) × (position_from (λ name. bytes_eq name (text_of (child_at cs j))) i (map text_of cs) ≡ Some f) × (f ≤ i + j)
reached_from i [] j l = absurd (omega (arith, l))
reached_from i (c ∷ cs) zero l = (i, rw (same_text (text_of c)) refl, omega arith)
reached_from i (c ∷ cs) (suc j) l =
    elim (cases_Bool (bytes_eq (text_of c) (text_of (child_at cs j)))) [
      | inl holds ↦ (i, rw holds refl, omega arith)
      | inr fails ↦
          let more = reached_from (i + 1) cs j (omega (arith, l)) in
          (more.0, rw fails more.1, omega (arith, more.2))
    ]

module _ (cs : List Child) where
  abbrev pub names : List (List ℕ)
  names = map text_of cs

  abbrev pub rows : List (List ℕ)
  rows = map (row_of names) cs

  at_zero : (t : List ℕ) → number_of names t ≡ position_from (λ name. bytes_eq name t) 0 names
  at_zero t = position_from-zero (λ name. bytes_eq name t) names

  pub found : (t : List ℕ) (k : ℕ) → number_of names t ≡ Some k → (k < length cs) × (parent_of cs t ≡ (child_at cs k).parent) × (text_of (child_at cs k) ≡ t)
  found t k e =
      let w = found_from 0 cs t k (sym (at_zero t) ∙ e) in
      let same : w.0 ≡ k = omega (arith, w.1) in
      subst (λ j. (j < length cs) × (parent_of cs t ≡ (child_at cs j).parent) × (text_of (child_at cs j) ≡ t)) same (w.2, w.3, w.4)

  pub missed : (t : List ℕ) → number_of names t ≡ None → parent_of cs t ≡ None
  missed t e = missed_from 0 cs t (sym (at_zero t) ∙ e)

  pub reached : (j : ℕ) → j < length cs → (f : ℕ) × (number_of names (text_of (child_at cs j)) ≡ Some f) × (f ≤ j)
  reached j l =
      let w = reached_from 0 cs j l in
      (w.0, at_zero (text_of (child_at cs j)) ∙ w.1, omega (arith, w.2))

  -- ---- edges

  row_is : (k : ℕ) → k < length cs → row_at rows k ≡ row_of names (child_at cs k)
  row_is k l = get_or-map (row_of names) cs k no_child [] l

  pub edge_in : (k l : ℕ) (p : List ℕ) → k < length cs → (child_at cs k).parent ≡ Some p → number_of names p ≡ Some l → IsEdge rows k l
  edge_in k l p below up number =
      let row : row_at rows k ≡ l ∷ [] = row_is k below ∙ ap (λ (o : Option (List ℕ)). row_to (option_and_then (number_of names) o)) up ∙ ap row_to number in
      ap (among l) row ∙ or_left (l == l) false (eq-eqb l l refl)

  pub edge_out : (k l : ℕ) → IsEdge rows k l → (p : List ℕ) × (k < length cs) × ((child_at cs k).parent ≡ Some p) × (number_of names p ≡ Some l)
  edge_out k l edge =
      let below : k < length cs = omega (arith, has_row rows k l edge, length-map cs (row_of names)) in
      let inside : among l (row_of names (child_at cs k)) ≡ true = sym (ap (among l) (row_is k below)) ∙ edge in
      parent below (child_at cs k).parent refl inside
    where
      number : (below : k < length cs) (p : List ℕ) (up : (child_at cs k).parent ≡ Some p) (o : Option ℕ) → number_of names p ≡ o → among l (row_to o) ≡ true
          → (q : List ℕ) × (k < length cs) × ((child_at cs k).parent ≡ Some q) × (number_of names q ≡ Some l)
      number below p up None e inside = absurd (not_both inside refl)
      number below p up (Some n) e inside =
          elim (either (n == l) false inside) [
            | inl here ↦ (p, below, up, e ∙ ap Some (eqb-true n l here))
            | inr none ↦ absurd (not_both none refl)
          ]

      parent : (below : k < length cs) (o : Option (List ℕ)) → (child_at cs k).parent ≡ o → among l (row_to (option_and_then (number_of names) o)) ≡ true
          → (q : List ℕ) × (k < length cs) × ((child_at cs k).parent ≡ Some q) × (number_of names q ≡ Some l)
      parent below None e inside = absurd (not_both inside refl)
      parent below (Some p) e inside = number below p e (number_of names p) refl inside
