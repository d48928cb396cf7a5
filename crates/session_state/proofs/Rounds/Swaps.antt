-- The clauses of the first swaps, one more each time.
use Rattle.std.proofs.Common.{◌≡◌, ◌<◌, ◌+◌, ℕ, zero, suc, Bool, true, false, cond, List, [], ◌∷◌, ◌++◌, map, filter, flat_map, take, length, get_or, slice_get, Some, refl, sym, ◌∙◌, ap, subst, arith, append-nil}
use Rattle.std.proofs.lemmas.List.{take_more, length-map}
use Rattle.std.proofs.lemmas.List.Elements.{filter-append}
use Rattle.std.proofs.lemmas.Grind.{flat_map-append}
use Rattle.std.proofs.lemmas.Option.{slice_get_within, get_or_from_slice_get, slice_get-map}
use Rattle.std.specs.Option.{option_map}
use Rattle.tuple_core.specs.declared.atom.Atom.{Atom}
use Rattle.translation_rules.specs.Translation.{SwapClauses, clauses_of_swaps}
use Rattle.translation.specs.Numbered.{pair_of}

-- the element at a place
some_here : {X : Type 0} (xs : List X) (i : ℕ) → i < length xs → (x : X) × (slice_get xs i ≡ Some x)
some_here [] i l = absurd (omega arith)
some_here (x ∷ xs) zero l = (x, refl)
some_here (x ∷ xs) (suc i) l = some_here xs i (omega arith)

-- a swap and its pair of atoms
pub swap_here : (swaps : List SwapClauses) (pairs : List (Atom × Atom)) → pairs ≡ map pair_of swaps → (i : ℕ) → i < length pairs → (d : Atom × Atom) →
    (x : SwapClauses) × (slice_get swaps i ≡ Some x) × (get_or pairs i d ≡ (x.first, x.second))
swap_here swaps pairs e i l d =
    let as_many : length pairs ≡ length swaps = ap length e ∙ length-map swaps pair_of in
    let (x, at) = some_here swaps i (omega arith) in
    let pair : slice_get pairs i ≡ Some (pair_of x) = ap (λ ps. slice_get ps i) e ∙ slice_get-map pair_of swaps i ∙ ap (option_map pair_of) at in
    (x, at, get_or_from_slice_get pairs i (pair_of x) d pair)

module _ (picks : Atom → Atom → Bool) (swaps : List SwapClauses) (i : ℕ) (x : SwapClauses) (at : slice_get swaps i ≡ Some x) where
  clauses_push : (b : Bool) → picks x.first x.second ≡ b →
      clauses_of_swaps picks (take (i + 1) swaps) ≡ clauses_of_swaps picks (take i swaps) ++ flat_map (λ (y : SwapClauses). y.cnf.clauses) (cond b (x ∷ []) [])
  clauses_push b e =
      let test : SwapClauses → Bool = λ y. picks y.first y.second in
      let here : get_or swaps i x ≡ x = get_or_from_slice_get swaps i x x at in
      let l = slice_get_within swaps i x at in
      ap (clauses_of_swaps picks) (take_more swaps i x l ∙ ap (λ (y : SwapClauses). take i swaps ++ y ∷ []) here)
      ∙ ap (flat_map (λ (y : SwapClauses). y.cnf.clauses)) (filter-append test (take i swaps) (x ∷ []))
      ∙ flat_map-append (λ (y : SwapClauses). y.cnf.clauses) (filter test (take i swaps)) (filter test (x ∷ []))
      ∙ ap (λ b. clauses_of_swaps picks (take i swaps) ++ flat_map (λ (y : SwapClauses). y.cnf.clauses) (cond b (x ∷ []) [])) e

  pub clauses_more : picks x.first x.second ≡ true → clauses_of_swaps picks (take (i + 1) swaps) ≡ clauses_of_swaps picks (take i swaps) ++ x.cnf.clauses
  clauses_more e = clauses_push true e ∙ ap (λ cs. clauses_of_swaps picks (take i swaps) ++ cs) (append-nil x.cnf.clauses)

  pub clauses_same : picks x.first x.second ≡ false → clauses_of_swaps picks (take (i + 1) swaps) ≡ clauses_of_swaps picks (take i swaps)
  clauses_same e = clauses_push false e ∙ append-nil (clauses_of_swaps picks (take i swaps))
