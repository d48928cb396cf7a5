-- The variables of local clauses.
use Rattle.std.proofs.Common.{inl, inr, ◌<◌, ◌≤◌, ◌++◌, [], ◌∷◌, ℕ, Bool, not, List, length, get_or, map, filter, All, arith}
use Rattle.std.specs.Prelude.{nat_eq}
use Rattle.std.specs.List.{list_any, range_with_len}
use Rattle.std.proofs.lemmas.List.Elements.{All-nil, All-cons, All-append, All-map, All-contains}
use Rattle.cnf_core.specs.declared.literal.Lit.{Lit}
use Rattle.cnf_core.specs.Literal.{HasVarsUpTo, negation_of}
use Rattle.tuple_core.specs.declared.atom.Atom.{Atom}
use Rattle.rel_formula.specs.Bounds.{Bounded, cells_of}
use Rattle.rel_formula.specs.Instance.{AreCells, with_cell}
use Rattle.rel_formula.proofs.OpenCells.{filter_has}
use Rattle.rel_formula.proofs.WithCell.{with_cell_has}
use Rattle.translation_rules.specs.Free.{is_free_of}
use Rattle.translation_rules.specs.Translation.{SwapClauses, Translated, clauses_of_swaps}
use Rattle.translation_rules.specs.Locals.{literal_of, units_of, absence_in, locals_of}
use Rattle.translation_rules.specs.Descents.{outside, descent_locals}
use Rattle.translation_rules.proofs.Tests.{flat_has, from_each, in_range}

abbrev Over : ℕ → List (List Lit) → Type 0
Over v clauses = All (HasVarsUpTo v) clauses

-- a scenario with one cell more has cells
pub with_cell_cells : (p : Bounded) (n : ℕ) (s : List ℕ) → n < length (cells_of p) → AreCells p s → AreCells p (with_cell n s)
with_cell_cells p n s l cells = from_each (λ k. k < length (cells_of p)) (with_cell n s) (λ k c. elim ((with_cell_has n s k).0 c) [
  | inl old ↦ All-contains (λ k. k < length (cells_of p)) s k cells old
  | inr new ↦ omega arith
])

-- so have the numbers that are left of it
outside_cells : (p : Bounded) (s cells : List ℕ) → AreCells p cells → AreCells p (outside s cells)
outside_cells p s cells are = from_each (λ k. k < length (cells_of p)) (outside s cells)
    (λ k c. All-contains (λ k. k < length (cells_of p)) cells k are (filter_has (λ cell. not (list_any (nat_eq cell) s)) cells k c).0)

module _ (v : ℕ) (p : Bounded) (few : length (cells_of p) ≤ v) where
  one_over : (l : Lit) → l.var ≤ v → HasVarsUpTo v (l ∷ [])
  one_over l le = All-cons (λ (l : Lit). l.var ≤ v) l [] le (All-nil (λ (l : Lit). l.var ≤ v))

  pub units_over : (floor : List ℕ) → AreCells p floor → Over v (units_of floor)
  units_over floor cells = All-map (HasVarsUpTo v) (λ cell. literal_of cell ∷ []) floor (λ k d l. one_over (literal_of (get_or floor k d)) (let h = cells k d l in omega arith))

  absence_over : (s : List ℕ) → AreCells p s → HasVarsUpTo v (absence_in s)
  absence_over s cells = All-map (λ (l : Lit). l.var ≤ v) (λ cell. negation_of (literal_of cell)) s (λ k d l. let h = cells k d l in omega arith)

  absences_over : (s : List ℕ) → AreCells p s → Over v (map (λ cell. negation_of (literal_of cell) ∷ []) s)
  absences_over s cells =
      All-map (HasVarsUpTo v) (λ cell. negation_of (literal_of cell) ∷ []) s (λ k d l. one_over (negation_of (literal_of (get_or s k d))) (let h = cells k d l in omega arith))

  swaps_over : (swaps : List SwapClauses) → All (λ (x : SwapClauses). Over v x.cnf.clauses) swaps → (picks : Atom → Atom → Bool) → Over v (clauses_of_swaps picks swaps)
  swaps_over swaps over picks = from_each (HasVarsUpTo v) (clauses_of_swaps picks swaps) (λ c h.
      let picked : SwapClauses → Bool = λ x. picks x.first x.second in
      let f = flat_has (λ (x : SwapClauses). x.cnf.clauses) (filter picked swaps) c h in
      let there = (filter_has picked swaps f.0 f.1).0 in
      All-contains (HasVarsUpTo v) f.0.cnf.clauses c (All-contains (λ (x : SwapClauses). Over v x.cnf.clauses) swaps f.0 over there) f.2)

  -- the local clauses of a search for what is left
  pub locals_over : (t : Translated) → All (λ (x : SwapClauses). Over v x.cnf.clauses) t.swaps → (floor : List ℕ) → AreCells p floor → (blocked : List (List ℕ)) → All (AreCells p) blocked
      → Over v (locals_of t floor blocked)
  locals_over t swaps floor cells blocked each =
      let free = clauses_of_swaps (is_free_of t.problem floor) t.swaps in
      All-append (HasVarsUpTo v) (free ++ units_of floor) (map absence_in blocked)
      (All-append (HasVarsUpTo v) free (units_of floor) (swaps_over t.swaps swaps (is_free_of t.problem floor)) (units_over floor cells))
      (All-map (HasVarsUpTo v) absence_in blocked (λ k d l. absence_over (get_or blocked k d) (each k d l)))

  -- those of a search for a smaller instance
  pub descent_over : (floor : List ℕ) → AreCells p floor → (scenario : List ℕ) → AreCells p scenario → Over v (descent_locals p floor scenario)
  descent_over floor cells scenario are =
      let all = range_with_len 0 (length (cells_of p)) in
      let out = outside scenario all in
      let absences = map (λ cell. negation_of (literal_of cell) ∷ []) out in
      let out_cells : AreCells p out = outside_cells p scenario all (from_each (λ k. k < length (cells_of p)) all (λ k c. in_range (length (cells_of p)) k c)) in
      let last = absence_in (outside floor scenario) in
      All-append (HasVarsUpTo v) (absences ++ units_of floor) (last ∷ [])
      (All-append (HasVarsUpTo v) absences (units_of floor) (absences_over out out_cells) (units_over floor cells))
      (All-cons (HasVarsUpTo v) last [] (absence_over (outside floor scenario) (outside_cells p floor scenario are)) (All-nil (HasVarsUpTo v)))
