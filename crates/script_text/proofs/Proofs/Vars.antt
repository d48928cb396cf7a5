-- The variables of a translation's formulas, and of the local clauses of proofs.
use Rattle.std.proofs.Common.{◌≡◌, ◌<◌, ◌≤◌, ◌+◌, ℕ, Bool, inl, inr, max, List, [], ◌∷◌, ◌++◌, map, filter, length, get_or, All, Contains, refl, sym, subst, arith}
use Rattle.std.proofs.lemmas.List.Elements.{All-append, All-map}
use Rattle.tuple_core.specs.declared.atom.Atom.{Atom}
use Rattle.cnf_core.specs.declared.literal.Lit.{Lit}
use Rattle.cnf_core.specs.Formula.{Formula}
use Rattle.cnf_core.specs.Literal.{negation_of, HasVarsUpTo}
use Rattle.rel_formula.specs.Bounds.{cells_of}
use Rattle.rel_formula.specs.Instance.{AreCells}
use Rattle.rel_formula.proofs.OpenCells.{cons_cases, filter_has, has_map}
use Rattle.translation_rules.specs.Free.{is_free_of}
use Rattle.translation_rules.specs.Translation.{SwapClauses, Translated, clauses_of_swaps}
use Rattle.translation_rules.specs.Locals.{literal_of, units_of, absence_in}
use Rattle.translation_rules.proofs.Tests.{flat_has, from_each}
use Rattle.translation.specs.Kept.{IsTranslation}
use Rattle.translation.specs.Numbered.{vars_of}
use Rattle.translation.proofs.Chains.{member_next}
use Rattle.translation.proofs.HighestVars.{least, each}
use Rattle.session_rules.specs.Proofs.{locals_for}
use Rattle.session_rules.specs.declared.end_proof.ProofKind.{ProofKind}
use Rattle.session_rules.specs.declared.end_proof.ProofKind.TheVariants.{End, NoInstance}

module _ (t : Translated) (is : IsTranslation t) where
  abbrev vars : ℕ
  vars = vars_of t

  abbrev formulas : List Formula
  formulas = map (λ (x : SwapClauses). x.cnf) t.swaps

  cells_within : length (cells_of t.problem) ≤ vars
  cells_within = let lowest = least t.cnf.vars formulas in let cells = is.cells in omega arith

  swap_within : (x : SwapClauses) (clause : List Lit) → Contains t.swaps x → Contains x.cnf.clauses clause → HasVarsUpTo vars clause
  swap_within x clause there given = from_each (λ (l : Lit). l.var ≤ vars) clause (λ l member.
      let next = member_next t.problem t.cnf.vars t.swaps is.numbered x there in
      let most = each t.cnf.vars formulas x.cnf (has_map (λ (y : SwapClauses). y.cnf) t.swaps x there) in
      elim (next.2.variables l.var (record { clause = clause; literal = l; given = given; member = member; same = refl })) [
        | inl cell ↦ let in' = cell.1 in let same = cell.2 in let within = cells_within in omega arith
        | inr fresh ↦ let below = fresh.1 in omega arith
      ])

  swaps_within : (picks : Atom → Atom → Bool) → All (HasVarsUpTo vars) (clauses_of_swaps picks t.swaps)
  swaps_within picks = from_each (HasVarsUpTo vars) (clauses_of_swaps picks t.swaps) (λ clause c.
      let found = flat_has (λ (x : SwapClauses). x.cnf.clauses) (filter (λ (x : SwapClauses). picks x.first x.second) t.swaps) clause c in
      swap_within found.0 clause (filter_has (λ (x : SwapClauses). picks x.first x.second) t.swaps found.0 found.1).0 found.2)

  units_within : (floor : List ℕ) → AreCells t.problem floor → All (HasVarsUpTo vars) (units_of floor)
  units_within floor are = All-map (HasVarsUpTo vars) (λ cell. literal_of cell ∷ []) floor (λ k d l.
      from_each (λ (x : Lit). x.var ≤ vars) (literal_of (get_or floor k d) ∷ []) (λ x c. elim (cons_cases (literal_of (get_or floor k d)) [] x c) [
        | inl same ↦ subst (λ (y : Lit). y.var ≤ vars) same (let cell = are k d l in let within = cells_within in omega arith)
        | inr none ↦ absurd (let m = none.1 in omega arith)
      ]))

  absence_within : (scenario : List ℕ) → AreCells t.problem scenario → HasVarsUpTo vars (absence_in scenario)
  absence_within scenario are = All-map (λ (x : Lit). x.var ≤ vars) (λ cell. negation_of (literal_of cell)) scenario (λ k d l.
      let cell = are k d l in let within = cells_within in omega arith)

  absences_within : (blocked : List (List ℕ)) → All (AreCells t.problem) blocked → All (HasVarsUpTo vars) (map absence_in blocked)
  absences_within blocked all = All-map (HasVarsUpTo vars) absence_in blocked (λ k d l. absence_within (get_or blocked k d) (all k d l))

  pub locals_within : (floor : List ℕ) → AreCells t.problem floor → (kind : ProofKind) (blocked : List (List ℕ)) → All (AreCells t.problem) blocked → All (HasVarsUpTo vars) (locals_for t floor kind blocked)
  locals_within floor are End blocked all =
      let swaps = clauses_of_swaps (is_free_of t.problem floor) t.swaps in
      All-append (HasVarsUpTo vars) (swaps ++ units_of floor) (map absence_in blocked)
      (All-append (HasVarsUpTo vars) swaps (units_of floor) (swaps_within (is_free_of t.problem floor)) (units_within floor are)) (absences_within blocked all)
  locals_within floor are NoInstance blocked all = units_within floor are
