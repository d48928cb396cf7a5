-- The highest variable of formulas.
use Rattle.std.proofs.Common.{◌≡◌, ◌<◌, ◌≤◌, inl, inr, ℕ, max, List, [], ◌∷◌, ◌++◌, map, length, Contains, refl, sym, ap, subst, arith}
use Rattle.tuple_core.specs.declared.atom.Atom.{Atom}
use Rattle.cnf_core.specs.Formula.{Formula}
use Rattle.rel_formula.proofs.OpenCells.{cons_cases}
use Rattle.translation_rules.specs.Translation.{SwapClauses}
use Rattle.translation.specs.Numbered.{swaps_of, highest_var}

pub least : (var : ℕ) (fs : List Formula) → var ≤ highest_var var fs
least var [] = omega arith
least var (f ∷ fs) = let rest = least var fs in omega arith

pub each : (var : ℕ) (fs : List Formula) (f : Formula) → Contains fs f → f.vars ≤ highest_var var fs
each var [] f c = absurd (let l = c.1 in omega arith)
each var (g ∷ gs) f c = elim (cons_cases g gs f c) [
  | inl same ↦ subst (λ (x : Formula). x.vars ≤ highest_var var (g ∷ gs)) same (omega arith)
  | inr later ↦ let rest = each var gs f later in omega arith
]

-- one formula more
pub highest_push : (var : ℕ) (fs : List Formula) (f : Formula) → highest_var var (fs ++ f ∷ []) ≡ max (highest_var var fs) f.vars
highest_push var [] f = omega arith
highest_push var (g ∷ gs) f = let rest = highest_push var gs f in omega arith

-- the clauses of the swaps are read back
pub formulas_back : (pairs : List (Atom × Atom)) (cnfs : List Formula) → length cnfs ≡ length pairs → map (λ (x : SwapClauses). x.cnf) (swaps_of pairs cnfs) ≡ cnfs
formulas_back [] [] e = refl
formulas_back [] (c ∷ cs) e = absurd (omega arith)
formulas_back (q ∷ qs) [] e = refl
formulas_back (q ∷ qs) (c ∷ cs) e = ap (λ xs. c ∷ xs) (formulas_back qs cs (omega arith))
