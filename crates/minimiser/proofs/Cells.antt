-- Scenarios of the cells whose variables are true, and how many cells a scenario has.
use Rattle.std.proofs.Common.{◌≡◌, ◌≢◌, ◌↔◌, inl, inr, ◌<◌, ◌≤◌, ◌+◌, ◌*◌, ℕ, Bool, true, false, not, List, [], ◌∷◌, ◌++◌, map, length, AllPairs, Contains, IsTrue, sym, subst, arith, length-append}
use Rattle.std.specs.Prelude.{nat_eq}
use Rattle.std.specs.List.{list_any, range_with_len}
use Rattle.std.proofs.lemmas.Bool.{cases_lt}
use Rattle.std.proofs.lemmas.List.Kept.{AllPairs-cons}
use Rattle.std.proofs.lemmas.List.{length-map}
use Rattle.std.proofs.lemmas.List.Elements.{Contains-get_or}
use Rattle.std.proofs.lemmas.List.FromFn.{length-range_with_len}
use Rattle.cnf_core.specs.Literal.{negation_of}
use Rattle.rel_formula.specs.Bounds.{Bounded, cells_of}
use Rattle.rel_formula.specs.Instance.{with_cell}
use Rattle.rel_formula.proofs.Counts.{no_longer}
use Rattle.rel_formula.proofs.OpenCells.{cons_cases}
use Rattle.rel_formula.proofs.OneSetOfAtoms.{filter_shorter}
use Rattle.rel_formula.proofs.WithCell.{with_cell_has}
use Rattle.swap_symmetry.proofs.ListSearches.{tried}
use Rattle.translation_rules.specs.Translation.{var_of}
use Rattle.translation_rules.specs.Descents.{IsProperPart, outside, descent_locals}
use Rattle.translation_rules.specs.Locals.{literal_of, units_of, absence_in}
use Rattle.translation_rules.proofs.Tests.{in_or_not}

-- the cells below a number whose variables are true
pub record Chosen (v : ℕ → Bool) (count : ℕ) (s : List ℕ) : Type 0 where
  pub below : (k : ℕ) → Contains s k → k < count
  pub values : (k : ℕ) → k < count → IsTrue (v (var_of k)) ↔ Contains s k
  pub rising : AllPairs (λ m n. m < n) s

pub chosen_none : (v : ℕ → Bool) → Chosen v 0 []
chosen_none v = record {
  below = λ k c. absurd (let l = c.1 in omega arith);
  values = λ k l. absurd (omega arith);
  rising = λ i j d less l. absurd (omega arith);
}

module _ (v : ℕ → Bool) (count : ℕ) (s : List ℕ) (so_far : Chosen v count s) where
  pub chosen_in : v (var_of count) ≡ true → AllPairs (λ m n. m < n) (with_cell count s) → Chosen v (count + 1) (with_cell count s)
  chosen_in t up = record {
    below = λ k c. elim ((with_cell_has count s k).0 c) [
      | inl old ↦ let l = so_far.below k old in omega arith
      | inr new ↦ omega arith
    ];
    values = λ k l. elim (cases_lt k count) [
      | inl less ↦
          let old = so_far.values k less in (
            λ h. (with_cell_has count s k).1 (inl (old.0 h)),
            λ c. elim ((with_cell_has count s k).0 c) [ inl there ↦ old.1 there | inr new ↦ absurd (omega arith) ],
          )
      | inr past ↦
          let same : count ≡ k = omega arith in
          (λ h. (with_cell_has count s k).1 (inr (sym same)), λ c. subst (λ n. v (var_of n) ≡ true) same t)
    ];
    rising = up;
  }

  pub chosen_out : v (var_of count) ≡ false → Chosen v (count + 1) s
  chosen_out f = record {
    below = λ k c. let l = so_far.below k c in omega arith;
    values = λ k l. elim (cases_lt k count) [
      | inl less ↦ so_far.values k less
      | inr past ↦
          let same : count ≡ k = omega arith in (
            λ h. let g : v (var_of k) ≡ false = subst (λ n. v (var_of n) ≡ false) same f in absurd cc,
            λ c. absurd (let l = so_far.below k c in omega arith),
          )
    ];
    rising = so_far.rising;
  }

distinct : (s : List ℕ) → AllPairs (λ m n. m < n) s → AllPairs (λ m n. m ≢ n) s
distinct s up i j d less l e = let h = up i j d less l in omega arith

-- a proper part has fewer cells
pub fewer : (s part : List ℕ) → AllPairs (λ m n. m < n) part → IsProperPart s part → length part < length s
fewer s part up proper = elim (tried (λ n. Contains part n → ⊥) (Contains part) s (λ n c. elim (in_or_not n part) [ inl there ↦ inr there | inr no' ↦ inl no' ])) [
  | inl (x, c, out) ↦
      let all = no_longer (x ∷ part) s (AllPairs-cons (λ m n. m ≢ n) x part (λ k d l e. out (subst (Contains part) (sym e) (Contains-get_or part k d l))) (distinct part up))
      (λ n there. elim (cons_cases x part n there) [ inl same ↦ subst (Contains s) same c | inr later ↦ proper.0 n later ]) in
      omega arith
  | inr each ↦ absurd (proper.1 (λ n c. each n c))
]

-- a search of a descent has few local clauses
pub few_locals : (p : Bounded) (floor scenario : List ℕ) → length floor ≤ length (cells_of p) → length (descent_locals p floor scenario) ≤ 2 * length (cells_of p) + 1
few_locals p floor scenario few =
    let cells = range_with_len 0 (length (cells_of p)) in
    let out = outside scenario cells in
    let absences = map (λ cell. negation_of (literal_of cell) ∷ []) out in
    let last = absence_in (outside floor scenario) ∷ [] in
    let long : length cells ≡ length (cells_of p) = length-range_with_len 0 (length (cells_of p)) in
    let short : length out ≤ length cells = filter_shorter (λ cell. not (list_any (nat_eq cell) scenario)) cells in
    let one : length absences ≡ length out = length-map out (λ cell. negation_of (literal_of cell) ∷ []) in
    let two : length (units_of floor) ≡ length floor = length-map floor (λ cell. literal_of cell ∷ []) in
    let three : length (absences ++ units_of floor) ≡ length absences + length (units_of floor) = length-append absences (units_of floor) in
    let all : length (descent_locals p floor scenario) ≡ length (absences ++ units_of floor) + 1 = length-append (absences ++ units_of floor) last in
    omega arith
