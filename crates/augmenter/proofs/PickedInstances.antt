-- The instance that a valuation gives.
use Rattle.std.proofs.Common.{◌≡◌, ◌↔◌, inl, inr, ◌<◌, ◌≤◌, ℕ, zero, suc, Bool, true, false, List, [], ◌∷◌, ◌++◌, length, get_or, AllPairs, Contains, IsTrue, subst, arith}
use Rattle.std.proofs.lemmas.Bool.{cases_Bool, cases_lt}
use Rattle.std.proofs.lemmas.List.Elements.{Contains-get_or, Contains-append_left, Contains-push, Contains-push_cases}
use Rattle.std.proofs.lemmas.List.Quantifiers.{all_pairs_push}
use Rattle.cnf_core.specs.Valuation.{Satisfies, value_of}
use Rattle.rel_formula.specs.Bounds.{cells_of}
use Rattle.rel_formula.specs.Instance.{AreCells, IsScenario, IsInstance, Includes}
use Rattle.translation_rules.specs.Translation.{Translated, IsSatisfiableAt, var_of}
use Rattle.translation_rules.specs.Locals.{units_of}
use Rattle.translation_rules.specs.Offers.{IsPossible}
use Rattle.translation_rules.proofs.Tests.{from_each}
use Rattle.augmenter.specs.Search.{GivesInstance}

-- the numbers below a count whose variables are true, in order
record Picked (v : ℕ → Bool) (count : ℕ) (s : List ℕ) : Type 0 where
  below : (k : ℕ) → Contains s k → k < count
  values : (k : ℕ) → k < count → IsTrue (v (var_of k)) ↔ Contains s k
  rising : AllPairs (λ m n. m < n) s

picked_in : (v : ℕ → Bool) (n : ℕ) (s : List ℕ) → Picked v n s → v (var_of n) ≡ true → Picked v (suc n) (s ++ n ∷ [])
picked_in v n s is t = record {
  below = λ k c. elim (Contains-push_cases s n k c) [
    | inl old ↦ let l = is.below k old in omega arith
    | inr new ↦ omega arith
  ];
  values = λ k l. elim (cases_lt k n) [
    | inl less ↦
        let old = is.values k less in (
          λ h. Contains-append_left s (n ∷ []) k (old.0 h),
          λ c. elim (Contains-push_cases s n k c) [ inl there ↦ old.1 there | inr new ↦ absurd (omega arith) ],
        )
    | inr past ↦
        let same : n ≡ k = omega arith in
        (λ h. subst (Contains (s ++ n ∷ [])) same (Contains-push s n), λ c. subst (λ m. v (var_of m) ≡ true) same t)
  ];
  rising = all_pairs_push (λ m n. m < n) s n is.rising (λ k d l. is.below (get_or s k d) (Contains-get_or s k d l));
}

picked_out : (v : ℕ → Bool) (n : ℕ) (s : List ℕ) → Picked v n s → v (var_of n) ≡ false → Picked v (suc n) s
picked_out v n s is f = record {
  below = λ k c. let l = is.below k c in omega arith;
  values = λ k l. elim (cases_lt k n) [
    | inl less ↦ is.values k less
    | inr past ↦
        let same : n ≡ k = omega arith in (
          λ h. let g : v (var_of k) ≡ false = subst (λ m. v (var_of m) ≡ false) same f in absurd cc,
          λ c. absurd (let l = is.below k c in omega arith),
        )
  ];
  rising = is.rising;
}

picked : (v : ℕ → Bool) (count : ℕ) → (s : List ℕ) × Picked v count s
picked v zero = (
  [],
  record {
    below = λ k c. absurd (let l = c.1 in omega arith);
    values = λ k l. absurd (omega arith);
    rising = λ i j d less l. absurd (omega arith);
  },
)
picked v (suc n) =
    let was = picked v n in
    elim (cases_Bool (v (var_of n))) [
      | inl t ↦ (was.0 ++ n ∷ [], picked_in v n was.0 was.1 t)
      | inr f ↦ (was.0, picked_out v n was.0 was.1 f)
    ]

-- the clauses of the translation with the units of some cells say that an instance has the cells
abbrev pub SaysWhatIsPossible : Translated → Type 0
SaysWhatIsPossible t = (cells : List ℕ) → AreCells t.problem cells → (s : List ℕ) → IsScenario t.problem s →
    (IsInstance t.problem s × Includes s cells) ↔ IsSatisfiableAt t.problem s (t.cnf.clauses ++ units_of cells)

-- a valuation that satisfies them gives such an instance
pub gives : (t : Translated) → SaysWhatIsPossible t → (cells : List ℕ) → AreCells t.problem cells → (valuation : List Bool) → length (cells_of t.problem) ≤ length valuation →
    Satisfies (value_of valuation) (t.cnf.clauses ++ units_of cells) → GivesInstance t.problem cells valuation
gives t says cells cells_in valuation enough satisfied =
    let count = length (cells_of t.problem) in
    let s = picked (value_of valuation) count in
    let scenario : IsScenario t.problem s.0 = record { cells = from_each (λ n. n < count) s.0 s.1.below; rising = s.1.rising } in
    let is = (says cells cells_in s.0 scenario).1 (record { valuation = value_of valuation; cells = s.1.values; satisfied = satisfied }) in
    record { instance = s.0; instance_of = is.0; has = is.1; chosen = s.1.values; enough = enough }

-- where none does, no instance has the cells
pub impossible : (t : Translated) → SaysWhatIsPossible t → (cells : List ℕ) → AreCells t.problem cells → ((v : ℕ → Bool) → ¬ Satisfies v (t.cnf.clauses ++ units_of cells)) → ¬ IsPossible t.problem cells
impossible t says cells cells_in none possible =
    let sat = (says cells cells_in possible.instance possible.instance_of.scenario).0 (possible.instance_of, possible.has) in
    none sat.valuation sat.satisfied
