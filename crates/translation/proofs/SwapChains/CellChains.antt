-- The chain of comparisons, cell after cell.
use Rattle.std.proofs.Common.{◌≡◌, ◌↔◌, ◌⊎◌, inl, inr, ◌<◌, ◌≤◌, ◌+◌, ◌*◌, ◌||◌, ℕ, Bool, true, false, List, [], ◌∷◌, length, IsTrue, refl, ◌∙◌, subst, arith}
use Rattle.std.proofs.lemmas.Bool.{cases_lt, cases_Bool}
use Rattle.tuple_core.specs.declared.atom.Atom.{Atom}
use Rattle.cnf_core.specs.declared.literal.Lit.{Lit}
use Rattle.cnf_core.specs.Valuation.{Satisfies}
use Rattle.refutation_check.specs.SearchLog.{IsVarOf}
use Rattle.rel_formula.specs.Bounds.{Bounded, cells_of}
use Rattle.rel_formula.proofs.OpenCells.{cons_cases}
use Rattle.swap_symmetry.specs.Swaps.{IsTakenInto}
use Rattle.translation_rules.specs.Translation.{var_of}
use Rattle.translation_rules.proofs.Joining.{carried}
use Rattle.translation.specs.SwapChains.Comparison.{AddsClause}
use Rattle.translation.specs.SwapChains.Chain.{chosen_by, AreAlikeBelow, IsFreshOrCell, ComparesCell, ForbidsSwap}
use Rattle.translation.proofs.SwapChains.Cases.{true_lit, var_is}
use Rattle.translation.proofs.SwapChains.SameCells.{AreSame, same_back, taken_below, taken_same, alike_to, chosen_same}
use Rattle.translation.proofs.SwapChains.OneCell.{with_value, value_there, value_elsewhere}

-- below the count, the first cell at which the two differ is not one of the image
abbrev pub IsNoneLost : Bounded → Atom → Atom → (ℕ → Type 0) → ℕ → Type 0
IsNoneLost p a b C count = (m : ℕ) → m < count → IsTakenInto p a b C m → AreAlikeBelow p a b C m → C m

-- the new clauses say what the old ones say, and that none is lost below the count
pub record IsChain (p : Bounded) (a b : Atom) (count first so_far : ℕ) (old new : List (List Lit)) : Type 0 where
  pub low : first ≤ so_far
  pub high : so_far ≤ first + count
  pub sound : (v : ℕ → Bool) → Satisfies v new → Satisfies v old × IsNoneLost p a b (chosen_by v) count × (AreAlikeBelow p a b (chosen_by v) count → IsTrue (v so_far))
  pub complete : (v : ℕ → Bool) → Satisfies v old → IsNoneLost p a b (chosen_by v) count →
      (w : ℕ → Bool) × ((var : ℕ) → var < first → w var ≡ v var) × Satisfies w new × (IsTrue (w so_far) → AreAlikeBelow p a b (chosen_by v) count)
  pub few : length new ≤ length old + (3 * count + 1)
  pub vars : (var : ℕ) → IsVarOf new var → IsVarOf old var ⊎ IsFreshOrCell p first so_far var

or_nothing : (x : Bool) → (x || false) ≡ true → x ≡ true
or_nothing true h = refl
or_nothing false h = h

something : (x : Bool) → x ≡ true → (x || false) ≡ true
something true h = refl
something false h = h

module _ (p : Bounded) (a b : Atom) (first : ℕ) (old : List (List Lit)) where
  -- the chain begins with the first variable, which is true
  pub begun : (new : List (List Lit)) → ((var : ℕ) → IsVarOf old var → var < first) → AddsClause (true_lit first ∷ []) old new → IsChain p a b 0 first first old new
  begun new fresh adds = record {
    low = omega arith;
    high = omega arith;
    sound = λ v s.
        let both = (adds.means v).0 s in
        (both.0, λ m l. absurd (omega arith), λ alike. or_nothing (v first) both.1);
    complete = λ v s none.
        let w = with_value first true v in
        let agrees : (var : ℕ) → var < first → w var ≡ v var = λ var l. value_elsewhere first true v var (λ e. omega arith) in (
          w,
          agrees,
          (adds.means w).1 (carried w v old (λ var has. agrees var (fresh var has)) s, something (w first) (value_there first true v)),
          λ yes' m l. absurd (omega arith),
        );
    few = let n = adds.few in omega arith;
    vars = λ var has. elim (adds.vars var has) [
      | inl before ↦ inl before
      | inr (l, c, e) ↦ elim (cons_cases (true_lit first) [] l c) [
        | inl k ↦ let is : var ≡ first = var_is (true_lit first) l var k e in inr (inr (omega arith, omega arith))
        | inr none ↦ absurd (let n = none.1 in omega arith)
      ]
    ];
  }

  module _ (count so_far next : ℕ) (mid new : List (List Lit)) (within : count < length (cells_of p)) (above : length (cells_of p) < first)
      (chain : IsChain p a b count first so_far old mid) (cell : ComparesCell p a b count so_far next mid new) where
    more_sound : (v : ℕ → Bool) → Satisfies v new → Satisfies v old × IsNoneLost p a b (chosen_by v) (count + 1) × (AreAlikeBelow p a b (chosen_by v) (count + 1) → IsTrue (v next))
    more_sound v s =
        let one = cell.sound v s in
        let all = chain.sound v one.0 in (
          all.0,
          λ m l t alike. elim (cases_lt m count) [
            | inl less ↦ all.1 m less t alike
            | inr past ↦
                let same : count ≡ m = omega arith in
                let here : IsTakenInto p a b (chosen_by v) count → AreAlikeBelow p a b (chosen_by v) count → chosen_by v count = λ t alike. (one.1 (all.2 alike) alike).0 t in
                subst (λ n. IsTakenInto p a b (chosen_by v) n → AreAlikeBelow p a b (chosen_by v) n → chosen_by v n) same here t alike
          ],
          λ alike.
              let before : AreAlikeBelow p a b (chosen_by v) count = λ m l. alike m (omega arith) in
              (one.1 (all.2 before) before).1 alike,
        )

    more_complete : (v : ℕ → Bool) → Satisfies v old → IsNoneLost p a b (chosen_by v) (count + 1) →
        (w : ℕ → Bool) × ((var : ℕ) → var < first → w var ≡ v var) × Satisfies w new × (IsTrue (w next) → AreAlikeBelow p a b (chosen_by v) (count + 1))
    more_complete v s none =
        let (u, below, satisfied, says) = chain.complete v s (λ m l. none m (omega arith)) in
        let same : AreSame p (chosen_by u) (chosen_by v) = chosen_same p first v u above below in
        let taken = taken_same p a b (chosen_by u) (chosen_by v) same count in
        let chosen = same count within in
        let only : IsTrue (u so_far) → IsTakenInto p a b (chosen_by u) count → chosen_by u count = λ yes' t. chosen.1 (none count (omega arith) (taken.0 t) (says yes')) in
        let (w, to_u, all, then') = cell.complete u satisfied only in
        let low = chain.low in (
          w,
          λ var l. to_u var (omega arith) ∙ below var l,
          all,
          λ yes'.
              let last = then' yes' in
              let before : AreAlikeBelow p a b (chosen_by v) count = says last.0 in
              let at_u = last.1 (alike_to p a b (chosen_by v) (chosen_by u) (same_back p (chosen_by u) (chosen_by v) same) count (omega arith) before) in
              let here : IsTakenInto p a b (chosen_by v) count ↔ chosen_by v count = (λ t. chosen.0 (at_u.0 (taken.1 t)), λ c. taken.0 (at_u.1 (chosen.1 c))) in
              λ m l. elim (cases_lt m count) [
                | inl less ↦ before m less
                | inr past ↦ let at : count ≡ m = omega arith in subst (λ n. IsTakenInto p a b (chosen_by v) n ↔ chosen_by v n) at here
              ],
        )

    pub linked : IsChain p a b (count + 1) first next old new
    linked = record {
      low = let k = chain.low in let l = cell.low in omega arith;
      high = let k = chain.high in let l = cell.high in omega arith;
      sound = more_sound;
      complete = more_complete;
      few = let k = chain.few in let l = cell.few in omega arith;
      vars = λ var has. elim (cell.vars var has) [
        | inr one ↦ elim one [
          | inl c ↦ inr (inl c)
          | inr r ↦ let k = chain.low in let l = r.0 in let n = r.1 in inr (inr (omega arith, omega arith))
        ]
        | inl before ↦ elim (chain.vars var before) [
          | inl o ↦ inl o
          | inr one ↦ elim one [
            | inl c ↦ inr (inl c)
            | inr r ↦ let k = cell.low in let l = r.0 in let n = r.1 in inr (inr (omega arith, omega arith))
          ]
        ]
      ];
    }

  -- a chain over all cells
  pub ended : (last : ℕ) (new : List (List Lit)) → IsChain p a b (length (cells_of p)) first last old new → ForbidsSwap p a b first last old new
  ended last new chain = record {
    low = chain.low;
    high = chain.high;
    sound = λ v s.
        let all = chain.sound v s in
        (all.0, λ (n, t, not, below). not (all.1 n (taken_below p a b (chosen_by v) n t) t below));
    complete = λ v s settled.
        let found = chain.complete v s (λ m l t alike. elim (cases_Bool (v (var_of m))) [
          | inl yes' ↦ yes'
          | inr no' ↦ absurd (settled (m, t, λ c. absurd (let k : v (var_of m) ≡ true = c in cc), alike))
        ]) in
        (found.0, found.1, found.2);
    few = chain.few;
    vars = chain.vars;
  }

-- the variables so far
pub vars_below : (p : Bounded) (a b : Atom) (count first so_far : ℕ) (old new : List (List Lit)) → length (cells_of p) < first → ((var : ℕ) → IsVarOf old var → var < first) →
    IsChain p a b count first so_far old new → (var : ℕ) → IsVarOf new var → var ≤ so_far
vars_below p a b count first so_far old new above fresh chain var has =
    let low = chain.low in
    elim (chain.vars var has) [
      | inl before ↦ let l = fresh var before in omega arith
      | inr one ↦ elim one [
        | inl (cell, l, e) ↦ omega arith
        | inr r ↦ r.1
      ]
    ]
