-- The clauses of several pairs, and what they say of scenarios.
use Rattle.std.proofs.Common.{◌≡◌, ◌↔◌, ◌⊎◌, inl, inr, ◌<◌, ◌≤◌, ◌+◌, ◌*◌, ◌-◌, ℕ, Bool, List, [], ◌∷◌, ◌++◌, length, All, IsTrue, Contains, refl, sym, ◌∙◌, subst, arith, length-append}
use Rattle.std.specs.Prelude.{nat_eq}
use Rattle.std.specs.List.{list_any}
use Rattle.std.proofs.Math.Nat.{mul-le-mul_right}
use Rattle.std.proofs.lemmas.List.Elements.{Contains-push, Contains-push_cases, Contains-append_left}
use Rattle.tuple_core.specs.declared.atom.Atom.{Atom}
use Rattle.cnf_core.specs.declared.literal.Lit.{Lit}
use Rattle.cnf_core.specs.Literal.{HasVarsUpTo}
use Rattle.cnf_core.specs.Valuation.{Satisfies}
use Rattle.refutation_check.specs.SearchLog.{IsVarOf}
use Rattle.rel_formula.specs.Bounds.{Bounded, cells_of}
use Rattle.swap_symmetry.specs.Swaps.{SwapIsEarlier, NoSwapIsEarlier}
use Rattle.translation_rules.specs.Translation.{IsCellVar, IsSatisfiableAt}
use Rattle.translation_rules.proofs.Tests.{any_number, from_each}
use Rattle.translation.specs.SwapChains.Chain.{chosen_by, ForbidsSwap}
use Rattle.translation.proofs.SwapChains.SameCells.{AreSame, same_back, earlier_to, chosen_same}

-- no swap of these pairs makes the cells earlier
abbrev pub NoneEarlier : Bounded → List (Atom × Atom) → (ℕ → Type 0) → Type 0
NoneEarlier p pairs C = NoSwapIsEarlier p (λ a b. Contains pairs (a, b)) C

-- the clauses say that none of these swaps makes the cells earlier
pub record SaysOf (p : Bounded) (first next : ℕ) (pairs : List (Atom × Atom)) (clauses : List (List Lit)) : Type 0 where
  pub low : first ≤ next
  pub high : next ≤ first + length pairs * (length (cells_of p) + 1)
  pub sound : (v : ℕ → Bool) → Satisfies v clauses → NoneEarlier p pairs (chosen_by v)
  pub complete : (v : ℕ → Bool) → NoneEarlier p pairs (chosen_by v) → (w : ℕ → Bool) × ((var : ℕ) → var < first → w var ≡ v var) × Satisfies w clauses
  pub few : length clauses ≤ length pairs * (3 * length (cells_of p) + 1)
  pub vars : (var : ℕ) → IsVarOf clauses var → IsCellVar p var ⊎ ((first ≤ var) × (var < next))

pub no_clause : (var : ℕ) → IsVarOf [] var → ⊥
no_clause var has = let g = has.given in let l = g.1 in omega arith

pub no_pairs : (p : Bounded) (first : ℕ) → SaysOf p first first [] []
no_pairs p first = record {
  low = omega arith;
  high = omega arith;
  sound = λ v s a b c. absurd (let l = c.1 in omega arith);
  complete = λ v none. (v, λ var l. refl, λ k d l. absurd (omega arith));
  few = omega arith;
  vars = λ var has. absurd (no_clause var has);
}

-- a product by one more
one_more_times : (n c : ℕ) → (n + 1) * c ≡ n * c + c
one_more_times n c = omega arith

module _ (p : Bounded) (first next last : ℕ) (pairs : List (Atom × Atom)) (pair : Atom × Atom) (old new : List (List Lit)) (above : length (cells_of p) < first)
    (so_far : SaysOf p first next pairs old) (swap : ForbidsSwap p pair.0 pair.1 next last old new) where
  more_complete : (v : ℕ → Bool) → NoneEarlier p (pairs ++ pair ∷ []) (chosen_by v) → (w : ℕ → Bool) × ((var : ℕ) → var < first → w var ≡ v var) × Satisfies w new
  more_complete v none =
      let (u, below, satisfied) = so_far.complete v (λ a b c. none a b (Contains-append_left pairs (pair ∷ []) (a, b) c)) in
      let same = chosen_same p first v u above below in
      let (w, to_u, all) = swap.complete u satisfied (λ earlier. none pair.0 pair.1 (Contains-push pairs pair) (earlier_to p pair.0 pair.1 (chosen_by u) (chosen_by v) same earlier)) in
      let low = so_far.low in
      (w, λ var l. to_u var (omega arith) ∙ below var l, all)

  more_sound : (v : ℕ → Bool) → Satisfies v new → NoneEarlier p (pairs ++ pair ∷ []) (chosen_by v)
  more_sound v s a b c earlier =
      let both = swap.sound v s in
      elim (Contains-push_cases pairs pair (a, b) c) [
        | inl before ↦ so_far.sound v both.0 a b before earlier
        | inr same ↦ both.1 (subst (λ (x : Atom × Atom). SwapIsEarlier p x.0 x.1 (chosen_by v)) (sym same) earlier)
      ]

  -- one pair more
  pub one_pair_more : SaysOf p first (last + 1) (pairs ++ pair ∷ []) new
  one_pair_more =
      let long : length (pairs ++ pair ∷ []) ≡ length pairs + 1 = length-append pairs (pair ∷ []) in record {
        low = let k = so_far.low in let l = swap.low in omega arith;
        high =
            let k = so_far.high in
            let l = swap.high in
            let e = one_more_times (length pairs) (length (cells_of p) + 1) in
            subst (λ n. last + 1 ≤ first + n * (length (cells_of p) + 1)) (sym long) (omega arith);
        sound = more_sound;
        complete = more_complete;
        few =
            let k = so_far.few in
            let l = swap.few in
            let e = one_more_times (length pairs) (3 * length (cells_of p) + 1) in
            subst (λ n. length new ≤ n * (3 * length (cells_of p) + 1)) (sym long) (omega arith);
        vars = λ var has. elim (swap.vars var has) [
          | inr one ↦ elim one [
            | inl c ↦ inl c
            | inr r ↦ let k = so_far.low in let l = r.0 in let n = r.1 in inr (omega arith, omega arith)
          ]
          | inl before ↦ elim (so_far.vars var before) [
            | inl c ↦ inl c
            | inr r ↦ let k = swap.low in let l = r.0 in let n = r.1 in inr (omega arith, omega arith)
          ]
        ];
      }

-- each variable is at most the last
pub within : (vars : ℕ) (clauses : List (List Lit)) → ((var : ℕ) → IsVarOf clauses var → var ≤ vars) → All (HasVarsUpTo vars) clauses
within vars clauses each = from_each (HasVarsUpTo vars) clauses (λ c given. from_each (λ (l : Lit). l.var ≤ vars) c (λ l member.
    each l.var (record { clause = c; literal = l; given = given; member = member; same = refl })))

module _ (p : Bounded) (first : ℕ) (above : length (cells_of p) < first) (Q : (ℕ → Type 0) → Type 0) (respects : (C D : ℕ → Type 0) → AreSame p C D → Q C → Q D)
    (clauses : List (List Lit)) (sound : (v : ℕ → Bool) → Satisfies v clauses → Q (chosen_by v))
    (complete : (v : ℕ → Bool) → Q (chosen_by v) → (w : ℕ → Bool) × ((var : ℕ) → var < first → w var ≡ v var) × Satisfies w clauses) (s : List ℕ) where
  -- the valuation of a scenario
  abbrev of_scenario : ℕ → Bool
  of_scenario var = list_any (nat_eq (var - 1)) s

  has_cells : AreSame p (chosen_by of_scenario) (Contains s)
  has_cells n l =
      let e : n + 1 - 1 ≡ n = omega arith in
      subst (λ m. IsTrue (list_any (nat_eq m) s) ↔ Contains s n) (sym e) (any_number n s)

  -- the clauses can be satisfied with the cells of a scenario exactly where it has the property
  pub satisfiable : Q (Contains s) ↔ IsSatisfiableAt p s clauses
  satisfiable = (
    λ q.
        let (w, below, satisfied) = complete of_scenario (respects (Contains s) (chosen_by of_scenario) (same_back p (chosen_by of_scenario) (Contains s) has_cells) q) in
        let same = chosen_same p first of_scenario w above below in
        record {
          valuation = w;
          cells = λ cell l. let a = same cell l in let b = has_cells cell l in (λ h. b.0 (a.0 h), λ c. a.1 (b.1 c));
          satisfied = satisfied;
        },
    λ at. respects (chosen_by at.valuation) (Contains s) at.cells (sound at.valuation at.satisfied),
  )

-- the two properties depend on the cells alone
pub one_respects : (p : Bounded) (a b : Atom) (C D : ℕ → Type 0) → AreSame p C D → (¬ SwapIsEarlier p a b C) → ¬ SwapIsEarlier p a b D
one_respects p a b C D same none earlier = none (earlier_to p a b D C (same_back p C D same) earlier)

pub all_respect : (p : Bounded) (pairs : List (Atom × Atom)) (C D : ℕ → Type 0) → AreSame p C D → NoneEarlier p pairs C → NoneEarlier p pairs D
all_respect p pairs C D same none a b c earlier = none a b c (earlier_to p a b D C (same_back p C D same) earlier)

module _ (p : Bounded) (first last : ℕ) (a b : Atom) (clauses : List (List Lit)) (above : length (cells_of p) < first) (swap : ForbidsSwap p a b first last [] clauses) where
  -- the clauses of one swap
  pub one_says : (s : List ℕ) → (¬ SwapIsEarlier p a b (Contains s)) ↔ IsSatisfiableAt p s clauses
  one_says s = satisfiable p first above (λ C. ¬ SwapIsEarlier p a b C) (one_respects p a b) clauses (λ v satisfied. (swap.sound v satisfied).1)
      (λ v none. swap.complete v (λ k d l. absurd (omega arith)) none) s

  pub one_vars : (var : ℕ) → IsVarOf clauses var → IsCellVar p var ⊎ ((first ≤ var) × (var ≤ last))
  one_vars var has = elim (swap.vars var has) [ inl none ↦ absurd (no_clause var none) | inr one ↦ one ]

  pub one_within : All (HasVarsUpTo last) clauses
  one_within =
      let low = swap.low in
      within last clauses (λ var has. elim (one_vars var has) [
        | inl (cell, l, e) ↦ omega arith
        | inr r ↦ r.1
      ])

module _ (p : Bounded) (first next : ℕ) (pairs : List (Atom × Atom)) (clauses : List (List Lit)) (above : length (cells_of p) < first) (says : SaysOf p first next pairs clauses) where
  -- the clauses of all pairs
  pub all_say : (s : List ℕ) → NoSwapIsEarlier p (λ a b. Contains pairs (a, b)) (Contains s) ↔ IsSatisfiableAt p s clauses
  all_say s = satisfiable p first above (NoneEarlier p pairs) (all_respect p pairs) clauses says.sound says.complete s

  pub all_vars : (var : ℕ) → IsVarOf clauses var → IsCellVar p var ⊎ ((first ≤ var) × (var ≤ next - 1))
  all_vars var has = elim (says.vars var has) [
    | inl c ↦ inl c
    | inr r ↦ let l = r.0 in let h = r.1 in inr (omega arith, omega arith)
  ]

  pub all_within : All (HasVarsUpTo (next - 1)) clauses
  all_within =
      let low = says.low in
      within (next - 1) clauses (λ var has. elim (all_vars var has) [
        | inl (cell, l, e) ↦ omega arith
        | inr r ↦ r.1
      ])

  -- each is below the next one
  pub all_fresh : (var : ℕ) → IsVarOf clauses var → var < next
  all_fresh var has =
      let low = says.low in
      elim (says.vars var has) [
        | inl (cell, l, e) ↦ omega arith
        | inr r ↦ r.1
      ]

-- a product of at most 64 by a number of cells
pub few_times : (n c : ℕ) → n ≤ 64 → c ≤ 4096 → n * (c + 1) ≤ 262208
few_times n c l m =
    let one = mul-le-mul_right (c + 1) l in
    let e : 64 * (c + 1) ≡ 64 * c + 64 = omega arith in
    omega arith

pub few_clauses : (n c : ℕ) → n ≤ 64 → c ≤ 4096 → n * (3 * c + 1) ≤ 786496
few_clauses n c l m =
    let one = mul-le-mul_right (3 * c + 1) l in
    let e : 64 * (3 * c + 1) ≡ 192 * c + 64 = omega arith in
    omega arith
