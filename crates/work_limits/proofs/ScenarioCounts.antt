-- How many scenarios there are, and how long one is.
use Rattle.std.proofs.Common.{◌≡◌, ◌≢◌, inl, inr, ◌<◌, ◌≤◌, ◌+◌, ◌^◌, ◌++◌, [], ◌∷◌, ℕ, zero, suc, List, length, map, All, AllPairs, Contains, length-append, refl, subst, arith}
use Rattle.std.specs.List.{range_with_len}
use Rattle.std.proofs.lemmas.Bool.{cases_order}
use Rattle.std.proofs.lemmas.List.{length-map}
use Rattle.std.proofs.lemmas.List.Elements.{All-nil, All-cons, All-contains, Contains-append_left, Contains-append_right}
use Rattle.std.proofs.lemmas.List.FromFn.{length-range_with_len}
use Rattle.std.proofs.Math.Nat.{pow-suc}
use Rattle.rel_formula.specs.Bounds.{Bounded, cells_of}
use Rattle.rel_formula.specs.Instance.{IsScenario}
use Rattle.rel_formula.proofs.Counts.{no_longer}
use Rattle.rel_formula.proofs.Lists.{pairs_head, pairs_tail, pairs_nil}
use Rattle.rel_formula.proofs.OpenCells.{has_map}
use Rattle.rel_formula.proofs.RisingNumbers.{Rises}
use Rattle.translation_rules.proofs.Tests.{range_in}

-- all rising lists of so many numbers from this one on
sets_from : ℕ → ℕ → List (List ℕ)
sets_from first zero = [] ∷ []
sets_from first (suc n) = sets_from (suc first) n ++ map (λ (s : List ℕ). first ∷ s) (sets_from (suc first) n)

so_many : (first n : ℕ) → length (sets_from first n) ≡ 2 ^ n
unfolding sets_from
so_many first zero = refl
so_many first (suc n) =
    let later = sets_from (suc first) n in
    omega (arith, so_many (suc first) n, pow-suc 2 n, length-append later (map (λ (s : List ℕ). first ∷ s) later), length-map later (λ (s : List ℕ). first ∷ s))

-- each such list is among them
has_set : (first n : ℕ) (s : List ℕ) → Rises s → All (λ k. first ≤ k) s → All (λ k. k < first + n) s → Contains (sets_from first n) s
unfolding sets_from
has_set first zero [] rising least most = (zero, omega arith, refl)
has_set first zero (m ∷ s) rising least most = absurd (let a = least zero m (omega arith) in let b = most zero m (omega arith) in omega (arith, a, b))
has_set first (suc n) [] rising least most =
    Contains-append_left (sets_from (suc first) n) _ [] (has_set (suc first) n [] rising (All-nil (λ k. suc first ≤ k)) (All-nil (λ k. k < suc first + n)))
has_set first (suc n) (m ∷ s) rising least most =
    let later = sets_from (suc first) n in
    let from : first ≤ m = least zero m (omega arith) in
    let above : All (λ k. m < k) s = pairs_head (λ j k. j < k) m s rising in
    let down : All (λ k. k < suc first + n) s = λ k d e. let h = most (suc k) d (omega (arith, e)) in omega (arith, h) in
    let up : All (λ k. suc first ≤ k) s = λ k d e. let h = above k d e in omega (arith, h, from) in
    elim (cases_order first m) [
      | inl same ↦
          let there = has_set (suc first) n s (pairs_tail (λ j k. j < k) m s rising) up down in
          subst (λ h. Contains (sets_from first (suc n)) (h ∷ s)) same
          (Contains-append_right later _ (first ∷ s) (has_map (λ (s : List ℕ). first ∷ s) later s there))
      | inr (inl less) ↦
          let all_up : All (λ k. suc first ≤ k) (m ∷ s) = All-cons (λ k. suc first ≤ k) m s less up in
          let all_down : All (λ k. k < suc first + n) (m ∷ s) = λ k d e. let h = most k d e in omega (arith, h) in
          Contains-append_left later _ (m ∷ s) (has_set (suc first) n (m ∷ s) rising all_up all_down)
      | inr (inr more) ↦ absurd (omega (arith, more, from))
    ]

-- different scenarios are few
pub few_scenarios : (p : Bounded) (xs : List (List ℕ)) → AllPairs (λ x y. x ≢ y) xs → All (IsScenario p) xs → length xs ≤ 2 ^ length (cells_of p)
few_scenarios p xs differ each =
    let c = length (cells_of p) in
    let count = no_longer xs (sets_from 0 c) differ (λ s there.
    let is = All-contains (IsScenario p) xs s each there in
    has_set 0 c s is.rising (λ k d e. omega arith) (λ k d e. let h = is.cells k d e in omega (arith, h))) in
    omega (arith, count, so_many 0 c)

-- there is one scenario at least
pub some_scenario : (p : Bounded) → 1 ≤ 2 ^ length (cells_of p)
some_scenario p =
    let none : IsScenario p [] = record { cells = All-nil (λ n. n < length (cells_of p)); rising = pairs_nil (λ m n. m < n) } in
    few_scenarios p ([] ∷ []) (λ i j d less l. absurd (omega arith)) (All-cons (IsScenario p) [] [] none (All-nil (IsScenario p)))

-- a scenario has no more numbers than there are cells
pub short_scenario : (p : Bounded) (s : List ℕ) → IsScenario p s → length s ≤ length (cells_of p)
short_scenario p s is =
    let c = length (cells_of p) in
    let distinct : AllPairs (λ m n. m ≢ n) s = λ i j d less l e. let h = is.rising i j d less l in omega arith in
    let count = no_longer s (range_with_len 0 c) distinct (λ n there. range_in c n (All-contains (λ n. n < c) s n is.cells there)) in
    omega (arith, count, length-range_with_len 0 c)
