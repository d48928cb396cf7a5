-- How many parts, and how many copies, a search for the next scenario has.
use Rattle.std.proofs.Common.{◌≢◌, ◌<◌, ◌≤◌, ◌+◌, ◌*◌, ◌^◌, ◌++◌, [], ◌∷◌, ℕ, List, length, get_or, map, flat_map, All, AllPairs, sym, subst, arith}
use Rattle.std.proofs.lemmas.List.{length-map}
use Rattle.std.proofs.lemmas.List.Concat.{length-flat_map}
use Rattle.std.proofs.lemmas.List.Elements.{All-nil, All-cons, All-push, All-map, All-contains}
use Rattle.std.proofs.lemmas.List.Kept.{AllPairs-cons}
use Rattle.std.proofs.lemmas.List.Sums.{sum_by-le}
use Rattle.cnf_core.specs.Literal.{HasVarsUpTo}
use Rattle.refutation_check.specs.declared.log.Step.{Step}
use Rattle.rel_formula.specs.Bounds.{Bounded, cells_of}
use Rattle.rel_formula.specs.Instance.{AreCells, IsScenario}
use Rattle.swap_symmetry.specs.Due.{IsDue}
use Rattle.swap_symmetry.specs.Swaps.{IsSettledBeside}
use Rattle.translation_rules.specs.Translation.{Translated}
use Rattle.translation_rules.specs.Descents.{Lowering}
use Rattle.translation_rules.proofs.Tests.{flat_has, from_each}
use Rattle.session_rules.specs.Proofs.{IsCopy}
use Rattle.session_rules.specs.Work.{Round, IsRound, AreRounds, parts_of_round}
use Rattle.work_limits.specs.Variables.{AreOverFirst}
use Rattle.work_limits.proofs.PartUnits.{IsLocalOver}
use Rattle.work_limits.proofs.LocalVariables.{locals_over, descent_over}
use Rattle.work_limits.proofs.ScenarioCounts.{few_scenarios, some_scenario}
use Rattle.work_limits.proofs.Descending.{short_descent}

-- the parts of a round are few, and their local clauses have the first variables only
pub record IsFewOver (v : ℕ) (p : Bounded) (round : Round) : Type 0 where
  pub over : All (IsLocalOver v) (parts_of_round round)
  pub few : length (parts_of_round round) ≤ length (cells_of p) + 2

module _ (v : ℕ) (t : Translated) (pool : List Step) (first : AreOverFirst v t pool) (floor : List ℕ) (cells : AreCells t.problem floor) where
  pub round_over : (blocked : List (List ℕ)) → All (AreCells t.problem) blocked → (round : Round) → IsRound t floor blocked round → IsFewOver v t.problem round
  round_over blocked each round is = record {
    over = All-cons (IsLocalOver v) round.search (map (λ (x : Lowering). x.part) round.descent)
        (subst (All (HasVarsUpTo v)) (sym is.local) (locals_over v t.problem first.cells t first.swaps floor cells blocked each))
        (All-map (IsLocalOver v) (λ (x : Lowering). x.part) round.descent (λ k d l.
        let lowering = is.descent.down.lowerings k d l in
        subst (All (HasVarsUpTo v)) (sym lowering.local) (descent_over v t.problem first.cells floor cells (get_or round.descent k d).from lowering.instance_of.scenario.cells)));
    few =
        let short = short_descent t.problem floor round.descent is.descent.down in
        omega (arith, length-map round.descent (λ (x : Lowering). x.part));
  }

  pub rounds_over : (shown blocked : List (List ℕ)) → All (AreCells t.problem) blocked → (rounds : List Round) (copies : List (List ℕ)) → AreRounds t floor shown blocked rounds copies
      → All (IsFewOver v t.problem) rounds
  rounds_over shown blocked each [] copies none = All-nil (IsFewOver v t.problem)
  rounds_over shown blocked each (round ∷ rounds) [] (here, none) =
      All-cons (IsFewOver v t.problem) round rounds (round_over blocked each round here) (subst (All (IsFewOver v t.problem)) (sym none) (All-nil (IsFewOver v t.problem)))
  rounds_over shown blocked each (round ∷ rounds) (copy ∷ copies) (here, is_copy, fresh, later) =
      All-cons (IsFewOver v t.problem) round rounds (round_over blocked each round here)
      (rounds_over shown (blocked ++ copy ∷ []) (All-push (AreCells t.problem) blocked copy each is_copy.minimal.instance_of.scenario.cells) rounds copies later)

-- what rounds find are copies
pub are_copies : (t : Translated) (floor : List ℕ) (shown blocked : List (List ℕ)) (rounds : List Round) (copies : List (List ℕ)) → AreRounds t floor shown blocked rounds copies
    → All (IsCopy t.problem floor shown) copies
are_copies t floor shown blocked [] copies none = subst (All (IsCopy t.problem floor shown)) (sym none) (All-nil (IsCopy t.problem floor shown))
are_copies t floor shown blocked (round ∷ rounds) [] (here, none) = All-nil (IsCopy t.problem floor shown)
are_copies t floor shown blocked (round ∷ rounds) (copy ∷ copies) (here, is_copy, fresh, later) =
    All-cons (IsCopy t.problem floor shown) copy copies is_copy (are_copies t floor shown (blocked ++ copy ∷ []) rounds copies later)

module _ (v : ℕ) (p : Bounded) (rounds : List Round) (each : All (IsFewOver v p) rounds) where
  pub parts_over : All (IsLocalOver v) (flat_map parts_of_round rounds)
  parts_over = from_each (IsLocalOver v) (flat_map parts_of_round rounds) (λ part c.
      let f = flat_has parts_of_round rounds part c in
      All-contains (IsLocalOver v) (parts_of_round f.0) part (All-contains (IsFewOver v p) rounds f.0 each f.1).over f.2)

  pub few_parts : length (flat_map parts_of_round rounds) ≤ length rounds * (length (cells_of p) + 2)
  few_parts =
      let most = sum_by-le (λ (round : Round). length (parts_of_round round)) (length (cells_of p) + 2) rounds (λ k d l. (each k d l).few) in
      omega (arith, length-flat_map parts_of_round rounds)

-- copies of what was shown are fewer than scenarios: none of them is the shown one
pub few_copies : (p : Bounded) (floor : List ℕ) (shown : List (List ℕ)) → All (IsDue p floor) shown → (copies : List (List ℕ)) → AllPairs (λ x y. x ≢ y) copies
    → All (IsCopy p floor shown) copies → length copies < 2 ^ length (cells_of p)
few_copies p floor shown due [] distinct are = let some = some_scenario p in omega arith
few_copies p floor shown due (copy ∷ copies) distinct are =
    let renamed = (are 0 copy (omega arith)).renamed in
    let shown_one = renamed.0 in
    let is : IsDue p floor shown_one = All-contains (IsDue p floor) shown shown_one due renamed.1 in
    let differ : AllPairs (λ x y. x ≢ y) (shown_one ∷ copy ∷ copies) = AllPairs-cons (λ x y. x ≢ y) shown_one (copy ∷ copies)
    (λ k d l e. (are k d l).unsettled (subst (IsSettledBeside p floor) e is.settled)) distinct in
    let scenarios : All (IsScenario p) (shown_one ∷ copy ∷ copies) = All-cons (IsScenario p) shown_one (copy ∷ copies) is.minimal.instance_of.scenario
    (λ k d l. (are k d l).minimal.instance_of.scenario) in
    let most = few_scenarios p (shown_one ∷ copy ∷ copies) differ scenarios in
    omega arith
