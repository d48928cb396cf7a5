-- How long a descent is.
use Rattle.std.proofs.Common.{◌≤◌, ◌+◌, [], ◌∷◌, ℕ, List, length, All, AllPairs, arith}
use Rattle.std.proofs.lemmas.List.Elements.{All-head, All-tail, All-weaker}
use Rattle.minimiser.proofs.Cells.{fewer}
use Rattle.rel_formula.specs.Bounds.{Bounded, cells_of}
use Rattle.rel_formula.specs.Instance.{IsScenario}
use Rattle.rel_formula.proofs.Lists.{pairs_head, pairs_tail}
use Rattle.translation_rules.specs.Descents.{IsProperPart, Lowering, IsLowering, GoesDown}
use Rattle.work_limits.proofs.ScenarioCounts.{short_scenario}

abbrev FromScenario : Bounded → Lowering → Type 0
FromScenario p x = IsScenario p x.from

abbrev Falls : Lowering → Lowering → Type 0
Falls x y = IsProperPart x.from y.from

falls : (p : Bounded) (x : Lowering) (xs : List Lowering) → All (FromScenario p) (x ∷ xs) → AllPairs Falls (x ∷ xs) → length (x ∷ xs) ≤ length x.from + 1
falls p x [] scenarios shrinking = omega arith
falls p x (y ∷ ys) scenarios shrinking =
    let later : All (FromScenario p) (y ∷ ys) = All-tail (FromScenario p) x (y ∷ ys) scenarios in
    let rest = falls p y ys later (pairs_tail Falls x (y ∷ ys) shrinking) in
    let lower : IsScenario p y.from = All-head (FromScenario p) y ys later in
    let less = fewer x.from y.from lower.rising (All-head (Falls x) y ys (pairs_head Falls x (y ∷ ys) shrinking)) in
    omega arith

-- a descent has one search more than there are cells, at most
pub short_descent : (p : Bounded) (floor : List ℕ) (xs : List Lowering) → GoesDown p floor xs → length xs ≤ length (cells_of p) + 1
short_descent p floor [] down = omega arith
short_descent p floor (x ∷ xs) down =
    let scenarios : All (FromScenario p) (x ∷ xs) = All-weaker (IsLowering p floor) (FromScenario p) (λ x is. is.instance_of.scenario) (x ∷ xs) down.lowerings in
    let most = falls p x xs scenarios down.shrinking in
    let short = short_scenario p x.from (All-head (FromScenario p) x xs scenarios) in
    omega arith
