-- Heights that no edge raises.
use Rattle.std.proofs.Common.{ℕ, ◌-◌, ◌<◌, ◌≤◌, List, arith}
use Rattle.reference_cycles.specs.Cycles.Walks.{row_of, IsAcyclic}
use Rattle.reference_cycles.specs.Cycles.Marks.{height_of, AreAtMost, AreHeights}
use Rattle.reference_cycles.proofs.Cycles.WalkEdges.{stays_in}

pub never_back : (rows : List (List ℕ)) (heights : List ℕ) (k : ℕ) → AreHeights rows heights → 0 < height_of heights k → AreAtMost heights (height_of heights k - 1) (row_of rows k) → IsAcyclic rows k
never_back rows heights k are up falls over walk =
    let low : height_of heights k ≤ height_of heights k - 1 = stays_in rows (λ x. height_of heights x ≤ height_of heights k - 1) (λ x r at edge. omega (arith, are x r edge, at)) k over k falls walk in
    omega (arith, low, up)

-- the rows below a number lead to no higher number
abbrev pub AreBelow : List (List ℕ) → List ℕ → ℕ → Type 0
AreBelow rows heights bound = (k : ℕ) → k < bound → AreAtMost heights (height_of heights k) (row_of rows k)
