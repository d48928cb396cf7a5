-- The whole problem: where the inputs choose its cells.
use Rattle.std.proofs.Common.{ℕ, ◌+◌, ◌≤◌, ◌<◌, ◌↔◌, inl, inr, List, [], Contains, length, arith}
use Rattle.tuple_core.specs.Gains.{Same}
use Rattle.bool_circuit.specs.Network.{Network, size}
use Rattle.bool_matrix.specs.Cells.{Cells}
use Rattle.rel_formula.specs.Bounds.{Bounded, IsProblem, cell_of, cells_of}
use Rattle.rel_formula.specs.Instance.{InRelation, InSome, structure_of, HoldsWhere, IsScenario, IsInstance}
use Rattle.rel_formula.proofs.Congruence.{truth_same}
use Rattle.rel_formula.proofs.Lists.{some_below}
use Rattle.rel_terms.specs.Terms.{HasTerms, IsTranslatable}
use Rattle.rel_translate.specs.Tables.{AreTables, IsReady}
use Rattle.rel_translate.specs.Makes.{HasRoomFor}

module _ (p : Bounded) (C D : ℕ → Type 0) (same : (n : ℕ) → n < length (cells_of p) → C n ↔ D n) where
  relation_same : (r : ℕ) → Same (InRelation p C r) (InRelation p D r)
  relation_same r = record {
    to = λ t v. elim v [ inl low ↦ inl low | inr cell ↦ inr (cell.0, (same cell.0 (some_below (cells_of p) cell.0 (cell_of r t) cell.2)).0 cell.1, cell.2) ];
    back = λ t v. elim v [ inl low ↦ inl low | inr cell ↦ inr (cell.0, (same cell.0 (some_below (cells_of p) cell.0 (cell_of r t) cell.2)).1 cell.1, cell.2) ];
  }

  universe_same : Same (InSome p.tops (InRelation p C)) (InSome p.tops (InRelation p D))
  universe_same = record {
    to = λ t v. (v.0, v.1, (relation_same v.0).to t v.2);
    back = λ t v. (v.0, v.1, (relation_same v.0).back t v.2);
  }

  holds_same : HoldsWhere p C ↔ HoldsWhere p D
  holds_same = truth_same (structure_of p C) (structure_of p D) relation_same universe_same [] p.formula

pub instance_is : (p : Bounded) (C : ℕ → Type 0) (s : List ℕ) → IsScenario p s → ((n : ℕ) → n < length (cells_of p) → C n ↔ Contains s n) → HoldsWhere p C ↔ IsInstance p s
instance_is p C s scenario same =
    let holds = holds_same p C (Contains s) same in
    (λ h. record { scenario = scenario; holds = holds.0 h }, λ i. holds.1 i.holds)

-- the room for the problem's formula
pub whole_room : (p : Bounded) (used : ℕ) → IsTranslatable p → IsProblem p → used ≤ length (cells_of p) + 2 → HasRoomFor used (HasTerms p)
whole_room p used is well most =
    let t = is.few_terms in
    (t.0, t.1, (let l = t.2 in let few = well.few_cells in omega arith))

pub whole_ready : (network : Network) (p : Bounded) (always : ℕ) (relations : List Cells) (universe : Cells) → IsTranslatable p → IsProblem p → AreTables network p always relations universe → IsReady network p always relations universe []
whole_ready network p always relations universe is well tables = record { problem = well; few_atoms = is.few_atoms; tables = tables; atoms = λ k d l. absurd (omega arith) }

-- a circuit has no more nodes than its size
pub length_size : (network : Network) → length network.shapes ≤ size network
length_size network = omega arith
