use Rattle.std.proofs.Common.{◌≡◌, ℕ, ◌<◌, length, get_or, Contains}
use Rattle.tuple_core.specs.Rows.{Rows, IsSetOf}
use Rattle.rel_formula.specs.Bounds.{relation_at}
use Rattle.rel_formula.specs.Instance.{InRelation}
use Rattle.rel_formula.proofs.tables.all_tables.Given as goal

abbrev pub invariant-loop-number : goal.invariant-loop-number
invariant-loop-number l = record {
  count : length l.tables.items ≡ l.number;
  each : (r : ℕ) (d : Rows) → r < length l.tables.items →
      IsSetOf (get_or l.tables.items r d) (relation_at l.problem.relations r).lower.arity (InRelation l.problem (Contains l.scenario) r);
}
