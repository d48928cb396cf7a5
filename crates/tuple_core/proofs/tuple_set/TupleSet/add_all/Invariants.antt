use Rattle.std.proofs.Common.{◌≡◌, ◌≤◌, length, take}
use Rattle.tuple_core.specs.Gains.{SomeGives}
use Rattle.tuple_core.specs.Rows.{SetGains}
use Rattle.tuple_core.proofs.tuple_set.TupleSet.add_all.Given as goal

abbrev pub invariant-loop-row : goal.invariant-loop-row
invariant-loop-row l = record {
  gains : SetGains l.fn.self l.self (SomeGives (take l.row-index l.rows) (λ x t. t ≡ x));
  grows : length l.fn.self.rows ≤ length l.self.rows;
  same : length l.self.rows ≡ length l.fn.self.rows → l.self ≡ l.fn.self;
}
