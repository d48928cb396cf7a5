use Rattle.std.proofs.Common.{◌≤◌, length, take}
use Rattle.tuple_core.specs.Gains.{SomeGives}
use Rattle.tuple_core.specs.Rows.{SetGains}
use Rattle.rel_lower.proofs.Bounding.PlacedProducts.{InProductOf}
use Rattle.rel_lower.proofs.field_bounds.products.products_of.Given as goal

abbrev pub invariant-loop-list : goal.invariant-loop-list
invariant-loop-list l = record {
  gains : SetGains l.initial.tuples l.tuples (SomeGives (take l.list-index l.lists) (InProductOf l.sizes));
  few : length l.tuples.rows ≤ l.room;
}
