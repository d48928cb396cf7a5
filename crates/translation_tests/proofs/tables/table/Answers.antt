use Rattle.std.proofs.Common.{◌≤◌, ap, arith, length}
use Rattle.tuple_core.specs.Rows.{Rows}
use Rattle.translation_tests.proofs.tables.table.Goals as goal

pub returns : goal.returns
returns c =
    let few : length c.args.set.rows ≤ 16 = let e = ap length c.rows.ensures.value in omega arith in
    record {
      fixed = record { rows = c.rows.ensures.well; same = c.in_ok-lower.ensures; few = few; tops = c.requires };
      named = c.in_ok-name.ensures;
      wide = ap (λ (v : Rows). v.arity) c.in_ok-lower.ensures;
    }
