use Rattle.std.proofs.Common.{◌≡◌, ◌++◌, take, All}
use Rattle.tuple_core.specs.Rows.{IsRows}
use Rattle.script_text.specs.Lines.{relation_lines}
use Rattle.script_text.proofs.scenario_lines.push_tables.Given as goal

abbrev pub invariant-loop-number : goal.invariant-loop-number
invariant-loop-number l = record {
  lines : l.out.items ≡ l.fn.out.items ++ relation_lines l.fn.problem (take l.number l.relations) (take l.number l.tables);
  well : All IsRows (take l.number l.tables);
}
