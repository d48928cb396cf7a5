use Rattle.std.proofs.Common.{sym, subst}
use Rattle.rel_formula.specs.Tables.{AreTables}
use Rattle.script_text.proofs.Tables.{table_tops}
use Rattle.script_text.proofs.scenario_lines.push_scenario.Goals as goal

pub push_tables-requires-clause-tops : goal.push_tables-requires-clause-tops
push_tables-requires-clause-tops c =
    let p = c.args.problem.now in
    let are = subst (AreTables p c.args.scenario.now) (sym c.values.ensures) c.in_ok-tables.ensures.values in
    table_tops p c.args.scenario.now c.values.result.now c.relations.ensures.well are
