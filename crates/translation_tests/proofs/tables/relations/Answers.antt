use Rattle.std.proofs.Common.{sym, subst}
use Rattle.translation_tests.specs.Tables.{AreTables}
use Rattle.translation_tests.proofs.FixedTables.{five_tables}
use Rattle.translation_tests.proofs.tables.relations.Goals as goal

pub returns : goal.returns
returns c =
    let x = c.args.compared in
    subst (AreTables x.lower.arity) (sym c.in_ok-relations.ensures.items)
    (five_tables x.lower.arity c.in_ok-first.first c.in_ok-second.second c.in_ok-third.third c.in_ok-fourth.fourth x
    c.in_ok-first.ensures c.in_ok-second.ensures c.in_ok-third.ensures c.in_ok-fourth.ensures c.requires)
