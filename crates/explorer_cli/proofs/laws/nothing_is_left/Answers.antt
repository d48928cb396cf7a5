use Rattle.lowering_rules.specs.Formula.{all_facts}
use Rattle.explorer_cli.proofs.Replied.{floor_in}
use Rattle.explorer_cli.proofs.laws.nothing_is_left.Goals as goal

pub returns : goal.returns
returns c m number p is budget commands replies floors run place reply floor at shown all x minimal =
    let symmetric = c.problems_are_symmetric.ensures m number (all_facts m) p is.lowered.is in
    let due = c.each_minimal_has_a_due_renaming_beside.ensures p is.problem symmetric floor (floor_in p budget commands replies floors run c.a_run_is_sound.ensures place reply floor at) x minimal in
    (due.0, all due.0 due.2, due.1)
