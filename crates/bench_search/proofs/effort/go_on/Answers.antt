use Rattle.std.proofs.Common.{List, length, ap, ◌∙◌}
use Rattle.std.specs.Prelude.{◌==◌}
use Rattle.cnf_core.specs.declared.literal.Lit.{Lit}
use Rattle.sat_core.proofs.Searches.{learnt_above}
use Rattle.bench_search.proofs.SearchLemmas.{some_of}
use Rattle.bench_search.proofs.effort.go_on.Goals as goal

pub back_level-level-requires-clause-asserting : goal.back_level-level-requires-clause-asserting
back_level-level-requires-clause-asserting c =
    let learnt = c.in_ok-step.ensures in
    let clause : List Lit = c.in_ok-step.step.clause in
    let some = some_of clause c.is_empty.result (c.is_empty.ensures ∙ ap (λ (ls : List Lit). length ls == 0) c.lits.ensures.lits) c.if-is_empty.false in
    let above = learnt_above c.args.trail.now c.args.conflict clause c.level-level.ensures.trail c.requires.conflict learnt.empty some in
    rw c.lits-2.ensures.lits (learnt.asserting above)
