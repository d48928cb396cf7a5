use Rattle.std.proofs.Common.{◌≤◌, List, length, arith, ap, subst}
use Rattle.cnf_core.specs.declared.literal.Lit.{Lit}
use Rattle.sat_core.specs.Kept.{IsKept}
use Rattle.solver_tests.proofs.of_kept_search.counted.Goals as goal

pub over-requires-2-clause-few : goal.over-requires-2-clause-few
over-requires-2-clause-few c = omega (arith, c.requires.clauses, c.requires.local, c.in_ok-local.ensures.few, ap length c.as_slice.ensures.value, ap length c.new-pool.ensures)

pub listed-requires-clause-pool : goal.listed-requires-clause-pool
listed-requires-clause-pool c = λ i d h. absurd (omega (arith, h, ap length c.new-pool.ensures))

pub listed-requires-clause-none : goal.listed-requires-clause-none
listed-requires-clause-none c = ap length c.new-pool.ensures

pub listed-requires-clause-kept : goal.listed-requires-clause-kept
listed-requires-clause-kept c = subst (λ (ls : List (List Lit)). IsKept c.args.f.now ls c.new-pool.result c.in_ok-search.search) c.as_slice.ensures.value c.in_ok-search.ensures.kept

pub listed-requires-clause-room : goal.listed-requires-clause-room
listed-requires-clause-room c = omega (arith, ap length c.in_ok-search.ensures.none)

pub listed-requires-clause-few : goal.listed-requires-clause-few
listed-requires-clause-few c = omega (arith, c.requires.clauses, c.requires.local, c.in_ok-local.ensures.few)
