use Rattle.std.proofs.Common.{◌≡◌, ◌++◌, map, take}
use Rattle.translation_rules.specs.Locals.{absence_in}
use Rattle.session_state.proofs.search_rounds.locals.add_absences.Given as goal

abbrev pub invariant-loop-scenario : goal.invariant-loop-scenario
invariant-loop-scenario l = l.clauses.items ≡ l.fn.clauses.items ++ map absence_in (take l.scenario-index l.blocked)
