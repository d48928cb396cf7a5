use Rattle.std.proofs.Common.{◌≡◌, take}
use Rattle.translation_rules.specs.Free.{is_free_of}
use Rattle.translation_rules.specs.Translation.{clauses_of_swaps}
use Rattle.session_state.proofs.search_rounds.locals.free_clauses.Given as goal

abbrev pub invariant-loop-place : goal.invariant-loop-place
invariant-loop-place l = l.clauses.items ≡ clauses_of_swaps (is_free_of l.translation.problem l.floor) (take l.place l.translation.swaps)
