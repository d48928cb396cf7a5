use Rattle.std.proofs.Common.{◌≡◌, false, take}
use Rattle.std.specs.List.{list_any}
use Rattle.tuple_core.specs.Swap.{atom_eq}
use Rattle.translation_rules.specs.Free.{tuple_at}
use Rattle.session_state.proofs.search_rounds.locals.stands_in.Given as goal

abbrev pub invariant-loop-number : goal.invariant-loop-number
invariant-loop-number l = list_any (λ n. list_any (atom_eq l.atom) (tuple_at l.problem n)) (take l.number-index l.floor) ≡ false
