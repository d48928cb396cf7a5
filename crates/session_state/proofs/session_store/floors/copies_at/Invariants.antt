use Rattle.std.proofs.Common.{◌≡◌, take}
use Rattle.session_state.specs.Store.Numbered.{scenarios_at}
use Rattle.session_state.proofs.session_store.floors.copies_at.Given as goal

abbrev pub invariant-loop-one : goal.invariant-loop-one
invariant-loop-one l = l.copies.items ≡ scenarios_at l.floor (take l.one-index l.found)
