use mathlib.Core.List.{[], ◌∷◌}
use mir.Syntax.{named}
use denote.Builtin.{Array}
use denote.Param.{param}
use denote.Param.Send.{sendable, shr_sync, shr_slice_sync}
use denote.Ref.{ShrRef}
use denote.Slice.{ShrSlice}
use Rattle.std.proofs.Crossing
use Rattle.std.specs.contracts.sync.Arc as Arc
use Rattle.std.specs.contracts.alloc.Global as Heap
use Rattle.std.specs.contracts.impls.GlobalAllocator.TheImpl as heap
use Rattle.hub_lock.specs.contracts.lock.Turns as Turns
use Rattle.rel_formula.specs.contracts.problem.Problem as Problem
use Rattle.translation.specs.contracts.translation.Translation as Translation
use Rattle.session_rules.specs.contracts.script.SessionScript as SessionScript
use Rattle.hub_state.specs.contracts.hub.Hub as Hub
use Rattle.hub_state.specs.contracts.kept.HubKept.TheImpl
use Rattle.hub_state.specs.contracts.kept.SeenEntry as SeenEntry
use Rattle.explorer_run.proofs.BetweenThreads.{seat_send, lock_sync, translations_sync, script_sync, captures_sync}
use Rattle.explorer_run.proofs.workers.serve_seats.Goals as goal

pub for_each_mut-requires-send-T : goal.for_each_mut-requires-send-T
for_each_mut-requires-send-T g c κs within = search (seat_send, Crossing.crosses, sendable) depth 20 fits 20000

-- the handle, the allocator, the lock, the gate, the translations and the scripts
pub for_each_mut-requires-sync-F : goal.for_each_mut-requires-sync-F
for_each_mut-requires-sync-F g c κs within = record {
  shared = captures_sync
      (ShrRef (named 6) κs.1.1.1.1.1.1.0 (param 0 g.row.R)
      ∷ ShrRef (named 7) κs.1.1.1.1.1.1.1.0 Heap.the_row
      ∷ ShrRef (named 8) κs.1.1.1.1.1.1.1.1.0 (Turns.the_row Hub.the_row SeenEntry.the_row (Array Problem.the_row tt 0) TheImpl.ghosts)
      ∷ ShrRef (named 9) κs.1.1.1.1.1.1.1.1.1.0 (param 1 g.row.G)
      ∷ ShrSlice (named 10) κs.1.1.1.1.1.1.1.1.1.1.0 (Arc.the_row Translation.the_row Heap.the_row heap.ghosts)
      ∷ ShrSlice (named 11) κs.1.1.1.1.1.1.1.1.1.1.1.0 SessionScript.the_row
      ∷ [])
      (shr_sync _ _ _ c.type_bounds.sync-R, (shr_sync _ _ _ Crossing.sync, (shr_sync _ _ _ lock_sync, (shr_sync _ _ _ c.type_bounds.sync-G, (shr_slice_sync _ _ _ translations_sync, (shr_slice_sync _ _ _ script_sync, tt))))));
}
