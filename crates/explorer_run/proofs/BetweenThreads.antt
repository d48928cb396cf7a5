-- A seat may go to another thread, and so may translations; and threads may share the lock, the problems, the translations and the
-- scripts.
use mathlib.Core.List.{List, []}
use Prim.Native.Nat.{ℕ}
use denote.RattleType.{RattleType}
use denote.Builtin.{Array}
use denote.Param.Send.{IsSend, IsSync, AllSync, Common, recorded_sync, struct_sync, sendable}
use denote.Struct.Declared.{shape}
use denote.Struct.Field.{rows}
use denote.Struct.Struct.{Struct}
use denote.Struct.Tuple.{TupleAt, type_at, parts}
use Rattle.std.proofs.Crossing
use Rattle.std.specs.contracts.sync.Arc as Arc
use Rattle.std.specs.contracts.alloc.Global as Heap
use Rattle.std.specs.contracts.impls.GlobalAllocator.TheImpl as heap
use Rattle.hub_lock.proofs.lock.Turns.TheSendSync as lock
use Rattle.hub_lock.proofs.pass.Pass.TheSendSync as pass
use Rattle.hub_lock.specs.contracts.lock.Turns as Turns
use Rattle.hub_lock.specs.contracts.pass.Pass as Pass
use Rattle.rel_formula.proofs.formula.Expression.TheLaws.TheKnot as expression
use Rattle.rel_formula.proofs.formula.Formula.TheLaws.TheKnot as formula
use Rattle.rel_formula.specs.contracts.problem.Problem as Problem
use Rattle.translation.specs.contracts.translation.Translation as Translation
use Rattle.session_rules.proofs.script.Transcript.TheSendSync as transcript
use Rattle.session_rules.specs.contracts.script.SessionScript as SessionScript
use Rattle.sat_core.proofs.step_count.StepCount.TheSendSync as counter
use Rattle.session_state.proofs.session_search.session.Session.TheSendSync as session
use Rattle.hub_state.proofs.ThreadCrossing.{hub_send}
use Rattle.hub_state.specs.contracts.hub.Hub as Hub
use Rattle.hub_state.specs.contracts.kept.HubKept.TheImpl
use Rattle.hub_state.specs.contracts.kept.SeenEntry as SeenEntry
use Rattle.explorer_run.specs.contracts.seats.Seat as Seat

pass_send : IsSend (Pass.the_row Hub.the_row SeenEntry.the_row (Array Problem.the_row tt 0) TheImpl.ghosts)
pass_send = pass.the_send Hub.the_row SeenEntry.the_row (Array Problem.the_row tt 0) TheImpl.ghosts hub_send

pub seat_send : IsSend Seat.the_row
seat_send = search (pass_send, session.the_send, transcript.the_send, counter.the_send, Crossing.crosses, sendable) depth 60 fits 20000

pub lock_sync : IsSync (Turns.the_row Hub.the_row SeenEntry.the_row (Array Problem.the_row tt 0) TheImpl.ghosts)
lock_sync = lock.the_sync Hub.the_row SeenEntry.the_row (Array Problem.the_row tt 0) TheImpl.ghosts hub_send

translation_send : IsSend Translation.the_row
translation_send = search (Crossing.crosses, expression.crosses, formula.crosses, sendable) depth 60 fits 20000

translation_sync : IsSync Translation.the_row
translation_sync = search (Crossing.crosses, expression.crosses, formula.crosses, sendable) depth 60 fits 20000

pub script_sync : IsSync SessionScript.the_row
script_sync = search (Crossing.crosses, sendable) depth 60 fits 20000

pub translations_sync : IsSync (Arc.the_row Translation.the_row Heap.the_row heap.ghosts)
translations_sync = Crossing.Arc-sync Translation.the_row translation_send translation_sync

pub translations_send : IsSend (Arc.the_row Translation.the_row Heap.the_row heap.ghosts)
translations_send = Crossing.Arc-send Translation.the_row translation_send translation_sync

pub problem_sync : IsSync Problem.the_row
problem_sync = search (Crossing.crosses, expression.crosses, formula.crosses, sendable) depth 60 fits 20000

-- what a closure captures
pub captures_sync : (Ts : List RattleType) → AllSync (rows (parts Ts)) → (x : (TupleAt [] Ts).Denot) (b o : ℕ) → Common ((TupleAt [] Ts).shr_at x b o)
captures_sync Ts all =
    let T = type_at [] Ts in
    (recorded_sync (Struct (shape T)) T.D T.to T.to_one (struct_sync (shape T) all)).shared
