use Rattle.std.proofs.Common.{List, All, take}
use Rattle.refutation_check.specs.Part.{Parted}
use Rattle.hub_state.specs.Journal.Noted.{Note}
use Rattle.hub_state.specs.Journal.Journal.{HasImported}
use Rattle.hub_turns.specs.Groups.{AreShared, SharesItsSteps}
use Rattle.hub_turns.specs.Turned.{WentOn}
use Rattle.session_turns.specs.Added.{HasAddedAll}
use Rattle.session_turns.proofs.sharing.share_parts.Given as goal

abbrev pub invariant-loop-part : goal.invariant-loop-part
invariant-loop-part g l = record {
  goes : WentOn l.lock l.fn.pass l.pass;
  imported : HasImported l.pass.view.seen l.fn.pass.view.number l.key l.translation l.pool;
  added : (notes : List Note) × HasAddedAll l.fn.pass l.pass notes × AreShared l.key notes;
  shared : All (λ (part : Parted). SharesItsSteps l.pass.view.seen l.fn.pass.view.number l.key l.translation part.local l.pool part.log) (take l.part-index l.parts);
}
