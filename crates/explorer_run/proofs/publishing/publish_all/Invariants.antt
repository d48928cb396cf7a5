use Rattle.std.proofs.Common.{◌≡◌, length}
use Rattle.hub_turns.specs.Turned.{WentOn}
use Rattle.explorer_run.specs.Served.{ArePublished, values_of}
use Rattle.explorer_run.specs.Seats.{HasPublishedOnly}
use Rattle.explorer_run.proofs.publishing.publish_all.Given as goal

abbrev pub invariant-loop-translation : goal.invariant-loop-translation
invariant-loop-translation g l = record {
  goes : WentOn l.lock l.fn.root l.root;
  own : HasPublishedOnly l.root;
  count : length l.kept.items ≡ l.translation-index;
  published : ArePublished l.root.view.seen (values_of l.kept.items);
}
