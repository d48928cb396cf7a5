use Rattle.std.proofs.Common.{◌≡◌, take, sum_by}
use Rattle.explorer_cli.specs.Tallies.{scenarios_in, ends_in}
use Rattle.explorer_cli.proofs.tallies.tally_of_replies.Given as goal

abbrev pub invariant-loop-reply : goal.invariant-loop-reply
invariant-loop-reply l = record {
  shown : l.shown ≡ sum_by scenarios_in (take l.reply-index l.replies);
  ended : l.ended ≡ sum_by ends_in (take l.reply-index l.replies);
}
