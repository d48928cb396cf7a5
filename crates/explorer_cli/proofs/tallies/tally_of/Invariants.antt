use Rattle.std.proofs.Common.{◌≡◌, take}
use Rattle.explorer_cli.specs.Tallies.{scenarios_in, ends_in, sum_in}
use Rattle.explorer_cli.proofs.tallies.tally_of.Given as goal

abbrev pub invariant-loop-transcript : goal.invariant-loop-transcript
invariant-loop-transcript l = record {
  shown : l.shown ≡ sum_in scenarios_in (take l.transcript-index l.transcripts);
  ended : l.ended ≡ sum_in ends_in (take l.transcript-index l.transcripts);
}
