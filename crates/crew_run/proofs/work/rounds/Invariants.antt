use Rattle.std.proofs.Common.{Some}
use Rattle.crew_run.specs.Passing.{IsReady, HasRead}
use Rattle.crew_run.specs.Searching.{IsSearcher}
use Rattle.crew_run.proofs.work.rounds.Given as goal

abbrev pub invariant-loop-round : goal.invariant-loop-round
invariant-loop-round g l = record {
  ready : IsReady l.lock (Some (record { translation = l.translation; budget = l.budget; most = l.most })) l.pass;
  searcher : IsSearcher l.translation l.reading.told.items l.searcher;
  read : HasRead l.pass.view.seen l.reading;
}
