use Rattle.crew_run.proofs.Working.{no_cells, no_import}
use Rattle.crew_run.proofs.round.Searcher.block_all.Goals as goal

pub block_behind-requires-clause-import : goal.block_behind-requires-clause-import
block_behind-requires-clause-import c = no_import c.args.translation.now c.args.self.now.pool c.requires.searcher.no_pool

pub block_behind-requires-clause-floor : goal.block_behind-requires-clause-floor
block_behind-requires-clause-floor c = no_cells c.args.translation.now c.args.self.now.floor c.requires.searcher.bottom

pub returns : goal.returns
returns c = record {
  no_pool = c.requires.searcher.no_pool;
  bottom = c.requires.searcher.bottom;
  held = c.in_ok-block_behind.ensures;
}
