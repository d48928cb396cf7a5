use Rattle.crew_run.proofs.Working.{no_cells, no_import}
use Rattle.crew_run.proofs.round.searcher_of.Goals as goal

pub at-requires-clause-import : goal.at-requires-clause-import
at-requires-clause-import c = no_import c.args.translation.now c.new-pool.result c.new-pool.ensures

pub at-requires-clause-floor : goal.at-requires-clause-floor
at-requires-clause-floor c = no_cells c.args.translation.now c.new-floor.result c.new-floor.ensures
