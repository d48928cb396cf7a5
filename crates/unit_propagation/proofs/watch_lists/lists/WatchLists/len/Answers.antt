use Rattle.unit_propagation.proofs.Watches.Moves.{listed_of}
use Rattle.unit_propagation.proofs.watch_lists.lists.WatchLists.len.Goals as goal

pub returns-clause-listed : goal.returns-clause-listed
returns-clause-listed c = rw (← c.self.view_is) (listed_of _ _ _ c.self.invariant.lists)
