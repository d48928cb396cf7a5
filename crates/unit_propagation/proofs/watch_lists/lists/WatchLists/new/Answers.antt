use Rattle.std.proofs.Common.{[], arith, refl}
use Rattle.unit_propagation.proofs.Watches.Links.{lists_found}
use Rattle.unit_propagation.proofs.Watches.Moves.{lists_none, watched_equal}
use Rattle.unit_propagation.proofs.watch_lists.lists.WatchLists.new.Goals as goal

pub invariant_of-result : goal.invariant_of-result
invariant_of-result c =
    let none = lists_none c.args.codes in
    record { lists = rw (c.in_ok-first.ensures, c.new.ensures.items, lists_found _ _ _ none) none; few = rw c.new.ensures.items (omega arith) }

pub returns : goal.returns
returns c = rw (c.in_ok-first.ensures, c.new.ensures.items) (watched_equal [] [] _ _ refl (lists_found _ _ _ (lists_none c.args.codes)))
