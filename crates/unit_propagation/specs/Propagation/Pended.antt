-- What the marks of clauses keep: the list of those that are marked, with room for all.
use Rattle.std.specs.Prelude.{◌≤◌, length, vec_capacity}
use Rattle.unit_propagation.specs.Propagation.PendingState.{IsMarkList}
use Rattle.unit_propagation.specs.declared.watched_literals.pending.Pending.TheInside.{Inside}

pub record IsPended (p : Inside) : Type 0 where
  pub marks : IsMarkList p.flags.items p.list.items
  pub room : length p.flags.items ≤ vec_capacity p.list
