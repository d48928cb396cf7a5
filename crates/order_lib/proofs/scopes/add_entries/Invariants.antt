use Rattle.std.proofs.Common.{◌≡◌, drop}
use Rattle.order_lib.specs.Scopes.{with_entries}
use Rattle.order_lib.proofs.scopes.add_entries.Given as goal

abbrev pub invariant-loop-name : goal.invariant-loop-name
invariant-loop-name l =
    with_entries l.listed l.number l.entries.items (drop l.name-index l.names) ≡ with_entries l.listed l.number l.initial.entries.items l.names
