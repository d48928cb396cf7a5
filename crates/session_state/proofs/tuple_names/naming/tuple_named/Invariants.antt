use Rattle.std.proofs.Common.{◌≡◌, ◌<◌, ℕ, List}
use Rattle.tuple_core.specs.declared.atom.Atom.{Atom}
use Rattle.session_rules.specs.Naming.{NamesTuple}
use Rattle.session_state.proofs.tuple_names.naming.tuple_named.Given as goal

abbrev pub invariant-loop-number : goal.invariant-loop-number
invariant-loop-number l = (r : ℕ) (tuple : List Atom) → r < l.number → NamesTuple l.problem l.relation l.names r tuple → ⊥
