use Rattle.std.proofs.Common.{◌≡◌, ℕ, ◌<◌, List, map, get_or}
use Rattle.tuple_core.specs.declared.atom.Atom.{Atom}
use Rattle.session_rules.specs.Naming.{name_of_atom}
use Rattle.session_state.proofs.tuple_names.names.row_named.Given as goal

abbrev pub invariant-loop-row : goal.invariant-loop-row
invariant-loop-row l = (k : ℕ) (d : List Atom) → k < l.row-index → map (name_of_atom l.problem) (get_or l.rows k d) ≡ l.names → ⊥
