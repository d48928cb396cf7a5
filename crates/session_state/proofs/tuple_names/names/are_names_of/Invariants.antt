use Rattle.std.proofs.Common.{◌≡◌, map, take}
use Rattle.session_rules.specs.Naming.{name_of_atom}
use Rattle.session_state.proofs.tuple_names.names.are_names_of.Given as goal

abbrev pub invariant-loop-place : goal.invariant-loop-place
invariant-loop-place l = map (name_of_atom l.problem) (take l.place l.atoms) ≡ take l.place l.names
