use Rattle.std.proofs.Common.{◌∷◌, [], Contains, ◌↔◌, take}
use Rattle.tuple_core.specs.declared.atom.Atom.{Atom}
use Rattle.renaming_classes.proofs.placing.movable.Given as goal

abbrev pub invariant-loop-row : goal.invariant-loop-row
invariant-loop-row l = (a : Atom) → Contains l.atoms.items a ↔ Contains (take l.row-index l.row-items) (a ∷ [])
