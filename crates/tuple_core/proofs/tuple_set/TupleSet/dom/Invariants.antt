use Rattle.std.proofs.Common.{[], ◌∷◌, take, Contains}
use Rattle.tuple_core.specs.declared.atom.Atom.{Atom}
use Rattle.tuple_core.specs.Operators.{BeginsWith}
use Rattle.tuple_core.specs.Rows.{SetGains}
use Rattle.tuple_core.proofs.Steps.{Kept}
use Rattle.tuple_core.proofs.tuple_set.TupleSet.dom.Given as goal

abbrev pub invariant-loop-row : goal.invariant-loop-row
invariant-loop-row l = SetGains l.initial.out l.out (Kept (take l.row-index l.row-items) (λ t. (x : Atom) × BeginsWith x t × Contains l.atoms.rows (x ∷ [])))
