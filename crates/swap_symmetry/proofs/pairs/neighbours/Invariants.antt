use Rattle.std.proofs.Common.{ℕ, ◌<◌, ◌≡◌, ◌+◌, get_or, ◌∷◌, [], All, AllPairs, Contains}
use Rattle.std.specs.declared.cmp.Ordering.TheVariants.{Less}
use Rattle.tuple_core.specs.declared.atom.Atom.{Atom}
use Rattle.tuple_core.specs.Order.{atom_cmp}
use Rattle.swap_symmetry.proofs.Listed.{Lists}
use Rattle.swap_symmetry.proofs.pairs.neighbours.Given as goal

abbrev pub invariant-loop-place : goal.invariant-loop-place
invariant-loop-place l = Lists l.atoms l.place l.pairs.items
