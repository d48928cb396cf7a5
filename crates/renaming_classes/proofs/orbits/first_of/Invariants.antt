use Rattle.std.proofs.Common.{◌≡◌, drop}
use Rattle.renaming_classes.specs.Orbits.{first_of}
use Rattle.renaming_classes.proofs.orbits.first_of.Given as goal

abbrev pub invariant-loop-atom : goal.invariant-loop-atom
invariant-loop-atom l = first_of (drop l.atom-index l.atoms) l.fn.top ≡ first_of l.atoms l.fn.top
