use Rattle.std.proofs.Common.{◌≡◌, map, take}
use Rattle.renaming_classes.specs.Orbits.{stand_in}
use Rattle.renaming_classes.proofs.orbits.leader.Given as goal

abbrev pub invariant-loop-atom : goal.invariant-loop-atom
invariant-loop-atom l = l.atoms.items ≡ map (stand_in l.kept l.others) (take l.atom-index l.atom-items)
