use Rattle.std.proofs.Common.{◌≡◌, ◌++◌, ◌∷◌, map, drop, option_map}
use Rattle.script_format.specs.Tuples.{atoms_behind}
use Rattle.script_format.proofs.tuples.atoms_behind.Given as goal

abbrev pub invariant-loop-other : goal.invariant-loop-other
invariant-loop-other l =
    option_map (λ atoms. l.names.items ++ atoms) (atoms_behind (map (λ part. part.now) (drop l.other-index l.others)))
    ≡ option_map (λ atoms. l.fn.first ∷ atoms) (atoms_behind (map (λ part. part.now) l.others))
