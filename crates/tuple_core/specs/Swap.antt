-- The exchange of two atoms.
use Rattle.std.specs.Prelude.{Bool, ◌==◌, ◌&&◌, if◌then◌else◌}
use Rattle.tuple_core.specs.declared.atom.Atom.{Atom}

-- whether the atoms have one signature and one place
abbrev pub atom_eq : Atom → Atom → Bool
atom_eq a b = (a.top == b.top) && (a.place == b.place)

-- b for a, a for b, and every other atom for itself
abbrev pub swap_atoms : Atom → Atom → Atom → Atom
swap_atoms a b x = if atom_eq x a then b else (if atom_eq x b then a else x)
