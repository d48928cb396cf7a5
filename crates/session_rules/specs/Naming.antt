-- The tuple, and the cell, that a relation's name and the names of atoms stand for.
use Rattle.std.specs.Prelude.{◌≡◌, ◌<◌, ℕ, List, map, length, slice_get, Some, Contains}
use Rattle.tuple_core.specs.declared.atom.Atom.{Atom}
use Rattle.rel_formula.specs.Bounds.{Bounded, relation_at, signature_name, cell_of, cells_of}
use Rattle.session_words.specs.declared.atom_names.AtomName.{AtomName}

-- the name of the atom's top-level signature, and its place
abbrev pub name_of_atom : Bounded → Atom → AtomName
name_of_atom p a = record { top = signature_name p a; place = a.place }

-- relation r has this name, and its upper set has this tuple, whose atoms have these names
pub record NamesTuple (p : Bounded) (name : List ℕ) (names : List AtomName) (r : ℕ) (tuple : List Atom) : Type 0 where
  pub in_range : r < length p.relations
  pub relation : (relation_at p.relations r).name ≡ name
  pub upper : Contains (relation_at p.relations r).upper.rows tuple
  pub atoms : map (name_of_atom p) tuple ≡ names

-- the names are those of a tuple of the relation's upper set
abbrev pub IsNamed : Bounded → List ℕ → List AtomName → Type 0
IsNamed p name names = (r : ℕ) × (tuple : List Atom) × NamesTuple p name names r tuple

-- the names are those of the cell of this number
abbrev pub NamesCell : Bounded → List ℕ → List AtomName → ℕ → Type 0
NamesCell p name names n = (r : ℕ) × (tuple : List Atom) × NamesTuple p name names r tuple × (slice_get (cells_of p) n ≡ Some (cell_of r tuple))
