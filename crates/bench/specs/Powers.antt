-- Sets of atoms, and all tuples over them.
use Rattle.std.specs.Prelude.{◌≡◌, ◌↔◌, ◌<◌, ◌∷◌, [], List, length, All, Contains}
use Rattle.tuple_core.specs.declared.atom.Atom.{Atom}
use Rattle.tuple_core.specs.Rows.{Rows}

-- the tuples are single atoms of the first signature
pub record AreAtoms (atoms : Rows) : Type 0 where
  pub arity : atoms.arity ≡ 1
  pub tops : All (All (λ (a : Atom). a.top < 1)) atoms.rows

-- the tuples are all those of its arity over the atoms
pub record IsPower (atoms power : Rows) : Type 0 where
  pub tuples : (t : List Atom) → Contains power.rows t ↔ (All (λ (a : Atom). Contains atoms.rows (a ∷ [])) t × (length t ≡ power.arity))
