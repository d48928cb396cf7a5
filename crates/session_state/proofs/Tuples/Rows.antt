-- Tuples whose atoms have given names.
use Rattle.std.proofs.Common.{◌≡◌, ◌≢◌, ◌↔◌, ◌<◌, ◌+◌, ℕ, Bool, true, false, List, [], ◌∷◌, ◌++◌, Option, Some, None, inl, inr, map, take, length, get_or, slice_get, All, Contains, refl, sym, ◌∙◌, ap, subst, arith}
use Rattle.std.proofs.lemmas.Bool.{cases_Bool}
use Rattle.std.proofs.lemmas.List.Elements.{Contains-get_or, All-contains}
use Rattle.std.specs.List.{list_any}
use Rattle.std.specs.Ordering.{eq_by_cmp}
use Rattle.tuple_core.specs.declared.atom.Atom.{Atom}
use Rattle.tuple_core.specs.Order.{tuple_cmp}
use Rattle.rel_formula.specs.declared.problem.Relation.{Relation}
use Rattle.rel_formula.specs.declared.problem.Cell.{Cell}
use Rattle.rel_formula.specs.Bounds.{Bounded, IsProblem, IsAtomOf, relation_at, cell_of, cells_of}
use Rattle.rel_formula.proofs.Cells.{any_row}
use Rattle.rel_formula.proofs.OpenCells.{open_cell}
use Rattle.session_words.specs.declared.atom_names.AtomName.{AtomName}
use Rattle.session_rules.specs.Naming.{NamesTuple}

-- the atoms of a problem's relation have signatures
pub tops_known : (p : Bounded) → IsProblem p → (relation : Relation) → Contains p.relations relation → All (All (λ (a : Atom). a.top < length p.tops)) relation.upper.rows
tops_known p is relation c k d l j e h =
    let row : List Atom = get_or relation.upper.rows k d in
    is.atoms (get_or row j e) (relation, c, (row, Contains-get_or relation.upper.rows k d l, Contains-get_or row j e h))

-- a tuple that a relation may have, and that is no cell, is there for sure
pub is_fixed : (p : Bounded) (name : List ℕ) (names : List AtomName) (r : ℕ) (tuple : List Atom) → NamesTuple p name names r tuple →
    ((n : ℕ) → slice_get (cells_of p) n ≡ Some (cell_of r tuple) → ⊥) → Contains (relation_at p.relations r).lower.rows tuple
is_fixed p name names r tuple is none = elim (cases_Bool (list_any (eq_by_cmp tuple_cmp tuple) (relation_at p.relations r).lower.rows)) [
  | inl t ↦ (any_row tuple (relation_at p.relations r).lower.rows).0 t
  | inr f ↦
      let cell = open_cell p r tuple is.in_range is.upper (λ c. let t = (any_row tuple (relation_at p.relations r).lower.rows).1 c in absurd cc) in
      absurd (none cell.0 cell.1)
]
