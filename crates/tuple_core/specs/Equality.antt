-- The tests whether two tuples, or two sets, are equal.
use Rattle.std.specs.Prelude.{Bool, ◌==◌, ◌&&◌, List}
use Rattle.std.specs.Cmp.{IsEquivalence}
use Rattle.std.specs.Cmp.Lexicographic.{pointwise}
use Rattle.std.proofs.lemmas.Cmp.{and_equiv, on_equiv, lists_equiv, nat_eq_equiv}
use Rattle.tuple_core.specs.declared.atom.Atom.{Atom}
use Rattle.tuple_core.specs.Swap.{atom_eq}
use Rattle.tuple_core.specs.Rows.{Rows}

-- whether the tuples have the same atoms
abbrev pub tuple_eq : List Atom → List Atom → Bool
tuple_eq = pointwise atom_eq

-- whether the sets have one arity and the same tuples
abbrev pub set_eq : Rows → Rows → Bool
set_eq v w = (v.arity == w.arity) && pointwise tuple_eq v.rows w.rows

atom_eq_equiv : IsEquivalence atom_eq
atom_eq_equiv = and_equiv (on_equiv (λ (a : Atom). a.top) nat_eq_equiv) (on_equiv (λ (a : Atom). a.place) nat_eq_equiv)

-- the test for sets is an equivalence
pub set_eq_equiv : IsEquivalence set_eq
set_eq_equiv = and_equiv (on_equiv (λ (v : Rows). v.arity) nat_eq_equiv) (on_equiv (λ (v : Rows). v.rows) (lists_equiv (lists_equiv atom_eq_equiv)))
