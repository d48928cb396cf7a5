-- The order of atoms and of tuples.
use Rattle.std.specs.Prelude.{◌≡◌, List, AllPairs}
use Rattle.std.specs.declared.cmp.Ordering.{Ordering}
use Rattle.std.specs.declared.cmp.Ordering.TheVariants.{Less}
use Rattle.std.specs.Ordering.{nat_cmp, ordering_then}
use Rattle.std.specs.Cmp.Lexicographic.{slice_cmp}
use Rattle.tuple_core.specs.declared.atom.Atom.{Atom}

-- atoms go by signature, and then by place
abbrev pub atom_cmp : Atom → Atom → Ordering
atom_cmp a b = ordering_then (nat_cmp a.top b.top) (nat_cmp a.place b.place)

-- tuples go atom by atom
abbrev pub tuple_cmp : List Atom → List Atom → Ordering
tuple_cmp = slice_cmp atom_cmp

-- each tuple comes before all later ones
abbrev pub IsAscending : List (List Atom) → Type 0
IsAscending rows = AllPairs (λ s t. tuple_cmp s t ≡ Less) rows
