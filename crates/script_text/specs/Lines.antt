-- How atoms, tuples and relations are written.
use Rattle.std.specs.Prelude.{ℕ, List, [], ◌∷◌, ◌++◌, map, codes, decimal}
use Rattle.std.specs.List.{flat_map}
use Rattle.tuple_core.specs.declared.atom.Atom.{Atom}
use Rattle.tuple_core.specs.Rows.{Rows}
use Rattle.rel_formula.specs.declared.problem.Relation.{Relation}
use Rattle.rel_formula.specs.Bounds.{Bounded, signature_name}

-- the pieces, with the separator between them
abbrev pub separated : List ℕ → List (List ℕ) → List ℕ
separated between [] = []
separated between (first ∷ others) = first ++ flat_map (λ piece. between ++ piece) others

-- the name of its top-level signature, `$` and its place
abbrev pub atom_text : Bounded → Atom → List ℕ
atom_text p a = signature_name p a ++ codes "$" ++ decimal a.place

-- the atoms with `->` between them
abbrev pub tuple_text : Bounded → List Atom → List ℕ
tuple_text p t = separated (codes "->") (map (atom_text p) t)

-- the name of the relation, and its tuples in braces with `, ` between them
abbrev pub relation_line : Bounded → List ℕ → List (List Atom) → List ℕ
relation_line p name rows = name ++ codes " = {" ++ separated (codes ", ") (map (tuple_text p) rows) ++ codes "}\n"

-- a line for each relation, whose tuples stand in the list of the same place
abbrev pub relation_lines : Bounded → List Relation → List Rows → List ℕ
relation_lines p [] tables = []
relation_lines p (relation ∷ others) [] = []
relation_lines p (relation ∷ others) (table ∷ tables) = relation_line p relation.name table.rows ++ relation_lines p others tables
