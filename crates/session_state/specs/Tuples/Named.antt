-- What names stand for.
use Rattle.std.specs.Prelude.{◌≡◌, ℕ, List, Contains}
use Rattle.tuple_core.specs.declared.atom.Atom.{Atom}
use Rattle.rel_formula.specs.Bounds.{Bounded, relation_at}
use Rattle.session_words.specs.declared.atom_names.AtomName.{AtomName}
use Rattle.session_rules.specs.Naming.{IsNamed, NamesTuple, NamesCell}
use Rattle.session_state.specs.declared.tuple_names.naming.Named.{Named}
use Rattle.session_state.specs.declared.tuple_names.naming.Named.TheVariants.{Nothing, Always, Cell}

-- the names are those of a tuple that the relation has for sure
abbrev pub NamesFixed : Bounded → List ℕ → List AtomName → Type 0
NamesFixed p name names = (r : ℕ) × (tuple : List Atom) × NamesTuple p name names r tuple × Contains (relation_at p.relations r).lower.rows tuple

-- the names are those of no tuple that the relation may have, of one that it has for sure, or of the cell of this number
abbrev pub IsWhatIsNamed : Bounded → List ℕ → List AtomName → Named → Type 0
IsWhatIsNamed p name names Nothing = ¬ IsNamed p name names
IsWhatIsNamed p name names Always = NamesFixed p name names
IsWhatIsNamed p name names (Cell number) = NamesCell p name names number
