-- How a relation and a tuple are written.
use Rattle.std.specs.Prelude.{ℕ, ◌==◌, List, [], ◌∷◌, Bool, false, ◌&&◌, ◌||◌, if◌then◌else◌, Option, Some, None, option_map}
use Rattle.std.specs.List.{slice_split, list_all}
use Rattle.session_words.specs.declared.atom_names.AtomName.{AtomName}
use Rattle.script_format.specs.Words.{is_letter, is_name_byte, number_in}

abbrev pub is_language_byte : ℕ → Bool
is_language_byte b = is_name_byte b || b == 39

-- a name of the language: a letter, and then letters, digits, `_` and `'`
abbrev pub is_language_name : List ℕ → Bool
is_language_name [] = false
is_language_name (first ∷ others) = is_letter first && list_all is_language_byte others

abbrev pub are_two_names : List (List ℕ) → Bool
are_two_names [] = false
are_two_names (first ∷ []) = false
are_two_names (first ∷ second ∷ []) = is_language_name first && is_language_name second
are_two_names (first ∷ second ∷ third ∷ others) = false

-- the name of a top-level signature: a name, or a path, which is two names with `/` between them
abbrev pub is_sort_name : List ℕ → Bool
is_sort_name word = is_language_name word || are_two_names (slice_split (λ b. b == 47) word)

-- the name of a relation: a name, a path, or two names with a dot between them
abbrev pub is_relation_name : List ℕ → Bool
is_relation_name word = is_sort_name word || are_two_names (slice_split (λ b. b == 46) word)

abbrev pub atom_of : List (List ℕ) → Option AtomName
atom_of [] = None
atom_of (top ∷ []) = None
atom_of (top ∷ place ∷ []) = if is_sort_name top then option_map (λ n. record { top = top; place = n }) (number_in place) else None
atom_of (top ∷ place ∷ third ∷ others) = None

-- an atom: the name of its top-level signature, `$`, and its place
abbrev pub atom_in : List ℕ → Option AtomName
atom_in word = atom_of (slice_split (λ b. b == 36) word)

-- an atom behind the `>` of an arrow
abbrev pub atom_behind : List ℕ → Option AtomName
atom_behind [] = None
atom_behind (mark ∷ word) = if mark == 62 then atom_in word else None

-- the first atom before the others, where there are both
abbrev pub joined : Option AtomName → Option (List AtomName) → Option (List AtomName)
joined None others = None
joined (Some atom) others = option_map (λ atoms. atom ∷ atoms) others

-- the atoms behind arrows
abbrev pub atoms_behind : List (List ℕ) → Option (List AtomName)
atoms_behind [] = Some []
atoms_behind (part ∷ parts) = joined (atom_behind part) (atoms_behind parts)

abbrev pub tuple_of : List (List ℕ) → Option (List AtomName)
tuple_of [] = None
tuple_of (first ∷ others) = joined (atom_in first) (atoms_behind others)

-- a tuple: atoms with `->` between them
abbrev pub tuple_in : List ℕ → Option (List AtomName)
tuple_in word = tuple_of (slice_split (λ b. b == 45) word)
