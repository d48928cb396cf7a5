-- Texts by the numbers of the places where they are met first, and signatures with their parents by such numbers.
use Rattle.std.specs.Prelude.{◌≡◌, ⊤, ◌++◌, ℕ, List, [], ◌∷◌, Option, Some, None}
use Rattle.alloy_syntax.specs.declared.tree.Name.{Name}
use Rattle.named_model.specs.Names.{number_of}
use Rattle.named_model.specs.Faults.{Child}
use Rattle.name_tables.specs.declared.repeated_names.links.Link.{Link}

-- more texts are met behind these
abbrev pub Grows : List (List ℕ) → List (List ℕ) → Type 0
Grows old new = (more : List (List ℕ)) × (new ≡ old ++ more)

-- the number is that of the text, or both are missing
abbrev pub IsNumbered : List (List ℕ) → Option ℕ → Option (List ℕ) → Type 0
IsNumbered words (Some n) (Some t) = number_of words t ≡ Some n
IsNumbered words (Some n) None = ⊥
IsNumbered words None (Some t) = ⊥
IsNumbered words None None = ⊤

pub record IsLink (words : List (List ℕ)) (l : Link) (c : Child) : Type 0 where
  pub name_is : number_of words c.name.text ≡ Some l.name
  pub parent_is : IsNumbered words l.parent c.parent

-- the signatures, one by one
abbrev pub AreLinks : List (List ℕ) → List Link → List Child → Type 0
AreLinks words [] [] = ⊤
AreLinks words [] (c ∷ cs) = ⊥
AreLinks words (l ∷ ls) [] = ⊥
AreLinks words (l ∷ ls) (c ∷ cs) = IsLink words l c × AreLinks words ls cs

-- a signature under that parent
abbrev pub child_of : Option (List ℕ) → Name → Child
child_of parent n = record { name = n; parent = parent }
