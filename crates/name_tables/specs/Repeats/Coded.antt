-- What is declared, by numbers.
use Rattle.std.specs.Prelude.{◌≡◌, ⊤, ◌==◌, ◌++◌, ℕ, List, [], ◌∷◌, map, Bool, true, false, ◌&&◌, Option, Some, None, if◌then◌else◌}
use Rattle.std.specs.List.{list_any}
use Rattle.alloy_syntax.specs.declared.tree.Name.{Name}
use Rattle.named_model.specs.declared.fault.NameFault.{NameFault}
use Rattle.named_model.specs.declared.fault.NameFault.TheVariants.{Twice}
use Rattle.named_model.specs.Names.{number_of}
use Rattle.named_model.specs.Faults as faults
use Rattle.named_model.specs.Faults.{Child, Stated, global, field_under, assertions, parameters, top_of}
use Rattle.name_tables.specs.declared.repeated_names.links.Link.{Link}
use Rattle.name_tables.specs.declared.repeated_names.stated.Space.{Space}
use Rattle.name_tables.specs.declared.repeated_names.stated.Space.TheVariants.{Global, Under, Loose, Assertions, Parameters}
use Rattle.name_tables.specs.declared.repeated_names.stated.Coded.{Coded}
use Rattle.name_tables.specs.declared.repeated_names.stated.Reading.{Reading}
use Rattle.name_tables.specs.Repeats.Numbered.{AreLinks}
use Rattle.name_tables.specs.Repeats.Climbing.{AreParents}

abbrev pub space_under : Option ℕ → Space
space_under (Some n) = Under n
space_under None = Loose

-- where the fields of a signature are declared
abbrev pub space_of : List Child → Name → faults.Space
space_of cs owner = field_under (top_of cs owner.text)

-- the fields of one name
abbrev pub fields_under : List faults.Space → Name → List Stated
fields_under spaces n = map (λ (s : faults.Space). record { space = s; name = n }) spaces

-- the same place, where the texts of top-level signatures have these numbers
abbrev pub IsSpace : List (List ℕ) → Space → faults.Space → Type 0
IsSpace words Global global = ⊤
IsSpace words (Under n) (field_under (Some t)) = number_of words t ≡ Some n
IsSpace words Loose (field_under None) = ⊤
IsSpace words Assertions assertions = ⊤
IsSpace words (Parameters k) (parameters l) = k ≡ l
IsSpace words other space = ⊥

abbrev pub AreSpaces : List (List ℕ) → List Space → List faults.Space → Type 0
AreSpaces words [] [] = ⊤
AreSpaces words (s ∷ ss) (t ∷ ts) = IsSpace words s t × AreSpaces words ss ts
AreSpaces words others spaces = ⊥

pub record IsCoded (words : List (List ℕ)) (c : Coded) (x : Stated) : Type 0 where
  pub space_is : IsSpace words c.space x.space
  pub word_is : number_of words x.name.text ≡ Some c.word
  pub place_is : c.place ≡ x.name.place

abbrev pub AreCoded : List (List ℕ) → List Coded → List Stated → Type 0
AreCoded words [] [] = ⊤
AreCoded words (c ∷ cs) (x ∷ xs) = IsCoded words c x × AreCoded words cs xs
AreCoded words others stated = ⊥

-- what is read, where these are all signatures and these names were declared so far
pub record IsReading (cs : List Child) (r : Reading) (before : List Stated) : Type 0 where
  pub links : List Link
  pub links_are : AreLinks r.words links cs
  pub parents_are : AreParents links r.parents
  pub coded_are : AreCoded r.words r.coded.items before

-- ---- names that are declared for the second time

-- whether one name may not be declared in both places
abbrev pub exclude : Space → Space → Bool
exclude Global Global = true
exclude Global (Under b) = true
exclude Global Loose = true
exclude (Under a) Global = true
exclude (Under a) (Under b) = a == b
exclude (Under a) Loose = true
exclude Loose Global = true
exclude Loose (Under b) = true
exclude Loose Loose = true
exclude Assertions Assertions = true
exclude (Parameters k) (Parameters l) = k == l
exclude a b = false

abbrev pub repeats_one : Coded → Coded → Bool
repeats_one new old = exclude old.space new.space && (old.word == new.word)

abbrev pub repeats : List Coded → List Coded → List NameFault
repeats before [] = []
repeats before (x ∷ xs) = (if list_any (repeats_one x) before then Twice x.place ∷ [] else []) ++ repeats (before ++ x ∷ []) xs
