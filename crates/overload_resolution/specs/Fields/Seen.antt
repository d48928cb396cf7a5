-- What is found of each name under each top-level signature.
use Rattle.std.specs.Prelude.{◌≡◌, ◌==◌, ◌<◌, ℕ, List, length, Bool, ◌&&◌, Option, Some, None, String, bytes_eq}
use Rattle.std.specs.List.{list_any, AllByRecursion, IsDistinct}
use Rattle.std.specs.String.{string_eq}
use Rattle.std.specs.declared.alloc.Global.{Global}
use Rattle.std.specs.Map.{lookup}
use Rattle.overload_resolution.specs.declared.shared_fields.found.Found.{Found}
use Rattle.overload_resolution.specs.declared.shared_fields.found.Found.TheVariants.{Nothing}
use Rattle.overload_resolution.specs.declared.shared_fields.seen.Key.{Key}
use Rattle.overload_resolution.specs.declared.shared_fields.fields.Row.{Row}
use Rattle.overload_resolution.specs.Fields.Found.{found_by}
use Rattle.overload_resolution.specs.Fields.Entries.{name_at}

abbrev pub same_key : Key → Key → Bool
same_key a b = (a.name == b.name) && (a.top == b.top)

-- of the name of this number, and under one of these signatures
abbrev pub is_under : ℕ → List ℕ → Row → Bool
is_under name tops r = (r.key.name == name) && list_any (λ t. t == r.key.top) tops

-- what the entries have at a key
abbrev pub found_or_nothing : Option Found → Found
found_or_nothing None = Nothing
found_or_nothing (Some f) = f

abbrev pub found_in : List (Key × Found) → Key → Found
found_in entries k = found_or_nothing (lookup (same_key k) entries)

-- at each key the entries have what is found among all rows
abbrev pub AreSeen : List Row → List (Key × Found) → Type 0
AreSeen rows entries = (k : Key) → found_in entries k ≡ found_by (λ (r : Row). same_key r.key k) 0 rows

-- of these names, that of the number and no other is the text
abbrev pub IsNumberOf : List (String Global) → List ℕ → ℕ → Type 0
IsNumberOf names text n = (k : ℕ) → k < length names → bytes_eq (name_at names k) text ≡ (k == n)

-- each name stands once, and each row has the number of one
pub record HaveNames (names : List (String Global)) (rows : List Row) : Type 0 where
  pub once : IsDistinct string_eq names
  pub inside : AllByRecursion (λ (r : Row). r.key.name < length names) rows

pub record AreKept (names : List (String Global)) (rows : List Row) (entries : List (Key × Found)) : Type 0 where
  pub have_names : HaveNames names rows
  pub are_seen : AreSeen rows entries
