-- Fields, as far as shared names ask.
use Rattle.std.specs.Prelude.{◌≡◌, ◌++◌, ℕ, ◌==◌, ◌&&◌, Bool, List, [], map, slice_index_or, Option, Some, None, String, string_bytes, bytes_eq}
use Rattle.std.specs.List.{list_any}
use Rattle.std.specs.declared.alloc.Global.{Global}
use Rattle.model_types.specs.Typing.{Field}
use Rattle.overload_resolution.specs.declared.shared_fields.fields.Row.{Row}

-- a field's name, the top-level signature that it belongs to, and its arity
pub record Entry : Type 0 where
  pub name : List ℕ
  pub top : ℕ
  pub arity : ℕ

-- all but a field's type
abbrev pub entry_of : Field → Entry
entry_of f = record { name = f.name; top = f.top; arity = f.arity }

-- the name of a number
abbrev pub name_at : List (String Global) → ℕ → List ℕ
name_at names n = slice_index_or (map string_bytes names) n []

abbrev pub entry_view : List (String Global) → Row → Entry
entry_view names r = record { name = name_at names r.key.name; top = r.key.top; arity = r.arity }

abbrev pub entry_name : Option Entry → List ℕ
entry_name None = []
entry_name (Some e) = e.name

-- an entry with the name that belongs to one of these signatures
abbrev pub entry_fits : List ℕ → List ℕ → Entry → Bool
entry_fits tops name e = bytes_eq e.name name && list_any (λ t. t == e.top) tops

-- these names, and behind them others
abbrev pub AreBefore : List (String Global) → List (String Global) → Type 0
AreBefore old new = (more : List (String Global)) × (new ≡ old ++ more)
