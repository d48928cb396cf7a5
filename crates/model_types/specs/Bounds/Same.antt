-- Sets of lists.
use Rattle.std.specs.Prelude.{◌≡◌, ℕ, List, map, Bool, Vec}
use Rattle.std.specs.List.{list_any}
use Rattle.std.specs.declared.alloc.Global.{Global}
use Rattle.model_types.specs.Bounding.{Lists}

-- what vectors hold
abbrev pub lists_of : List (Vec ℕ Global) → Lists
lists_of = map (λ (v : Vec ℕ Global). v.items)

-- the same lists, in whatever order and however often: a test is true of one of these where it is true of one of those
abbrev pub AreSame : Lists → Lists → Type 0
AreSame a b = (test : List ℕ → Bool) → list_any test a ≡ list_any test b
