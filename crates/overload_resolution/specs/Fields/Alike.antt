-- Sets of signatures.
use Rattle.std.specs.Prelude.{◌≡◌, ◌==◌, ℕ, List, [], length, if◌then◌else◌, Bool}
use Rattle.std.specs.List.{list_any}

-- the same numbers, in whatever order and however often: a test is true of one of these where it is true of one of those
abbrev pub AreAlike : List ℕ → List ℕ → Type 0
AreAlike a b = (test : ℕ → Bool) → list_any test a ≡ list_any test b

-- what a list of one has
abbrev pub single : List ℕ → List ℕ
single l = if length l == 1 then l else []
