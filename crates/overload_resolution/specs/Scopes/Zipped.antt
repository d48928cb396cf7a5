-- Arities beside types.
use Rattle.std.specs.Prelude.{ℕ, List, [], ◌∷◌, ◌++◌, ◌≡◌}
use Rattle.model_types.specs.Bounding.{Lists}
use Rattle.model_types.specs.Typing.{Local}

-- each arity with its type
abbrev pub locals_of : List ℕ → List Lists → List Local
locals_of (n ∷ ns) (t ∷ ts) = record { arity = n; type = t } ∷ locals_of ns ts
locals_of ns ts = []

-- these stand inside those
abbrev pub IsInside : List Local → List Local → Type 0
IsInside inner outer = (more : List Local) × (inner ≡ more ++ outer)
