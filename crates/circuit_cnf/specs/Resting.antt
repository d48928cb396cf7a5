-- Which nodes a node of a circuit rests on.
use Rattle.std.specs.Prelude.{◌≡◌, ℕ, ◌⊎◌, List, [], ◌∷◌}
use Rattle.bool_circuit.specs.declared.shape.Shape.{Shape}
use Rattle.bool_circuit.specs.declared.shape.Shape.TheVariants.{Constant, Input, And, Or, Not}
use Rattle.bool_circuit.specs.Network.{Network, Has}

-- the shape is made of this node
abbrev pub Reads : Shape → ℕ → Type 0
Reads (Constant b) m = ⊥
Reads (Input i) m = ⊥
Reads (And a b) m = (m ≡ a) ⊎ (m ≡ b)
Reads (Or a b) m = (m ≡ a) ⊎ (m ≡ b)
Reads (Not a) m = m ≡ a

-- each node of the path reads the next one
abbrev pub IsPath : Network → ℕ → List ℕ → ℕ → Type 0
IsPath network n [] m = n ≡ m
IsPath network n (k ∷ path) m = (shape : Shape) × Has network n shape × Reads shape k × IsPath network k path m

-- the other node is this one, or one that it reads, or one that these read, and so on
abbrev pub RestsOn : Network → ℕ → ℕ → Type 0
RestsOn network n m = (path : List ℕ) × IsPath network n path m
