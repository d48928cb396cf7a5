-- Which nodes a call makes, and where it makes none.
use Rattle.std.specs.Prelude.{◌≡◌, ℕ, Bool, ◌⊎◌, Contains}
use Rattle.bool_circuit.specs.declared.shape.Shape.{Shape}
use Rattle.bool_circuit.specs.declared.shape.Shape.TheVariants.{Constant, Not}
use Rattle.bool_circuit.specs.Network.{Network, Has, with_shape}

-- the node is a constant
abbrev pub IsConstant : Network → ℕ → Type 0
IsConstant network node = (b : Bool) × Has network node (Constant b)

-- one node is made as the negation of the other
abbrev pub AreOpposite : Network → ℕ → ℕ → Type 0
AreOpposite network a b = Has network a (Not b) ⊎ Has network b (Not a)

-- a gate of these operands is folded: one of them is a constant, they are equal, or one negates the other
abbrev pub Folds : Network → ℕ → ℕ → Type 0
Folds network a b = IsConstant network a ⊎ (IsConstant network b ⊎ ((a ≡ b) ⊎ AreOpposite network a b))

-- the node has this shape, and was made in the call, behind all others, only where no node had it
abbrev pub Makes : Shape → Network → Network → ℕ → Type 0
Makes shape old new node = Has new node shape
    × ((new ≡ old) ⊎ ((new ≡ with_shape old shape) × (Contains old.shapes shape → ⊥)))
