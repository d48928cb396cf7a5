-- What a gate of two operands is folded to.
use Rattle.std.specs.Prelude.{◌≡◌, ℕ, Bool, true, false, ◌&&◌, ◌||◌}
use Rattle.bool_circuit.specs.Network.{Network}
use Rattle.bool_circuit.specs.Value.{value_at, Stands}
use Rattle.bool_circuit.specs.Folding.{Folds}
use Rattle.bool_circuit.specs.declared.fold.Fold.{Fold}
use Rattle.bool_circuit.specs.declared.fold.Fold.TheVariants.{Node, Constant, Open}

-- the gate whose neutral constant this is: true for a conjunction, false for a disjunction
abbrev pub joined : Bool → Bool → Bool → Bool
joined true x y = x && y
joined false x y = x || y

-- the value of that gate
abbrev pub joined_at : Bool → Network → ℕ → ℕ → (ℕ → Bool) → Bool
joined_at neutral network a b inputs = joined neutral (value_at network a inputs) (value_at network b inputs)

-- the gate is folded, and has this node's or this constant's value; or it isn't folded
abbrev pub IsFold : Bool → Network → ℕ → ℕ → Fold → Type 0
IsFold neutral network a b (Node node) = Folds network a b × Stands network node (joined_at neutral network a b)
IsFold neutral network a b (Constant value) = Folds network a b × ((inputs : ℕ → Bool) → value ≡ joined_at neutral network a b inputs)
IsFold neutral network a b Open = Folds network a b → ⊥
