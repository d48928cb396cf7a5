-- The values of a circuit's nodes at given inputs.
use Rattle.std.specs.Prelude.{◌≡◌, ℕ, ◌<◌, ◌≤◌, Bool, false, not, ◌&&◌, ◌||◌, List, [], ◌∷◌, ◌++◌, length, slice_index_or, take}
use Rattle.bool_circuit.specs.declared.shape.Shape.{Shape}
use Rattle.bool_circuit.specs.declared.shape.Shape.TheVariants.{Constant, Input, And, Or, Not}
use Rattle.bool_circuit.specs.Network.{Network}

-- a shape's value, at the values of the inputs and of the nodes
abbrev pub shape_value : (ℕ → Bool) → (ℕ → Bool) → Shape → Bool
shape_value inputs nodes (Constant b) = b
shape_value inputs nodes (Input i) = inputs i
shape_value inputs nodes (And a b) = nodes a && nodes b
shape_value inputs nodes (Or a b) = nodes a || nodes b
shape_value inputs nodes (Not a) = not (nodes a)

-- the value at a place of a list
abbrev pub place : List Bool → ℕ → Bool
place values i = slice_index_or values i false

-- the values of shapes, each at those of the nodes before it
abbrev pub values_after : (ℕ → Bool) → List Bool → List Shape → List Bool
values_after inputs known [] = known
values_after inputs known (shape ∷ shapes) =
    values_after inputs (known ++ shape_value inputs (place known) shape ∷ []) shapes

-- the value of a node
unfoldable pub value_at : Network → ℕ → (ℕ → Bool) → Bool
value_at network node inputs = place (values_after inputs [] network.shapes) node

-- the nodes of the old circuit are there, as they were, with their values
pub record Extends (old new : Network) : Type 0 where
  pub inputs : new.inputs ≡ old.inputs
  pub longer : length old.shapes ≤ length new.shapes
  pub shapes : take (length old.shapes) new.shapes ≡ old.shapes
  pub same : (node : ℕ) (inputs : ℕ → Bool) → node < length old.shapes → value_at new node inputs ≡ value_at old node inputs

-- the node is there, and its value is this function of the inputs
pub record Stands (network : Network) (node : ℕ) (function : (ℕ → Bool) → Bool) : Type 0 where
  pub there : node < length network.shapes
  pub value : (inputs : ℕ → Bool) → value_at network node inputs ≡ function inputs
