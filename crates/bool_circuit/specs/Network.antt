-- What contracts see of a circuit: a list of shapes, each over inputs and over nodes before it.
use Rattle.std.specs.Prelude.{◌≡◌, ℕ, ◌+◌, ◌<◌, Bool, true, false, not, if◌then◌else◌, List, [], ◌∷◌, ◌++◌, length, slice_get, Some}
use Rattle.std.specs.List.{list_any}
use Rattle.bool_circuit.specs.declared.shape.Shape.{Shape}
use Rattle.bool_circuit.specs.declared.shape.Shape.TheVariants.{Constant, Input, And, Or, Not}

-- how many inputs there are, and the shape of each node; a node is its place in this list
pub record Network : Type 0 where
  pub inputs : ℕ
  pub shapes : List Shape

-- the network with one more node, behind all others
abbrev pub with_shape : Network → Shape → Network
with_shape network shape = record network { shapes = network.shapes ++ shape ∷ [] }

-- the node has this shape
abbrev pub Has : Network → ℕ → Shape → Type 0
Has network node shape = slice_get network.shapes node ≡ Some shape

-- the shape reads inputs below the first number, and nodes below the second
abbrev pub ReadsBelow : ℕ → ℕ → Shape → Type 0
ReadsBelow inputs nodes (Constant b) = Unit {0}
ReadsBelow inputs nodes (Input i) = i < inputs
ReadsBelow inputs nodes (And a b) = (a < nodes) × (b < nodes)
ReadsBelow inputs nodes (Or a b) = (a < nodes) × (b < nodes)
ReadsBelow inputs nodes (Not a) = a < nodes

-- each node reads inputs that there are, and nodes before it
abbrev pub IsInOrder : Network → Type 0
IsInOrder network = (node : ℕ) (shape : Shape) → Has network node shape → ReadsBelow network.inputs node shape

-- the shape is this constant
abbrev pub is_constant : Bool → Shape → Bool
is_constant b (Constant v) = if b then v else not v
is_constant b (Input i) = false
is_constant b (And m n) = false
is_constant b (Or m n) = false
is_constant b (Not m) = false

-- 1 where this constant is no node yet
abbrev pub missing : Bool → List Shape → ℕ
missing b shapes = if list_any (is_constant b) shapes then 0 else 1

-- how many nodes there are once both constants are nodes. A constant that is added leaves this number as it is,
-- and it is never below the number of nodes
abbrev pub size : Network → ℕ
size network = length network.shapes + missing true network.shapes + missing false network.shapes
