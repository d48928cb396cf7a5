-- What contracts see of a matrix, and which tuples it has where the inputs of its circuit are given.
use Rattle.std.specs.Prelude.{◌≡◌, ◌<◌, ◌≤◌, ◌↔◌, ◌++◌, [], ◌∷◌, ℕ, Bool, List, length, All, IsTrue}
use Rattle.tuple_core.specs.declared.atom.Atom.{Atom}
use Rattle.tuple_core.specs.Operators.{Pred, JoinsTo, IsFirstIn}
use Rattle.tuple_core.specs.Gains.{Same, Gains, SomeGives}
use Rattle.bool_circuit.specs.Network.{Network}
use Rattle.bool_circuit.specs.Value.{value_at}
use Rattle.bool_matrix.specs.declared.entry.Entry.{Entry}
use Rattle.bool_matrix.specs.Entries.{IsAscending}

-- the arity, and the tuples with their nodes, in order
pub record Cells : Type 0 where
  pub arity : ℕ
  pub entries : List Entry

-- the arity is 1 to 3, each tuple has it, and the tuples stand in order, each once
pub record IsCells (m : Cells) : Type 0 where
  pub low : 1 ≤ m.arity
  pub high : m.arity ≤ 3
  pub arities : All (λ e. length e.tuple ≡ m.arity) m.entries
  pub ascending : IsAscending m.entries

-- each node is one of the circuit
abbrev pub IsOf : Network → Cells → Type 0
IsOf network m = All (λ e. e.node < length network.shapes) m.entries

-- t is the tuple of this entry
abbrev pub AtEntry : Entry → Pred
AtEntry e t = t ≡ e.tuple

-- t is the tuple of this entry, and the node is true
abbrev pub TrueAt : Network → (ℕ → Bool) → Entry → Pred
TrueAt network inputs e t = (t ≡ e.tuple) × IsTrue (value_at network e.node inputs)

-- the tuples that are there
abbrev pub ThereIn : Cells → Pred
ThereIn m = SomeGives m.entries AtEntry

-- the tuples whose node is true
abbrev pub TrueIn : Network → Cells → (ℕ → Bool) → Pred
TrueIn network m inputs = SomeGives m.entries (TrueAt network inputs)

-- the node is there, and true just where the inputs have this fact
pub record Says (network : Network) (node : ℕ) (Fact : (ℕ → Bool) → Type 0) : Type 0 where
  pub there : node < length network.shapes
  pub value : (inputs : ℕ → Bool) → IsTrue (value_at network node inputs) ↔ Fact inputs

-- the matrix has this arity and nodes of this circuit; at all inputs its true tuples are those of True, and those that
-- are there are those of There
pub record IsMatrixOf (network : Network) (m : Cells) (arity : ℕ) (True : (ℕ → Bool) → Pred) (There : Pred) : Type 0 where
  pub arity_is : m.arity ≡ arity
  pub of : IsOf network m
  pub value : (inputs : ℕ → Bool) → Same (TrueIn network m inputs) (True inputs)
  pub there : Same (ThereIn m) There

-- the arity stays, and to the tuples that are true, and to those that are there, come these
pub record MatrixGains (old new : Network) (m n : Cells) (True : (ℕ → Bool) → Pred) (There : Pred) : Type 0 where
  pub arity : n.arity ≡ m.arity
  pub of : IsOf new n
  pub value : (inputs : ℕ → Bool) → Gains (TrueIn old m inputs) (TrueIn new n inputs) (True inputs)
  pub there : Gains (ThereIn m) (ThereIn n) There

-- t is what the two entries join to, or the first followed by the second, and both nodes are true
abbrev pub TrueJoin : Network → (ℕ → Bool) → Entry → Entry → Pred
TrueJoin network inputs l r t = JoinsTo l.tuple r.tuple t × (IsTrue (value_at network l.node inputs) × IsTrue (value_at network r.node inputs))

abbrev pub TrueProduct : Network → (ℕ → Bool) → Entry → Entry → Pred
TrueProduct network inputs l r t = (t ≡ l.tuple ++ r.tuple) × (IsTrue (value_at network l.node inputs) × IsTrue (value_at network r.node inputs))

-- each tuple of the one is in the other
abbrev pub IsWithin : Pred → Pred → Type 0
IsWithin P Q = (t : List Atom) → P t → Q t

-- the first atoms of the tuples, as tuples of their own
abbrev pub FirstsOf : Pred → Pred
FirstsOf P t = (x : Atom) × (t ≡ x ∷ []) × IsFirstIn P x
