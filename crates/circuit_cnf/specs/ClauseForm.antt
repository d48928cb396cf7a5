-- What the clause form of a circuit is: clauses that tie each gate to what it reads, and one that asks for the output.
use Rattle.std.specs.Prelude.{◌≡◌, ℕ, ◌+◌, ◌*◌, ◌<◌, ◌≤◌, ◌↔◌, Bool, List, [], ◌∷◌, ◌++◌, length, IsTrue}
use Rattle.cnf_core.specs.declared.literal.Lit.{Lit}
use Rattle.cnf_core.specs.Formula.{Formula}
use Rattle.cnf_core.specs.Valuation.{clause_value, Satisfies}
use Rattle.bool_circuit.specs.Network.{Network}
use Rattle.bool_circuit.specs.Value.{value_at}
use Rattle.circuit_cnf.specs.Resting.{RestsOn}

-- the value that a valuation gives an input: input i is variable i + 1
abbrev pub inputs_of : (ℕ → Bool) → ℕ → Bool
inputs_of v i = v (i + 1)

-- the valuation gives each input this value
abbrev pub HasInputs : Network → (ℕ → Bool) → (ℕ → Bool) → Type 0
HasInputs network inputs v = (i : ℕ) → i < network.inputs → v (i + 1) ≡ inputs i

-- the clauses over the variables from 1 to `vars` say of each gate what it is
pub record AreGates (network : Network) (node vars : ℕ) (gates : List (List Lit)) : Type 0 where
  -- whatever the inputs are, some valuation satisfies the clauses
  pub extension : (inputs : ℕ → Bool) → (v : ℕ → Bool) × HasInputs network inputs v × Satisfies v gates
  -- and no two of them differ
  pub only : (v w : ℕ → Bool) → HasInputs network (inputs_of w) v → Satisfies v gates → Satisfies w gates →
      (var : ℕ) → 1 ≤ var → var ≤ vars → v var ≡ w var
  -- behind the inputs, each variable has the value of a node that the output rests on
  pub variables : (var : ℕ) → network.inputs < var → var ≤ vars →
      (m : ℕ) × RestsOn network node m × ((v : ℕ → Bool) → Satisfies v gates → v var ≡ value_at network m (inputs_of v))

-- the clause form of a circuit with this node as the output
pub record IsClauseForm (network : Network) (node : ℕ) (f : Formula) : Type 0 where
  pub gates : List (List Lit)
  pub output : List Lit
  pub clauses : f.clauses ≡ gates ++ output ∷ []
  pub are_gates : AreGates network node f.vars gates
  -- with the gates' clauses, the last one is true exactly where the node is
  pub is_output : (v : ℕ → Bool) → Satisfies v gates →
      IsTrue (clause_value v output) ↔ IsTrue (value_at network node (inputs_of v))

-- at most a variable for each input and each node, at most three clauses for each node, and one more
pub record IsSmall (network : Network) (f : Formula) : Type 0 where
  pub inputs : network.inputs ≤ f.vars
  pub variables : f.vars ≤ network.inputs + length network.shapes
  pub clauses : length f.clauses ≤ 3 * length network.shapes + 1
