-- What a pass over the nodes of a circuit has made so far.
use Rattle.std.specs.Prelude.{◌≡◌, ℕ, ◌+◌, ◌*◌, ◌<◌, ◌≤◌, ◌↔◌, ◌⊎◌, Bool, true, List, [], ◌∷◌, ◌++◌, length, IsTrue, All, slice_index_or}
use Rattle.cnf_core.specs.declared.literal.Lit.{Lit}
use Rattle.cnf_core.specs.Literal.{negation_of, IsTautology, HasSameLiterals, HasVarsUpTo}
use Rattle.cnf_core.specs.Valuation.{literal_value, Satisfies}
use Rattle.bool_circuit.specs.declared.shape.Shape.{Shape}
use Rattle.bool_circuit.specs.declared.shape.Shape.TheVariants.{Constant, Input, And, Or, Not}
use Rattle.bool_circuit.specs.Network.{Network}
use Rattle.bool_circuit.specs.Value.{place, shape_value, value_at}
use Rattle.circuit_cnf.specs.Resting.{RestsOn}
use Rattle.circuit_cnf.specs.ClauseForm.{inputs_of, AreGates}

-- exactly the nodes that the output rests on are marked
pub record AreMarks (network : Network) (node : ℕ) (marks : List Bool) : Type 0 where
  pub count : length marks ≡ length network.shapes
  pub sound : (m : ℕ) → IsTrue (place marks m) → RestsOn network node m
  pub complete : (m : ℕ) → RestsOn network node m → IsTrue (place marks m)

-- the clause of these literals was put behind the others, or left out as one that is true of itself
abbrev pub IsPushed : List Lit → List (List Lit) → List (List Lit) → Type 0
IsPushed lits old new =
    (IsTautology lits × (new ≡ old)) ⊎ ((clause : List Lit) × HasSameLiterals lits clause × (new ≡ old ++ clause ∷ []))

-- the new clauses say what the old ones say, and this; there are at most so many more, over the variables of these literals
pub record Adds (most : ℕ) (lits : List Lit) (Fact : (ℕ → Bool) → Type 0) (old new : List (List Lit)) : Type 0 where
  pub means : (v : ℕ → Bool) → Satisfies v new ↔ (Satisfies v old × Fact v)
  pub few : length new ≤ length old + most
  pub within : (vars : ℕ) → All (HasVarsUpTo vars) old → HasVarsUpTo vars lits → All (HasVarsUpTo vars) new

-- one of the variables from 1 to this number
abbrev pub IsAmong : ℕ → Lit → Type 0
IsAmong vars l = (1 ≤ l.var) × (l.var ≤ vars)

-- the literal of a node
abbrev pub literal_at : List Lit → ℕ → Lit
literal_at literals m = slice_index_or literals m (record { var = 1; positive = true })

-- the value of a shape, where each node that it reads has the value of its literal
abbrev pub encoded_value : List Lit → Shape → (ℕ → Bool) → Bool
encoded_value literals shape v = shape_value (inputs_of v) (λ m. literal_value v (literal_at literals m)) shape

-- the next variable has the shape's value
pub record DefinesNext (vars : ℕ) (literals : List Lit) (shape : Shape) (old new : List (List Lit)) : Type 0 where
  pub means : (v : ℕ → Bool) → Satisfies v new ↔ (Satisfies v old × (v (vars + 1) ≡ encoded_value literals shape v))
  pub few : length new ≤ length old + 3
  pub within : All (HasVarsUpTo vars) old → All (HasVarsUpTo (vars + 1)) new

-- the literal of a shape: that of its input, the negation of what it negates, or else the next variable, which has its value
abbrev pub IsLiteral : Shape → List Lit → (old : ℕ × List (List Lit)) → (new : ℕ × List (List Lit)) → Lit → Type 0
IsLiteral (Input i) literals old new l = (new ≡ old) × (l ≡ record { var = i + 1; positive = true })
IsLiteral (Not a) literals old new l = (new ≡ old) × (l ≡ negation_of (literal_at literals a))
IsLiteral (Constant b) literals old new l = (new.0 ≡ old.0 + 1) × (l ≡ record { var = new.0; positive = true }) × DefinesNext old.0 literals (Constant b) old.1 new.1
IsLiteral (And a b) literals old new l = (new.0 ≡ old.0 + 1) × (l ≡ record { var = new.0; positive = true }) × DefinesNext old.0 literals (And a b) old.1 new.1
IsLiteral (Or a b) literals old new l = (new.0 ≡ old.0 + 1) × (l ≡ record { var = new.0; positive = true }) × DefinesNext old.0 literals (Or a b) old.1 new.1

-- the variables and clauses so far, and the literals of the first nodes; only those of marked nodes have a meaning
pub record IsEncoding (network : Network) (node : ℕ) (marks : List Bool) (vars : ℕ) (literals : List Lit) (clauses : List (List Lit)) : Type 0 where
  pub inputs : network.inputs ≤ vars
  pub few_variables : vars ≤ network.inputs + length literals
  pub few_clauses : length clauses ≤ 3 * length literals
  pub within : All (HasVarsUpTo vars) clauses
  pub literals_within : (m : ℕ) → m < length literals → IsTrue (place marks m) → IsAmong vars (literal_at literals m)
  pub gates : AreGates network node vars clauses
  pub values : (v : ℕ → Bool) → Satisfies v clauses → (m : ℕ) → m < length literals → IsTrue (place marks m) →
      literal_value v (literal_at literals m) ≡ value_at network m (inputs_of v)
