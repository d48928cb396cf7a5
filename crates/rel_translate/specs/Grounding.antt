-- A list of formulas; and a formula at the atoms of a quantifier's domain, whose tuples are there with a node each.
use Rattle.std.specs.Prelude.{◌⊎◌, ℕ, Bool, true, false, List, AllPairs, IsTrue}
use Rattle.tuple_core.specs.declared.atom.Atom.{Atom}
use Rattle.bool_circuit.specs.Network.{Network}
use Rattle.bool_circuit.specs.Value.{value_at}
use Rattle.bool_matrix.specs.declared.entry.Entry.{Entry}
use Rattle.rel_formula.specs.declared.connectives.Connective.{Connective}
use Rattle.rel_formula.specs.declared.connectives.Connective.TheVariants as connective
use Rattle.rel_formula.specs.declared.connectives.Quantifier.{Quantifier}
use Rattle.rel_formula.specs.declared.connectives.Quantifier.TheVariants as quantifier
use Rattle.rel_formula.specs.Bounds.{Bounded}
use Rattle.rel_formula.specs.Kernel.{FormulaTree}
use Rattle.rel_formula.specs.Evaluation.{IsTrueAt, HoldsOf}
use Rattle.rel_translate.specs.Tables.{structure_at}

-- both facts, or one of them
abbrev pub Connects : Connective → Type 0 → Type 0 → Type 0
Connects connective.And A B = A × B
Connects connective.Or A B = A ⊎ B

-- a fact that counts only where another holds: it follows from that, or comes with it
abbrev pub Guarded : Connective → Type 0 → Type 0 → Type 0
Guarded connective.And G B = G → B
Guarded connective.Or G B = G × B

-- what a junction of no formula is
abbrev pub holds_of_none : Connective → Bool
holds_of_none connective.And = true
holds_of_none connective.Or = false

-- the formula at the tuple's atom, where the node is true
abbrev pub IsGuarded : Connective → Network → (ℕ → Bool) → Bounded → List Atom → FormulaTree → Entry → Type 0
IsGuarded c network s p env f e = Guarded c (IsTrue (value_at network e.node s)) (IsTrueAt (structure_at p s) env f e.tuple)

-- the node is true, and so is the formula at the tuple's atom
abbrev pub IsMet : Network → (ℕ → Bool) → Bounded → List Atom → FormulaTree → Entry → Type 0
IsMet = IsGuarded connective.Or

-- not so at both
abbrev pub AreNotBothMet : Network → (ℕ → Bool) → Bounded → List Atom → FormulaTree → Entry → Entry → Type 0
AreNotBothMet network s p env f d e = IsMet network s p env f d → IsMet network s p env f e → ⊥

-- the formula is true at the atoms of so many of the tuples whose nodes are true
abbrev pub IsGrounded : Quantifier → Network → (ℕ → Bool) → Bounded → List Atom → FormulaTree → List Entry → Type 0
IsGrounded quantifier.All network s p env f es = HoldsOf connective.And (IsGuarded connective.And network s p env f) es
IsGrounded quantifier.Exists network s p env f es = HoldsOf connective.Or (IsGuarded connective.Or network s p env f) es
IsGrounded quantifier.Lone network s p env f es = AllPairs (AreNotBothMet network s p env f) es
