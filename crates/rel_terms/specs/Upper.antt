-- The upper value of an expression: what it may have, where each relation may have its upper set.
use Rattle.std.specs.Prelude.{◌≡◌, ℕ, ◌∷◌, [], List, slice_get, Some, Contains}
use Rattle.tuple_core.specs.declared.atom.Atom.{Atom}
use Rattle.tuple_core.specs.Operators.{Pred, may_combine, turned}
use Rattle.rel_formula.specs.Kernel.{ExpressionTree, rel, var, nothing, univ, iden, binary, unary}
use Rattle.rel_formula.specs.Bounds.{Bounded, relation_at}
use Rattle.rel_formula.specs.Meaning.{Structure}
use Rattle.rel_formula.specs.Instance.{InSome}

-- the tuple is in the relation's upper set
abbrev pub InUpperSet : Bounded → ℕ → Pred
InUpperSet p r t = Contains (relation_at p.relations r).upper.rows t

-- each relation has its upper set; the universe is what the top-level signatures may have together
abbrev pub upper_structure : Bounded → Structure
upper_structure p = record { values = InUpperSet p; universe = InSome p.tops (InUpperSet p) }

-- the tuples that the expression may have, where M says what each relation may have, and E what each variable may be
abbrev pub InUpper : Structure → (ℕ → Pred) → ExpressionTree → Pred
InUpper M E (rel r) t = M.values r t
InUpper M E (var i) t = E i t
InUpper M E nothing t = ⊥
InUpper M E univ t = M.universe t
InUpper M E iden t = (a : Atom) × M.universe (a ∷ []) × (t ≡ a ∷ a ∷ [])
InUpper M E (binary o a b) t = may_combine o (InUpper M E a) (InUpper M E b) t
InUpper M E (unary o a) t = turned o (InUpper M E a) t

-- each variable is one atom, the innermost first
abbrev pub IsAtomAt : List Atom → ℕ → Pred
IsAtomAt env i t = (a : Atom) × (slice_get env i ≡ Some a) × (t ≡ a ∷ [])
