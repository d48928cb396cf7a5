-- When what was lowered has the sort and the arity of the part that it comes from.
use Rattle.std.specs.Prelude.{◌≡◌, ◌<◌, ◌≤◌, ℕ, List, [], ◌∷◌, length, slice_index, slice_get, Some}
use Rattle.rel_formula.specs.Kernel.{ExpressionTree}
use Rattle.rel_formula.specs.Shape.{arity_of, IsWellFormed, IsProper}
use Rattle.model_types.specs.Sorts as sorts
use Rattle.model_types.specs.Sorts.{Kind}
use Rattle.model_types.specs.Typing as typing
use Rattle.model_types.specs.Typing.{Declared}
use Rattle.lowering_rules.specs.Parts.{Lowered, relation, formula, number, size}
use Rattle.lowering_rules.specs.Binders.{Local}
use Rattle.lowering_rules.specs.Lowering.{field_number}

-- a well-formed expression of this arity, where relations have the arities ns, under d binders
abbrev pub IsOfArity : List ℕ → ℕ → ℕ → ExpressionTree → Type 0
IsOfArity ns d n e = IsWellFormed ns d e × (arity_of ns e ≡ n)

-- what was lowered is of this kind, and well formed
abbrev pub IsOfKind : List ℕ → ℕ → Kind → Lowered → Type 0
IsOfKind ns d (sorts.relation n) (relation e) = IsOfArity ns d n e
IsOfKind ns d sorts.formula (formula f) = IsProper ns d f
IsOfKind ns d sorts.number (number n) = Unit {0}
IsOfKind ns d sorts.size (size e) = IsWellFormed ns d e
IsOfKind ns d k x = ⊥

-- each local name stands for an expression of its arity, made under no more than d binders
abbrev pub StandFor : List ℕ → ℕ → List typing.Local → List Local → Type 0
StandFor ns d [] [] = Unit {0}
StandFor ns d [] (l ∷ ls) = ⊥
StandFor ns d (e ∷ es) [] = ⊥
StandFor ns d (e ∷ es) (l ∷ ls) = (l.depth ≤ d) × IsOfArity ns l.depth e.arity l.expression × StandFor ns d es ls

-- the relations of signatures and fields have the arities that are declared
pub record HasRelations (ns : List ℕ) (d : Declared) (signatures : ℕ) : Type 0 where
  pub signature : (s : ℕ) → s < length d.signatures → (s < length ns) × (slice_index ns s ≡ 1)
  pub field : (f : ℕ) (x : typing.Field) → slice_get d.fields f ≡ Some x → (field_number signatures f < length ns) × (slice_index ns (field_number signatures f) ≡ x.arity)
