-- A value lies in the upper value.
use Rattle.std.proofs.Common.{ℕ, List, ◌∷◌, [], inl, inr, Contains, subst, length, arith}
use Rattle.std.proofs.lemmas.Bool.{cases_lt}
use Rattle.std.proofs.lemmas.List.{get_or_past}
use Rattle.std.proofs.lemmas.List.Elements.{All-contains}
use Rattle.tuple_core.specs.declared.atom.Atom.{Atom}
use Rattle.tuple_core.specs.Operators.{Pred, Walk}
use Rattle.rel_formula.specs.declared.problem.Relation.{Relation}
use Rattle.tuple_core.specs.declared.operator.Operator.TheVariants as operator
use Rattle.tuple_core.specs.declared.operator.UnaryOperator.TheVariants as unary_operator
use Rattle.rel_formula.specs.Kernel.{ExpressionTree, rel, var, nothing, univ, iden, binary, unary}
use Rattle.rel_formula.specs.Bounds.{Bounded, IsProblem, relation_at}
use Rattle.rel_formula.specs.Meaning.{Structure, InValue}
use Rattle.rel_formula.specs.Instance.{InRelation, structure_of}
use Rattle.rel_formula.proofs.OpenCells.{cell_open}
use Rattle.rel_formula.proofs.Tabled.{no_relation}
use Rattle.rel_terms.specs.Upper.{InUpper, InUpperSet, IsAtomAt, upper_structure}

walk_within : (P Q : Pred) → ((t : List Atom) → P t → Q t) → (x : Atom) (ms : List Atom) (y : Atom) → Walk P x ms y → Walk Q x ms y
walk_within P Q to x [] y w = to (x ∷ y ∷ []) w
walk_within P Q to x (m ∷ ms) y w = (to (x ∷ m ∷ []) w.0, walk_within P Q to m ms y w.1)

module _ (M N : Structure) (values : (r : ℕ) (t : List Atom) → M.values r t → N.values r t) (universe : (t : List Atom) → M.universe t → N.universe t) (env : List Atom) where
  pub in_upper : (e : ExpressionTree) (t : List Atom) → InValue M env e t → InUpper N (IsAtomAt env) e t
  in_upper (rel n) t v = values n t v
  in_upper (var i) t v = v
  in_upper nothing t v = absurd v
  in_upper univ t v = universe t v
  in_upper iden t v = (v.0, universe (v.0 ∷ []) v.1, v.2)
  in_upper (binary operator.Union x y) t v = elim v [ inl l ↦ inl (in_upper x t l) | inr r ↦ inr (in_upper y t r) ]
  in_upper (binary operator.Minus x y) t v = in_upper x t v.0
  in_upper (binary operator.Meet x y) t v = (in_upper x t v.0, in_upper y t v.1)
  in_upper (binary operator.Product x y) t v = (v.0, v.1, in_upper x v.0 v.2, in_upper y v.1 v.3, v.4)
  in_upper (binary operator.Join x y) t v = (v.0, v.1, in_upper x v.0 v.2, in_upper y v.1 v.3, v.4)
  in_upper (unary unary_operator.Transpose x) t v = (v.0, v.1, in_upper x (v.0 ∷ v.1 ∷ []) v.2, v.3)
  in_upper (unary unary_operator.Closure x) t v = (v.0, v.1, v.2, v.3, walk_within (InValue M env x) (InUpper N (IsAtomAt env) x) (in_upper x) v.0 v.1 v.2 v.4)
  in_upper (binary operator.Override x y) t v = elim v [ inl r ↦ inr (in_upper y t r) | inr l ↦ inl (in_upper x t l.0) ]
  in_upper (binary operator.Dom s x) t v = (in_upper x t v.0, (v.1.0, v.1.1, in_upper s (v.1.0 ∷ []) v.1.2))
  in_upper (binary operator.Ran x s) t v = (in_upper x t v.0, (v.1.0, v.1.1, in_upper s (v.1.0 ∷ []) v.1.2))

-- a relation's value lies in its upper set
value_in : (p : Bounded) (Chosen : ℕ → Type 0) → IsProblem p → (r : ℕ) (t : List Atom) → InRelation p Chosen r t → InUpperSet p r t
value_in p Chosen well r t v = elim v [
  | inl low ↦ elim (cases_lt r (length p.relations)) [
    | inl there ↦ All-contains (Contains (relation_at p.relations r).upper.rows) (relation_at p.relations r).lower.rows t (well.relations r no_relation there).within low
    | inr past ↦ absurd (let l = (subst (λ (x : Relation). Contains x.lower.rows t) (get_or_past p.relations r no_relation past) low).1 in omega arith)
  ]
  | inr cell ↦ (cell_open p cell.0 r t cell.2).1
]

pub lies_in : (p : Bounded) (Chosen : ℕ → Type 0) → IsProblem p → (env : List Atom) (e : ExpressionTree) (t : List Atom) → InValue (structure_of p Chosen) env e t → InUpper (upper_structure p) (IsAtomAt env) e t
lies_in p Chosen well env = in_upper (structure_of p Chosen) (upper_structure p) (value_in p Chosen well) (λ t h. (h.0, h.1, value_in p Chosen well h.0 t h.2)) env
