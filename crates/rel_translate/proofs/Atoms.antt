-- Upper values are made of the problem's atoms.
use Rattle.std.proofs.Common.{ℕ, inl, inr, List, [], ◌∷◌, Contains, All, length, refl, subst, sym, arith}
use Rattle.std.proofs.lemmas.Bool.{cases_lt}
use Rattle.std.proofs.lemmas.List.{get_or_past}
use Rattle.std.proofs.lemmas.List.Elements.{All-contains, Contains-get_or, Contains-append_cases, Contains-append_left, Contains-append_right}
use Rattle.tuple_core.specs.declared.atom.Atom.{Atom}
use Rattle.tuple_core.specs.declared.operator.Operator.TheVariants as operator
use Rattle.tuple_core.specs.declared.operator.UnaryOperator.TheVariants as unary_operator
use Rattle.tuple_core.specs.Operators.{Pred, Walk}
use Rattle.tuple_core.specs.Gains.{Same}
use Rattle.bool_matrix.specs.Cells.{Cells, ThereIn}
use Rattle.bool_matrix.specs.Closure.{HasFewAtoms as BeginsWithFew}
use Rattle.rel_formula.specs.declared.problem.Relation.{Relation}
use Rattle.rel_formula.specs.Bounds.{Bounded, IsAtomOf, HasFewAtoms, relation_at}
use Rattle.rel_formula.specs.Kernel.{ExpressionTree, rel, var, nothing, univ, iden, binary, unary}
use Rattle.rel_formula.proofs.Lists.{some-Contains}
use Rattle.rel_formula.proofs.OpenCells.{cons_cases}
use Rattle.rel_formula.proofs.Tabled.{no_relation}
use Rattle.rel_terms.specs.Upper.{InUpperSet, upper_structure}
use Rattle.rel_terms.specs.Terms.{InUpperAt}

-- each atom of the tuples is one of the problem's
abbrev pub AreOfAtoms : Bounded → Pred → Type 0
AreOfAtoms p P = (t : List Atom) (a : Atom) → P t → Contains t a → IsAtomOf p a

module _ (p : Bounded) where
  in_upper_set : (r : ℕ) → AreOfAtoms p (InUpperSet p r)
  in_upper_set r t a c at = elim (cases_lt r (length p.relations)) [
    | inl there ↦ (relation_at p.relations r, Contains-get_or p.relations r no_relation there, (t, c, at))
    | inr past ↦ absurd (let l = (subst (λ (x : Relation). Contains x.upper.rows t) (get_or_past p.relations r no_relation past) c).1 in omega arith)
  ]

  one : (a b : Atom) → Contains (a ∷ []) b → IsAtomOf p a → IsAtomOf p b
  one a b c is = elim (cons_cases a [] b c) [ inl e ↦ subst (IsAtomOf p) e is | inr none ↦ absurd (let l = none.1 in omega arith) ]

  two : (x y a : Atom) → Contains (x ∷ y ∷ []) a → IsAtomOf p x → IsAtomOf p y → IsAtomOf p a
  two x y a c f g = elim (cons_cases x (y ∷ []) a c) [ inl e ↦ subst (IsAtomOf p) e f | inr rest ↦ one y a rest g ]

  first_of : (x : Atom) (rest : List Atom) → Contains (x ∷ rest) x
  first_of x rest = Contains-append_left (x ∷ []) rest x (0, omega arith, refl)

  walk_ends : (P : Pred) → AreOfAtoms p P → (x : Atom) (ms : List Atom) (y : Atom) → Walk P x ms y → IsAtomOf p x × IsAtomOf p y
  walk_ends P of x [] y w = (of (x ∷ y ∷ []) x w (first_of x (y ∷ [])), of (x ∷ y ∷ []) y w (Contains-append_right (x ∷ []) (y ∷ []) y (first_of y [])))
  walk_ends P of x (m ∷ ms) y w = (of (x ∷ m ∷ []) x w.0 (first_of x (m ∷ [])), (walk_ends P of m ms y w.1).1)

  module _ (env : List Atom) (vars : All (IsAtomOf p) env) where
    pub upper_atoms : (e : ExpressionTree) → AreOfAtoms p (InUpperAt (upper_structure p) env e)
    upper_atoms (rel r) t a u c = in_upper_set r t a u c
    upper_atoms (var i) t a u c = one u.0 a (subst (λ v. Contains v a) u.2 c) (All-contains (IsAtomOf p) env u.0 vars (some-Contains env i u.0 u.1))
    upper_atoms nothing t a u c = absurd u
    upper_atoms univ t a u c = in_upper_set u.0 t a u.2 c
    upper_atoms iden t a u c =
        let is = in_upper_set u.1.0 (u.0 ∷ []) u.0 u.1.2 (first_of u.0 []) in
        two u.0 u.0 a (subst (λ v. Contains v a) u.2 c) is is
    upper_atoms (binary operator.Union x y) t a u c = elim u [ inl l ↦ upper_atoms x t a l c | inr r ↦ upper_atoms y t a r c ]
    upper_atoms (binary operator.Minus x y) t a u c = upper_atoms x t a u c
    upper_atoms (binary operator.Meet x y) t a u c = upper_atoms x t a u.0 c
    upper_atoms (binary operator.Product x y) t a u c = elim (Contains-append_cases u.0 u.1 a (subst (λ v. Contains v a) u.4 c)) [
      | inl l ↦ upper_atoms x u.0 a u.2 l
      | inr r ↦ upper_atoms y u.1 a u.3 r
    ]
    upper_atoms (binary operator.Join x y) t a u c =
        let j = u.4 in
        elim (Contains-append_cases j.0 j.2 a (subst (λ v. Contains v a) j.5 c)) [
          | inl l ↦ upper_atoms x u.0 a u.2 (subst (λ v. Contains v a) (sym j.3) (Contains-append_left j.0 (j.1 ∷ []) a l))
          | inr r ↦ upper_atoms y u.1 a u.3 (subst (λ v. Contains v a) (sym j.4) (Contains-append_right (j.1 ∷ []) j.2 a r))
        ]
    upper_atoms (unary unary_operator.Transpose x) t a u c =
        let f = upper_atoms x (u.0 ∷ u.1 ∷ []) u.0 u.2 (first_of u.0 (u.1 ∷ [])) in
        let g = upper_atoms x (u.0 ∷ u.1 ∷ []) u.1 u.2 (Contains-append_right (u.0 ∷ []) (u.1 ∷ []) u.1 (first_of u.1 [])) in
        two u.1 u.0 a (subst (λ v. Contains v a) u.3 c) g f
    upper_atoms (unary unary_operator.Closure x) t a u c =
        let ends = walk_ends (InUpperAt (upper_structure p) env x) (upper_atoms x) u.0 u.1 u.2 u.4 in
        two u.0 u.2 a (subst (λ v. Contains v a) u.3 c) ends.0 ends.1
    upper_atoms (binary operator.Override x y) t a u c = elim u [ inl l ↦ upper_atoms x t a l c | inr r ↦ upper_atoms y t a r c ]
    upper_atoms (binary operator.Dom s x) t a u c = upper_atoms x t a u.0 c
    upper_atoms (binary operator.Ran x s) t a u c = upper_atoms x t a u.0 c

    -- at most 64 atoms begin a pair
    pub few_begin : (e : ExpressionTree) (m : Cells) → HasFewAtoms p → Same (ThereIn m) (InUpperAt (upper_structure p) env e) → BeginsWithFew 64 (ThereIn m)
    few_begin e m few s = (few.0, few.1, λ x y h. few.2 x (upper_atoms e (x ∷ y ∷ []) x (s.to (x ∷ y ∷ []) h) (first_of x (y ∷ []))))
