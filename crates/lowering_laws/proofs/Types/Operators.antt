-- What operators make of values that lie in types.
use Rattle.std.proofs.Common.{◌≡◌, inl, inr, ℕ, List, [], ◌∷◌, Contains, if◌then◌else◌, Ok, sym, subst}
use Rattle.std.specs.List.{AllZip}
use Rattle.alloy_lex.specs.declared.token.Place.{Place}
use Rattle.alloy_syntax.specs.declared.tree.Constant.{Constant}
use Rattle.alloy_syntax.specs.declared.tree.Constant.TheVariants as constants
use Rattle.alloy_syntax.specs.declared.tree.Prefix.{Prefix}
use Rattle.alloy_syntax.specs.declared.tree.Prefix.TheVariants as prefixes
use Rattle.alloy_syntax.specs.declared.tree.Operator.{Operator}
use Rattle.alloy_syntax.specs.declared.tree.Operator.TheVariants as operator
use Rattle.tuple_core.specs.declared.atom.Atom.{Atom}
use Rattle.rel_formula.specs.Kernel.{ExpressionTree, join, closure, FormulaTrees}
use Rattle.rel_formula.specs.Meaning.{Structure, InValue}
use Rattle.model_sizes.specs.declared.size.Size.{Size}
use Rattle.model_types.specs.Bounding.{Lists, joins, singles, doubles, through, constant_type, prefix_type, operator_type, brackets_type}
use Rattle.model_types.specs.Sorts as sorts
use Rattle.model_types.specs.Sorts.{Kind, as_relation, prefix_kind}
use Rattle.lowering_rules.specs.Parts.{Lowered, expression_in, constant_lowered, prefix_lowered, operator_lowered, joins_all, list_lowered, brackets_lowered}
use Rattle.lowering_rules.specs.Relations.{IsPlaceOf, InProducts}
use Rattle.lowering_rules.proofs.Inversion.{bind_ok, arity_inv}
use Rattle.lowering_laws.proofs.Types.Places.{LieIn, in_left, in_right, in_meet, in_products, in_joins, in_starting, in_ending, in_reversed, in_doubles}
use Rattle.lowering_laws.proofs.Types.Closures.{in_through}

module _ (sizes : List Size) (ts : List ℕ) (sized : (s : ℕ) (b : Atom) → IsPlaceOf sizes s b → Contains ts s)
    (M : Structure) (universe : (t : List Atom) → M.universe t → InProducts sizes (singles ts) t) (env : List Atom) where
  -- the value of an expression lies in a type
  abbrev pub Lies : Lists → ExpressionTree → Type 0
  Lies a e = LieIn sizes a (InValue M env e)

  pub joins_lie : (a b : Lists) (e f : ExpressionTree) → Lies a e → Lies b f → Lies (joins a b) (join e f)
  joins_lie a b e f h g = λ t v. in_joins sizes a b v.0 v.1 t (h v.0 v.2) (g v.1 v.3) v.4

  pub brackets_lie : (es : List ExpressionTree) (bs : List Lists) (a : Lists) (e : ExpressionTree) → AllZip (λ f b. Lies b f) es bs → Lies a e → Lies (brackets_type a bs) (brackets_lowered e es)
  brackets_lie [] [] a e hs h = h
  brackets_lie [] (b ∷ bs) a e hs h = absurd hs
  brackets_lie (f ∷ es) [] a e hs h = absurd hs
  brackets_lie (f ∷ es) (b ∷ bs) a e hs h = brackets_lie es bs (joins b a) (join f e) hs.1 (joins_lie b a f e hs.0 h)

  pub constant_lies : (c : Constant) → Lies (constant_type ts c) (constant_lowered c)
  constant_lies constants.None = λ t v. absurd v
  constant_lies constants.Univ = λ t v. universe t v
  constant_lies constants.Iden = λ t v. subst (InProducts sizes (doubles ts)) (sym v.2) (in_doubles sizes ts v.0 (universe (v.0 ∷ []) v.1))

  closure_lies : (a : Lists) (e : ExpressionTree) → Lies a e → Lies (through ts a) (closure e)
  closure_lies a e h = in_through sizes ts sized a (InValue M env e) h

  -- the operand is a relation wherever the answer is one
  pub prefix_lies : (f : Prefix) (p inner : Place) (kind k : Kind) (a : Lists) (x : Lowered) → prefix_kind f p inner kind ≡ Ok k → ((n : ℕ) → kind ≡ sorts.relation n → Lies a (expression_in x)) →
      Lies (prefix_type ts f a) (expression_in (prefix_lowered f x))
  prefix_lies prefixes.Transpose p inner kind k a x e h =
      let n = bind_ok (as_relation inner kind) _ k e in
      let lies = h n.0 (arity_inv inner kind n.0 n.1) in
      λ t v. subst (InProducts sizes (prefix_type ts prefixes.Transpose a)) (sym v.3) (in_reversed sizes a v.0 v.1 (lies (v.0 ∷ v.1 ∷ []) v.2))
  prefix_lies prefixes.Closure p inner kind k a x e h =
      let n = bind_ok (as_relation inner kind) _ k e in
      closure_lies a (expression_in x) (h n.0 (arity_inv inner kind n.0 n.1))
  prefix_lies prefixes.ReflexiveClosure p inner kind k a x e h =
      let n = bind_ok (as_relation inner kind) _ k e in
      let walks = closure_lies a (expression_in x) (h n.0 (arity_inv inner kind n.0 n.1)) in
      λ t v. elim v [
        | inl l ↦ in_left sizes (through ts a) (doubles ts) t (walks t l)
        | inr r ↦ in_right sizes (through ts a) (doubles ts) t (constant_lies constants.Iden t r)
      ]
  prefix_lies prefixes.Not p inner kind k a x e h = λ t v. absurd v
  prefix_lies prefixes.Size p inner kind k a x e h = λ t v. absurd v
  prefix_lies prefixes.No p inner kind k a x e h = λ t v. absurd v
  prefix_lies prefixes.Some p inner kind k a x e h = λ t v. absurd v
  prefix_lies prefixes.Lone p inner kind k a x e h = λ t v. absurd v
  prefix_lies prefixes.One p inner kind k a x e h = λ t v. absurd v

  pub operator_lies : (o : Operator) (a b : Lists) (x y : Lowered) → Lies a (expression_in x) → Lies b (expression_in y) → Lies (operator_type o a b) (expression_in (operator_lowered o x y))
  operator_lies operator.Union a b x y h g = λ t v. elim v [ inl l ↦ in_left sizes a b t (h t l) | inr r ↦ in_right sizes a b t (g t r) ]
  operator_lies operator.Minus a b x y h g = λ t v. h t v.0
  operator_lies operator.Override a b x y h g = λ t v. elim v [ inl r ↦ in_right sizes a b t (g t r) | inr l ↦ in_left sizes a b t (h t l.0) ]
  operator_lies operator.Meet a b x y h g = λ t v. in_meet sizes a b t (h t v.0) (g t v.1)
  operator_lies operator.Product a b x y h g = λ t v. subst (InProducts sizes (operator_type operator.Product a b)) (sym v.4) (in_products sizes a b v.0 v.1 (h v.0 v.2) (g v.1 v.3))
  operator_lies operator.Domain a b x y h g = λ t v. in_starting sizes a b v.1.0 t v.1.1 (h (v.1.0 ∷ []) v.1.2) (g t v.0)
  operator_lies operator.Range a b x y h g = λ t v. in_ending sizes a b v.1.0 t v.1.1 (h t v.0) (g (v.1.0 ∷ []) v.1.2)
  operator_lies operator.Or a b x y h g = λ t v. absurd v
  operator_lies operator.And a b x y h g = λ t v. absurd v
  operator_lies operator.Iff a b x y h g = λ t v. absurd v

  -- a chain of formulas has no value
  pub listed_lies : (o : Operator) (fs : FormulaTrees) (x : Lowered) (a : Lists) → Lies a (expression_in x) → Lies a (expression_in (if joins_all o then list_lowered o fs else x))
  listed_lies operator.Or fs x a h = λ t v. absurd v
  listed_lies operator.And fs x a h = λ t v. absurd v
  listed_lies operator.Iff fs x a h = h
  listed_lies operator.Union fs x a h = h
  listed_lies operator.Minus fs x a h = h
  listed_lies operator.Override fs x a h = h
  listed_lies operator.Meet fs x a h = h
  listed_lies operator.Product fs x a h = h
  listed_lies operator.Domain fs x a h = h
  listed_lies operator.Range fs x a h = h
