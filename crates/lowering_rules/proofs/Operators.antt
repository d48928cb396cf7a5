-- What each operator makes of well-formed operands is well formed where their kinds fit it.
use Rattle.std.proofs.Common.{◌≡◌, ℕ, ◌+◌, ◌-◌, ◌==◌, nat_le, List, [], ◌∷◌, map, Bool, true, false, if◌then◌else◌, Option, Some, None, Ok, IsTrue, refl, sym, ◌∙◌, ap, subst, arith}
use Rattle.alloy_lex.specs.declared.token.Place.{Place}
use Rattle.alloy_syntax.specs.declared.tree.Constant.{Constant}
use Rattle.alloy_syntax.specs.declared.tree.Constant.TheVariants as constants
use Rattle.alloy_syntax.specs.declared.tree.Prefix.{Prefix}
use Rattle.alloy_syntax.specs.declared.tree.Prefix.TheVariants as prefixes
use Rattle.alloy_syntax.specs.declared.tree.Operator.{Operator}
use Rattle.alloy_syntax.specs.declared.tree.Operator.TheVariants as operator
use Rattle.alloy_syntax.specs.declared.tree.Comparing.{Comparing}
use Rattle.alloy_syntax.specs.declared.tree.Comparison.{Comparison}
use Rattle.alloy_syntax.specs.declared.tree.Comparison.TheVariants as comparison
use Rattle.rel_formula.specs.Kernel.{ExpressionTree, iden, union, join, transpose, closure, FormulaTree, conjunction, disjunction, FormulaTrees, more_formulas}
use Rattle.rel_formula.specs.Shape.{arity_of, IsWellFormed, IsProper, AreProper}
use Rattle.named_model.specs.Answers.{◌>>=◌}
use Rattle.model_types.specs.declared.fault.TypeFault.TheVariants as fault
use Rattle.model_types.specs.Sorts as sorts
use Rattle.model_types.specs.Sorts.{Kind, unless, as_relation, as_formula, as_number, constant_arity, joined_arity, same_arity, binary_arity, operator_arity, brackets_arity, is_connective, prefix_kind, compares_relations, compares_sizes, may_stand_left, fits_left}
use Rattle.model_types.specs.Typing.{Header, fits, arguments_fit, call_kind}
use Rattle.lowering_rules.specs.Parts.{Lowered, relation, formula, size, expression_in, formula_in, number_in, negation_if, constant_lowered, prefix_lowered, operator_lowered, joins_all, list_lowered, brackets_lowered, size_compared, relations_compared, comparison_lowered}
use Rattle.lowering_rules.specs.Shapes.{IsOfArity, IsOfKind}
use Rattle.lowering_rules.proofs.Inversion.{bind_ok, fine, same_ok, unless_inv, eq_test, le_test}

-- ---- what an answer says of what was lowered

pub relation_of : (ns : List ℕ) (d : ℕ) (p : Place) (k : Kind) (n : ℕ) (x : Lowered) → as_relation p k ≡ Ok n → IsOfKind ns d k x → IsOfArity ns d n (expression_in x)
relation_of ns d p (sorts.relation m) n (relation e) h f = (f.0, f.1 ∙ same_ok m n h)
relation_of ns d p (sorts.relation m) n x h f = absurd f
relation_of ns d p sorts.formula n x h f = absurd cc
relation_of ns d p sorts.number n x h f = absurd cc
relation_of ns d p sorts.size n x h f = absurd cc

pub formula_of : (ns : List ℕ) (d : ℕ) (p : Place) (k : Kind) (u : Unit {0}) (x : Lowered) → as_formula p k ≡ Ok u → IsOfKind ns d k x → IsProper ns d (formula_in x)
formula_of ns d p sorts.formula u (formula f) h g = g
formula_of ns d p sorts.formula u x h g = absurd g
formula_of ns d p (sorts.relation m) u x h f = absurd cc
formula_of ns d p sorts.number u x h f = absurd cc
formula_of ns d p sorts.size u x h f = absurd cc

pub kind_is : (ns : List ℕ) (d : ℕ) (k r : Kind) (x : Lowered) → fine k ≡ Ok r → IsOfKind ns d k x → IsOfKind ns d r x
kind_is ns d k r x e f = subst (λ q. IsOfKind ns d q x) (same_ok k r e) f

-- ---- prefixes

binary : (ns : List ℕ) (d : ℕ) (p q : Place) (k r : Kind) (x : Lowered) (f : ExpressionTree → ExpressionTree) →
    ((e : ExpressionTree) → IsWellFormed ns d e → arity_of ns e ≡ 2 → IsOfArity ns d 2 (f e)) →
    (as_relation q k >>= (λ n. binary_arity p n >>= (λ two. fine (sorts.relation two)))) ≡ Ok r → IsOfKind ns d k x → IsOfKind ns d r (relation (f (expression_in x)))
binary ns d p q k r x f g h is =
    let a = bind_ok (as_relation q k) _ r h in
    let b = bind_ok (binary_arity p a.0) _ r a.2 in
    let c = bind_ok (unless (a.0 == 2) (fault.NotBinary p)) _ b.0 b.1 in
    let e = relation_of ns d q k a.0 x a.1 is in
    let two = eq_test a.0 2 (unless_inv (a.0 == 2) (fault.NotBinary p) c.0 c.1) in
    let same : 2 ≡ b.0 = same_ok 2 b.0 c.2 in
    kind_is ns d (sorts.relation b.0) r (relation (f (expression_in x))) b.2
    (subst (λ j. IsOfArity ns d j (f (expression_in x))) same (g (expression_in x) e.0 (e.1 ∙ two)))

pub prefix_right : (ns : List ℕ) (d : ℕ) (f : Prefix) (p q : Place) (k r : Kind) (x : Lowered) → prefix_kind f p q k ≡ Ok r → IsOfKind ns d k x → IsOfKind ns d r (prefix_lowered f x)
prefix_right ns d prefixes.Not p q k r x h f =
    let a = bind_ok (as_formula q k) _ r h in
    kind_is ns d sorts.formula r (prefix_lowered prefixes.Not x) a.2 (formula_of ns d q k a.0 x a.1 f)
prefix_right ns d prefixes.No p q k r x h f =
    let a = bind_ok (as_relation q k) _ r h in
    kind_is ns d sorts.formula r (prefix_lowered prefixes.No x) a.2 ((relation_of ns d q k a.0 x a.1 f).0)
prefix_right ns d prefixes.Some p q k r x h f =
    let a = bind_ok (as_relation q k) _ r h in
    kind_is ns d sorts.formula r (prefix_lowered prefixes.Some x) a.2 ((relation_of ns d q k a.0 x a.1 f).0)
prefix_right ns d prefixes.Lone p q k r x h f =
    let a = bind_ok (as_relation q k) _ r h in
    kind_is ns d sorts.formula r (prefix_lowered prefixes.Lone x) a.2 ((relation_of ns d q k a.0 x a.1 f).0)
prefix_right ns d prefixes.One p q k r x h f =
    let a = bind_ok (as_relation q k) _ r h in
    let g = (relation_of ns d q k a.0 x a.1 f).0 in
    kind_is ns d sorts.formula r (prefix_lowered prefixes.One x) a.2 (g, (g, tt))
prefix_right ns d prefixes.Size p q k r x h f =
    let a = bind_ok (as_relation q k) _ r h in
    kind_is ns d sorts.size r (prefix_lowered prefixes.Size x) a.2 ((relation_of ns d q k a.0 x a.1 f).0)
prefix_right ns d prefixes.Transpose p q k r x h f = binary ns d p q k r x transpose (λ e g two. ((g, two), refl)) h f
prefix_right ns d prefixes.Closure p q k r x h f = binary ns d p q k r x closure (λ e g two. ((g, two), refl)) h f
prefix_right ns d prefixes.ReflexiveClosure p q k r x h f = binary ns d p q k r x (λ e. union (closure e) iden) (λ e g two. (((g, two), tt, refl), refl)) h f

pub constant_right : (ns : List ℕ) (d : ℕ) (c : Constant) → IsOfArity ns d (constant_arity c) (constant_lowered c)
constant_right ns d constants.None = (tt, refl)
constant_right ns d constants.Univ = (tt, refl)
constant_right ns d constants.Iden = (tt, refl)

-- ---- operators between relations

pub joined_right : (ns : List ℕ) (d : ℕ) (p : Place) (m n r : ℕ) (a b : ExpressionTree) → joined_arity p m n ≡ Ok r → IsOfArity ns d m a → IsOfArity ns d n b → IsOfArity ns d r (join a b)
joined_right ns d p m n r a b h f g =
    let u = bind_ok (unless (nat_le 3 (m + n)) (fault.Arity p)) _ r h in
    let v = bind_ok (unless (nat_le (m + n) 5) (fault.ArityTooLarge p)) _ r u.2 in
    let low = le_test 3 (m + n) (unless_inv (nat_le 3 (m + n)) (fault.Arity p) u.0 u.1) in
    let high = le_test (m + n) 5 (unless_inv (nat_le (m + n) 5) (fault.ArityTooLarge p) v.0 v.1) in
    let same : m + n - 2 ≡ r = same_ok (m + n - 2) r v.2 in
    let x = f.1 in
    let y = g.1 in
    ((f.0, g.0, (omega arith, omega arith)), omega arith)

same_right : (ns : List ℕ) (d : ℕ) (p : Place) (m n r : ℕ) (a b : ExpressionTree) → same_arity p m n ≡ Ok r → IsOfArity ns d m a → IsOfArity ns d n b →
    (arity_of ns a ≡ arity_of ns b) × (arity_of ns a ≡ r)
same_right ns d p m n r a b h f g =
    let u = bind_ok (unless (m == n) (fault.Arity p)) _ r h in
    let same = eq_test m n (unless_inv (m == n) (fault.Arity p) u.0 u.1) in
    (f.1 ∙ same ∙ sym g.1, f.1 ∙ same_ok m r u.2)

two_of : (p : Place) (n r : ℕ) → binary_arity p n ≡ Ok r → (n ≡ 2) × (2 ≡ r)
two_of p n r h =
    let u = bind_ok (unless (n == 2) (fault.NotBinary p)) _ r h in
    (eq_test n 2 (unless_inv (n == 2) (fault.NotBinary p) u.0 u.1), same_ok 2 r u.2)

operator_right : (ns : List ℕ) (d : ℕ) (o : Operator) (p left right : Place) (m n r : ℕ) (x y : Lowered) → operator_arity o p left right m n ≡ Ok r →
    IsOfArity ns d m (expression_in x) → IsOfArity ns d n (expression_in y) → IsOfKind ns d (sorts.relation r) (operator_lowered o x y)
operator_right ns d operator.Union p left right m n r x y h f g = let s = same_right ns d p m n r _ _ h f g in ((f.0, g.0, s.0), s.1)
operator_right ns d operator.Minus p left right m n r x y h f g = let s = same_right ns d p m n r _ _ h f g in ((f.0, g.0, s.0), s.1)
operator_right ns d operator.Meet p left right m n r x y h f g = let s = same_right ns d p m n r _ _ h f g in ((f.0, g.0, s.0), s.1)
operator_right ns d operator.Product p left right m n r x y h f g =
    let u = bind_ok (unless (nat_le (m + n) 3) (fault.ArityTooLarge p)) _ r h in
    let high = le_test (m + n) 3 (unless_inv (nat_le (m + n) 3) (fault.ArityTooLarge p) u.0 u.1) in
    let same : m + n ≡ r = same_ok (m + n) r u.2 in
    let e = f.1 in
    let e' = g.1 in
    ((f.0, g.0, omega arith), omega arith)
operator_right ns d operator.Override p left right m n r x y h f g =
    let u = bind_ok (binary_arity p m) _ r h in
    let a = two_of p m u.0 u.1 in
    let b = two_of p n r u.2 in
    ((f.0, g.0, (f.1 ∙ a.0, g.1 ∙ b.0)), b.1)
operator_right ns d operator.Domain p left right m n r x y h f g =
    let u = bind_ok (unless (m == 1) (fault.NotUnary left)) _ r h in
    let one = eq_test m 1 (unless_inv (m == 1) (fault.NotUnary left) u.0 u.1) in
    ((f.0, g.0, f.1 ∙ one), g.1 ∙ same_ok n r u.2)
operator_right ns d operator.Range p left right m n r x y h f g =
    let u = bind_ok (unless (n == 1) (fault.NotUnary right)) _ r h in
    let one = eq_test n 1 (unless_inv (n == 1) (fault.NotUnary right) u.0 u.1) in
    ((f.0, g.0, g.1 ∙ one), f.1 ∙ same_ok m r u.2)
operator_right ns d operator.Or p left right m n r x y h f g = absurd cc
operator_right ns d operator.And p left right m n r x y h f g = absurd cc
operator_right ns d operator.Iff p left right m n r x y h f g = absurd cc

-- ---- links of a chain

-- a connective that goes on with the operands fs, or with the rest of the chain
pub connective_right : (ns : List ℕ) (d : ℕ) (o : Operator) (k : Kind) (x y rest : Lowered) (fs : FormulaTrees) → is_connective o ≡ true →
    IsProper ns d (formula_in x) → IsProper ns d (formula_in y) → (IsOfKind ns d sorts.formula (operator_lowered o x y) → IsOfKind ns d k rest) → (k ≡ sorts.formula) × AreProper ns d fs →
    IsOfKind ns d k (if joins_all o then list_lowered o (more_formulas (formula_in x) (more_formulas (formula_in y) fs)) else rest)
connective_right ns d operator.Or k x y rest fs c f g on all = subst (λ q. IsOfKind ns d q (formula (disjunction (more_formulas (formula_in x) (more_formulas (formula_in y) fs))))) (sym all.0) (f, (g, all.1))
connective_right ns d operator.And k x y rest fs c f g on all = subst (λ q. IsOfKind ns d q (formula (conjunction (more_formulas (formula_in x) (more_formulas (formula_in y) fs))))) (sym all.0) (f, (g, all.1))
connective_right ns d operator.Iff k x y rest fs c f g on all = on ((f, (g, tt)), ((f, (g, tt)), tt))
connective_right ns d operator.Union k x y rest fs c f g on all = absurd cc
connective_right ns d operator.Minus k x y rest fs c f g on all = absurd cc
connective_right ns d operator.Meet k x y rest fs c f g on all = absurd cc
connective_right ns d operator.Product k x y rest fs c f g on all = absurd cc
connective_right ns d operator.Override k x y rest fs c f g on all = absurd cc
connective_right ns d operator.Domain k x y rest fs c f g on all = absurd cc
connective_right ns d operator.Range k x y rest fs c f g on all = absurd cc

-- an operator between relations goes on with the rest of the chain
pub between_right : (ns : List ℕ) (d : ℕ) (o : Operator) (p left right : Place) (m n r : ℕ) (k : Kind) (x y rest : Lowered) (fs : FormulaTrees) → operator_arity o p left right m n ≡ Ok r →
    IsOfArity ns d m (expression_in x) → IsOfArity ns d n (expression_in y) → (IsOfKind ns d (sorts.relation r) (operator_lowered o x y) → IsOfKind ns d k rest) →
    IsOfKind ns d k (if joins_all o then list_lowered o (more_formulas (formula_in x) (more_formulas (formula_in y) fs)) else rest)
between_right ns d operator.Or p left right m n r k x y rest fs h f g on = absurd cc
between_right ns d operator.And p left right m n r k x y rest fs h f g on = absurd cc
between_right ns d operator.Iff p left right m n r k x y rest fs h f g on = absurd cc
between_right ns d operator.Union p left right m n r k x y rest fs h f g on = on (operator_right ns d operator.Union p left right m n r x y h f g)
between_right ns d operator.Minus p left right m n r k x y rest fs h f g on = on (operator_right ns d operator.Minus p left right m n r x y h f g)
between_right ns d operator.Meet p left right m n r k x y rest fs h f g on = on (operator_right ns d operator.Meet p left right m n r x y h f g)
between_right ns d operator.Product p left right m n r k x y rest fs h f g on = on (operator_right ns d operator.Product p left right m n r x y h f g)
between_right ns d operator.Override p left right m n r k x y rest fs h f g on = on (operator_right ns d operator.Override p left right m n r x y h f g)
between_right ns d operator.Domain p left right m n r k x y rest fs h f g on = on (operator_right ns d operator.Domain p left right m n r x y h f g)
between_right ns d operator.Range p left right m n r k x y rest fs h f g on = on (operator_right ns d operator.Range p left right m n r x y h f g)

-- ---- arguments

-- each argument is well formed, and of the arity of its parameter as far as that one has any
abbrev pub AreArguments : List ℕ → ℕ → List (Option ℕ) → List ExpressionTree → Type 0
AreArguments ns d [] [] = Unit {0}
AreArguments ns d [] (e ∷ es) = ⊥
AreArguments ns d (m ∷ ms) [] = ⊥
AreArguments ns d (m ∷ ms) (e ∷ es) = IsWellFormed ns d e × IsTrue (fits m (arity_of ns e)) × AreArguments ns d ms es

-- expressions of these arities
abbrev pub HaveArities : List ℕ → ℕ → List (ℕ × Place) → List ExpressionTree → Type 0
HaveArities ns d [] [] = Unit {0}
HaveArities ns d [] (e ∷ es) = ⊥
HaveArities ns d (m ∷ ms) [] = ⊥
HaveArities ns d (m ∷ ms) (e ∷ es) = IsOfArity ns d m.0 e × HaveArities ns d ms es

is_true : (b : Bool) → b ≡ true → IsTrue b
is_true true e = refl
is_true false e = absurd cc

arguments_right : (ns : List ℕ) (d : ℕ) (p : Place) (ms : List (Option ℕ)) (given : List (ℕ × Place)) (es : List ExpressionTree) (u : Unit {0}) →
    arguments_fit p ms given ≡ Ok u → HaveArities ns d given es → AreArguments ns d ms es
arguments_right ns d p [] [] [] u h f = tt
arguments_right ns d p [] [] (e ∷ es) u h f = absurd f
arguments_right ns d p [] (a ∷ given) es u h f = absurd cc
arguments_right ns d p (m ∷ ms) [] es u h f = absurd cc
arguments_right ns d p (m ∷ ms) (a ∷ given) [] u h f = absurd f
arguments_right ns d p (m ∷ ms) (a ∷ given) (e ∷ es) u h f =
    let v = bind_ok (unless (fits m a.0) (fault.Arity a.1)) _ u h in
    let fit = unless_inv (fits m a.0) (fault.Arity a.1) v.0 v.1 in
    (f.0.0, is_true (fits m (arity_of ns e)) (ap (fits m) f.0.1 ∙ fit), arguments_right ns d p ms given es u v.2 f.1)

-- a call is of its header's kind
pub call_right : (ns : List ℕ) (d : ℕ) (p : Place) (o : Option Header) (given : List (ℕ × Place)) (k : Kind) (es : List ExpressionTree) (x : Lowered) → call_kind p o given ≡ Ok k → HaveArities ns d given es →
    ((h : Header) → o ≡ Some h → AreArguments ns d h.parameters es → IsOfKind ns d h.kind x) → IsOfKind ns d k x
call_right ns d p None given k es x h f sound = absurd cc
call_right ns d p (Some header) given k es x h f sound =
    let a = bind_ok (arguments_fit p header.parameters given) _ k h in
    kind_is ns d header.kind k x a.2 (sound header refl (arguments_right ns d p header.parameters given es a.0 a.1 f))

pub brackets_right : (ns : List ℕ) (d : ℕ) (p : Place) (m r : ℕ) (given : List (ℕ × Place)) (es : List ExpressionTree) (e : ExpressionTree) →
    brackets_arity p m (map (λ (n : ℕ × Place). n.0) given) ≡ Ok r → IsOfArity ns d m e → HaveArities ns d given es → IsOfArity ns d r (brackets_lowered e es)
brackets_right ns d p m r [] [] e h f g = (f.0, f.1 ∙ same_ok m r h)
brackets_right ns d p m r [] (x ∷ es) e h f g = absurd g
brackets_right ns d p m r (a ∷ given) [] e h f g = absurd g
brackets_right ns d p m r (a ∷ given) (x ∷ es) e h f g =
    let u = bind_ok (joined_arity p a.0 m) _ r h in
    brackets_right ns d p u.0 r given es (join x e) u.2 (joined_right ns d p a.0 m u.0 x e u.1 g.0 f) g.1

-- ---- comparisons

negation_right : (ns : List ℕ) (d : ℕ) (b : Bool) (f : FormulaTree) → IsProper ns d f → IsProper ns d (negation_if b f)
negation_right ns d true f h = h
negation_right ns d false f h = h

relations_right : (ns : List ℕ) (d : ℕ) (c : Comparison) (a b : ExpressionTree) → IsWellFormed ns d a → IsWellFormed ns d b → arity_of ns a ≡ arity_of ns b → IsProper ns d (relations_compared c a b)
relations_right ns d comparison.In a b f g e = (f, g, e)
relations_right ns d comparison.Equal a b f g e = (f, g, e)
relations_right ns d comparison.Less a b f g e = tt
relations_right ns d comparison.Greater a b f g e = tt
relations_right ns d comparison.AtMost a b f g e = tt
relations_right ns d comparison.AtLeast a b f g e = tt

size_right : (ns : List ℕ) (d : ℕ) (c : Comparison) (e : ExpressionTree) (n : ℕ) → IsWellFormed ns d e → IsProper ns d (size_compared c e n)
size_right ns d comparison.In e n f = tt
size_right ns d comparison.Equal e n f = (f, (f, tt))
size_right ns d comparison.Less e n f = f
size_right ns d comparison.Greater e n f = f
size_right ns d comparison.AtMost e n f = f
size_right ns d comparison.AtLeast e n f = f

pub comparison_right : (ns : List ℕ) (d : ℕ) (c : Comparing) (left right : Place) (k l : Kind) (u v : Unit {0}) (x y : Lowered) →
    may_stand_left c.comparison left k ≡ Ok u → fits_left c.place right k l ≡ Ok v → IsOfKind ns d k x → IsOfKind ns d l y → IsOfKind ns d sorts.formula (comparison_lowered c x y)
comparison_right ns d c left right (sorts.relation m) l u v (relation e) y s h f g =
    let n = bind_ok (as_relation right l) _ v h in
    let a = bind_ok (same_arity c.place m n.0) _ v n.2 in
    let z = relation_of ns d right l n.0 y n.1 g in
    let same = same_right ns d c.place m n.0 a.0 e (expression_in y) a.1 f z in
    negation_right ns d c.negated (relations_compared c.comparison e (expression_in y)) (relations_right ns d c.comparison e (expression_in y) f.0 z.0 same.0)
comparison_right ns d c left right (sorts.relation m) l u v x y s h f g = absurd f
comparison_right ns d c left right sorts.size l u v (size e) y s h f g =
    negation_right ns d c.negated (size_compared c.comparison e (number_in y)) (size_right ns d c.comparison e (number_in y) f)
comparison_right ns d c left right sorts.size l u v x y s h f g = absurd f
comparison_right ns d c left right sorts.formula l u v x y s h f g = absurd cc
comparison_right ns d c left right sorts.number l u v x y s h f g = absurd cc
