use Rattle.std.proofs.Common.{◌≡◌, [], ◌∷◌, Contains, length, subst, sym, reverse, List, refl}
use Rattle.tuple_core.specs.declared.atom.Atom.{Atom}
use Rattle.tuple_core.specs.Rows.{Rows, IsSetOf}
use Rattle.rel_formula.specs.declared.formula.Expression.{Expression}
use Rattle.tuple_core.proofs.Congruence.{combined_is, turned_is}
use Rattle.rel_formula.specs.View.{expression_tree}
use Rattle.rel_formula.specs.Meaning.{InValue}
use Rattle.rel_formula.specs.Shape.{arity_of, IsWellFormed}
use Rattle.rel_formula.specs.Tables.{Tabled, arities, tabled}
use Rattle.rel_formula.proofs.formula.Expression.TheLaws.{the_size}
use Rattle.rel_formula.proofs.Smaller.{argument_falls, left_smaller, right_smaller, operand_smaller}
use Rattle.rel_formula.proofs.Valued.{variable_is}
use Rattle.rel_formula.proofs.evaluate.+value.Goals as goal

-- v is the value of e
abbrev IsValue : Tabled → List Atom → Rows → Expression → Type 0
IsValue tables env v e = IsSetOf v (arity_of (arities tables) (expression_tree e)) (InValue (tabled tables) (reverse env) (expression_tree e))

-- where the expression is well formed under these variables
abbrev FormedWith : Tabled → List Atom → Expression → Type 0
FormedWith tables env e = IsWellFormed (arities tables) (length env) (expression_tree e)

pub value-requires : goal.value-requires
value-requires t c =
    let P : Expression → Type 0 = FormedWith c.args.tables.now c.args.env.now in
    let formed = subst P c.in-Binary.is c.requires in
    (argument_falls the_size t _ _ _ _ c.decreases c.in-Binary.is c.deref.ensures (left_smaller _ _ _), subst P (sym c.deref.ensures) formed.0)

pub value-requires-in-Binary : goal.value-requires-in-Binary
value-requires-in-Binary t c =
    let P : Expression → Type 0 = FormedWith c.args.tables.now c.args.env.now in
    let formed = subst P c.in-Binary.is c.requires in
    (argument_falls the_size t _ _ _ _ c.decreases c.in-Binary.is c.deref-in-Binary.ensures (right_smaller _ _ _), subst P (sym c.deref-in-Binary.ensures) formed.1)

pub value-requires-in-Unary : goal.value-requires-in-Unary
value-requires-in-Unary t c =
    let P : Expression → Type 0 = FormedWith c.args.tables.now c.args.env.now in
    let formed = subst P c.in-Unary.is c.requires in
    (argument_falls the_size t _ _ _ _ c.decreases c.in-Unary.is c.deref-in-Unary.ensures (operand_smaller _ _), subst P (sym c.deref-in-Unary.ensures) formed.0)

pub returns-in_ok-single-in-Var : goal.returns-in_ok-single-in-Var
returns-in_ok-single-in-Var t c =
    let formed = subst (FormedWith c.args.tables.now c.args.env.now) c.in-Var.is c.requires in
    subst (IsValue c.args.tables.now c.args.env.now c.in_ok-single-in-Var.field-0) (sym c.in-Var.is)
    (variable_is c.args.env.now c.in-Var.i c.in_ok-single-in-Var.field-0 _ (record { top = 0; place = 0 }) formed refl c.in_ok-single-in-Var.ensures)

pub returns-in_ok-identity-in-Iden : goal.returns-in_ok-identity-in-Iden
returns-in_ok-identity-in-Iden t c =
    subst (IsValue c.args.tables.now c.args.env.now c.in_ok-identity-in-Iden.field-0) (sym c.in-Iden.is)
    (subst (λ (u : Rows). IsSetOf c.in_ok-identity-in-Iden.field-0 2 (λ t. (a : Atom) × Contains u.rows (a ∷ []) × (t ≡ a ∷ a ∷ []))) c.universe-in-Iden.ensures.value c.in_ok-identity-in-Iden.ensures)

pub returns-in_ok-combine-in-Binary : goal.returns-in_ok-combine-in-Binary
returns-in_ok-combine-in-Binary t c =
    let left = subst (IsValue c.args.tables.now c.args.env.now c.in_ok-left-in-Binary.left) c.deref.ensures c.in_ok-left-in-Binary.ensures in
    let right = subst (IsValue c.args.tables.now c.args.env.now c.in_ok-right-in-Binary.right) c.deref-in-Binary.ensures c.in_ok-right-in-Binary.ensures in
    subst (IsValue c.args.tables.now c.args.env.now c.in_ok-combine-in-Binary.field-0) (sym c.in-Binary.is) (combined_is c.in-Binary.operator left right c.in_ok-combine-in-Binary.ensures)

pub returns-in_ok-turn-in-Unary : goal.returns-in_ok-turn-in-Unary
returns-in_ok-turn-in-Unary t c =
    let pairs = subst (IsValue c.args.tables.now c.args.env.now c.in_ok-pairs-in-Unary.pairs) c.deref-in-Unary.ensures c.in_ok-pairs-in-Unary.ensures in
    subst (IsValue c.args.tables.now c.args.env.now c.in_ok-turn-in-Unary.field-0) (sym c.in-Unary.is) (turned_is c.in-Unary.operator pairs c.in_ok-turn-in-Unary.ensures)
