use Rattle.std.proofs.Common.{◌≡◌, List, length, reverse, refl, sym, subst, rules}
use Rattle.tuple_core.specs.declared.atom.Atom.{Atom}
use Rattle.tuple_core.specs.Operators.{Fit}
use Rattle.bool_circuit.specs.Network.{Network, size}
use Rattle.bool_matrix.specs.Cells.{Cells}
use Rattle.bool_matrix.proofs.Loops.{of_kept}
use Rattle.rel_formula.specs.declared.formula.Expression.{Expression}
use Rattle.rel_formula.specs.declared.formula.Expression.TheViews.{the_lemmas}
use Rattle.rel_formula.specs.Bounds.{Bounded}
use Rattle.rel_formula.specs.View.{expression_tree}
use Rattle.rel_formula.specs.Shape.{arity_of, IsWellFormed}
use Rattle.rel_terms.specs.Counting.{arities_of}
use Rattle.rel_translate.specs.Makes.{HasRoomFor, TermsOf, IsMade, AreMade}
use Rattle.rel_translate.proofs.Spending.{room_left, room_right}
use Rattle.rel_translate.proofs.GrownCircuits.{ready_kept}
use Rattle.rel_translate.proofs.Atoms.{few_begin}
use Rattle.rel_translate.proofs.Operators.{combine_parts, turn_parts, combine_room, turn_may, combine_made, turn_made}
use Rattle.rel_translate.proofs.PlainMatrices.{relation_made, variable_made, nothing_made, universe_made, identity_made, both_made}
use Rattle.rel_translate.proofs.expression.+matrix.Goals as goal

-- m is the matrix of e
abbrev MadeFor : Network → Network → Bounded → List Atom → Cells → Expression → Type 0
MadeFor old new p es m e = IsMade old new p (reverse es) (expression_tree e) m

abbrev RoomFor : Network → Bounded → List Atom → Expression → Type 0
RoomFor old p es e = HasRoomFor (size old) (TermsOf p (reverse es) (expression_tree e))

abbrev Formed : Bounded → List Atom → Expression → Type 0
Formed p es e = IsWellFormed (arities_of p) (length es) (expression_tree e)

abbrev BothFor : Network → Network → Bounded → List Atom → Cells → Cells → Expression → Expression → Type 0
BothFor old new p es l r a b = AreMade old new p (reverse es) (expression_tree a) (expression_tree b) l r

-- the matrices of two operands, under their own names
both_at : (start mid new : Network) (p : Bounded) (env : List Atom) (l r : Cells) (x y a b : Expression) → x ≡ a → y ≡ b → MadeFor start mid p env l x → MadeFor mid new p env r y → BothFor start new p env l r a b
both_at start mid new p env l r x y a b e f left right = both_made (subst (MadeFor start mid p env l) e left) (subst (MadeFor mid new p env r) f right)

pub matrix-requires : goal.matrix-requires
matrix-requires t c =
    let p = c.args.problem.now in
    let env = c.args.env.now in
    let start = c.args.circuit.now in
    let formed = subst (Formed p env) c.in-Binary.is c.requires.formed in
    let a = expression_tree c.in-Binary.a.value in
    let b = expression_tree c.in-Binary.b.value in
    let room = combine_parts p (reverse env) (size start) a b c.in-Binary.operator (subst (RoomFor start p env) c.in-Binary.is c.requires.room) in
    let inner = sym c.deref.ensures in
    (search (rules, the_lemmas), (c.requires.ready, (subst (Formed p env) inner formed.0, subst (RoomFor start p env) inner (room_left (size start) (TermsOf p (reverse env) a) (TermsOf p (reverse env) b) room))))

pub matrix-requires-in-Binary : goal.matrix-requires-in-Binary
matrix-requires-in-Binary t c =
    let p = c.args.problem.now in
    let env = c.args.env.now in
    let start = c.args.circuit.now in
    let mid = c.matrix.new.circuit in
    let formed = subst (Formed p env) c.in-Binary.is c.requires.formed in
    let a = expression_tree c.in-Binary.a.value in
    let b = expression_tree c.in-Binary.b.value in
    let room = combine_parts p (reverse env) (size start) a b c.in-Binary.operator (subst (RoomFor start p env) c.in-Binary.is c.requires.room) in
    let left = subst (MadeFor start mid p env c.in_ok-left-in-Binary.left) c.deref.ensures c.in_ok-left-in-Binary.ensures in
    let inner = sym c.deref-in-Binary.ensures in
    (search (rules, the_lemmas), (ready_kept left.spends.extends c.requires.ready, (subst (Formed p env) inner formed.1, subst (RoomFor mid p env) inner (room_right (TermsOf p (reverse env) b) room left.spends))))

pub combine-requires-clause-fit : goal.combine-requires-clause-fit
combine-requires-clause-fit t c =
    let p = c.args.problem.now in
    let env = c.args.env.now in
    let o = c.in-Binary.operator in
    let l = c.in_ok-left-in-Binary.left in
    let r = c.in_ok-right-in-Binary.right in
    let both = both_at c.args.circuit.now c.matrix.new.circuit c.matrix-in-Binary.new.circuit p env l r c.deref.result.now c.deref-in-Binary.result.now c.in-Binary.a.value c.in-Binary.b.value c.deref.ensures c.deref-in-Binary.ensures c.in_ok-left-in-Binary.ensures c.in_ok-right-in-Binary.ensures in
    let formed = subst (Formed p env) c.in-Binary.is c.requires.formed in
    subst (λ n. Fit o n r.arity) (sym both.left.is.arity_is) (subst (Fit o (arity_of (arities_of p) (expression_tree c.in-Binary.a.value))) (sym both.right.is.arity_is) formed.2)

pub combine-requires-clause-of : goal.combine-requires-clause-of
combine-requires-clause-of t c = of_kept c.matrix.new.circuit c.matrix-in-Binary.new.circuit c.in_ok-left-in-Binary.left c.in_ok-right-in-Binary.ensures.spends.extends c.in_ok-left-in-Binary.ensures.is.is.of

pub combine-requires-clause-room : goal.combine-requires-clause-room
combine-requires-clause-room t c =
    let p = c.args.problem.now in
    let env = c.args.env.now in
    let start = c.args.circuit.now in
    let l = c.in_ok-left-in-Binary.left in
    let r = c.in_ok-right-in-Binary.right in
    let both = both_at start c.matrix.new.circuit c.matrix-in-Binary.new.circuit p env l r c.deref.result.now c.deref-in-Binary.result.now c.in-Binary.a.value c.in-Binary.b.value c.deref.ensures c.deref-in-Binary.ensures c.in_ok-left-in-Binary.ensures c.in_ok-right-in-Binary.ensures in
    combine_room p (reverse env) both c.in-Binary.operator (subst (RoomFor start p env) c.in-Binary.is c.requires.room)

pub returns-in_ok-combine-in-Binary : goal.returns-in_ok-combine-in-Binary
returns-in_ok-combine-in-Binary t c =
    let p = c.args.problem.now in
    let env = c.args.env.now in
    let start = c.args.circuit.now in
    let l = c.in_ok-left-in-Binary.left in
    let r = c.in_ok-right-in-Binary.right in
    let both = both_at start c.matrix.new.circuit c.matrix-in-Binary.new.circuit p env l r c.deref.result.now c.deref-in-Binary.result.now c.in-Binary.a.value c.in-Binary.b.value c.deref.ensures c.deref-in-Binary.ensures c.in_ok-left-in-Binary.ensures c.in_ok-right-in-Binary.ensures in
    let e = c.in_ok-combine-in-Binary.ensures in
    subst (MadeFor start c.combine.new.circuit p env c.in_ok-combine-in-Binary.field-0) (sym c.in-Binary.is) (combine_made p (reverse env) both c.in-Binary.operator e.extends e.well e.is e.size)

pub matrix-requires-in-Unary : goal.matrix-requires-in-Unary
matrix-requires-in-Unary t c =
    let p = c.args.problem.now in
    let env = c.args.env.now in
    let start = c.args.circuit.now in
    let formed = subst (Formed p env) c.in-Unary.is c.requires.formed in
    let tree = expression_tree c.in-Unary.a.value in
    let room = turn_parts p (reverse env) (size start) tree c.in-Unary.operator (subst (RoomFor start p env) c.in-Unary.is c.requires.room) in
    let inner = sym c.deref-in-Unary.ensures in
    (search (rules, the_lemmas), (c.requires.ready, (subst (Formed p env) inner formed.0, subst (RoomFor start p env) inner room)))

pub turn-requires-clause-may : goal.turn-requires-clause-may
turn-requires-clause-may t c =
    let p = c.args.problem.now in
    let env = c.args.env.now in
    let start = c.args.circuit.now in
    let pairs = c.in_ok-pairs-in-Unary.pairs in
    let one = subst (MadeFor start c.matrix-in-Unary.new.circuit p env pairs) c.deref-in-Unary.ensures c.in_ok-pairs-in-Unary.ensures in
    let few = few_begin p (reverse env) c.requires.ready.atoms (expression_tree c.in-Unary.a.value) pairs c.requires.ready.few_atoms one.is.is.there in
    turn_may p (reverse env) one c.in-Unary.operator few (subst (RoomFor start p env) c.in-Unary.is c.requires.room)

pub returns-in_ok-turn-in-Unary : goal.returns-in_ok-turn-in-Unary
returns-in_ok-turn-in-Unary t c =
    let p = c.args.problem.now in
    let env = c.args.env.now in
    let start = c.args.circuit.now in
    let one = subst (MadeFor start c.matrix-in-Unary.new.circuit p env c.in_ok-pairs-in-Unary.pairs) c.deref-in-Unary.ensures c.in_ok-pairs-in-Unary.ensures in
    let e = c.in_ok-turn-in-Unary.ensures in
    subst (MadeFor start c.turn.new.circuit p env c.in_ok-turn-in-Unary.field-0) (sym c.in-Unary.is) (turn_made p (reverse env) one c.in-Unary.operator e.extends e.well e.is e.size)

pub returns-in_ok-copy-in-Rel : goal.returns-in_ok-copy-in-Rel
returns-in_ok-copy-in-Rel t c =
    let p = c.args.problem.now in
    let env = c.args.env.now in
    let start = c.args.circuit.now in
    let formed = subst (Formed p env) c.in-Rel.is c.requires.formed in
    let x = c.index.result.now in
    subst (MadeFor start start p env c.in_ok-copy-in-Rel.field-0) (sym c.in-Rel.is)
    (relation_made (reverse env) c.in-Rel.r x c.in_ok-copy-in-Rel.field-0 c.requires.ready.tables formed c.index.ensures c.in_ok-copy-in-Rel.ensures)

pub returns-in_ok-single-in-Var : goal.returns-in_ok-single-in-Var
returns-in_ok-single-in-Var t c =
    let p = c.args.problem.now in
    let env = c.args.env.now in
    let start = c.args.circuit.now in
    let formed = subst (Formed p env) c.in-Var.is c.requires.formed in
    subst (MadeFor start start p env c.in_ok-single-in-Var.field-0) (sym c.in-Var.is)
    (variable_made p env c.in-Var.i _ (record { top = 0; place = 0 }) c.in_ok-single-in-Var.field-0 formed refl (c.in_ok-single-in-Var.ensures start c.requires.ready.tables.always_is))

pub returns-in-None : goal.returns-in-None
returns-in-None t c =
    let start = c.args.circuit.now in
    subst (MadeFor start start c.args.problem.now c.args.env.now c.nothing.result) (sym c.in-None.is) (nothing_made (c.nothing.ensures start))

pub returns-in_ok-copy-in-Univ : goal.returns-in_ok-copy-in-Univ
returns-in_ok-copy-in-Univ t c =
    let start = c.args.circuit.now in
    subst (MadeFor start start c.args.problem.now c.args.env.now c.in_ok-copy-in-Univ.field-0) (sym c.in-Univ.is)
    (universe_made (reverse c.args.env.now) c.in_ok-copy-in-Univ.field-0 c.requires.ready.tables c.in_ok-copy-in-Univ.ensures)

pub returns-in_ok-identity-in-Iden : goal.returns-in_ok-identity-in-Iden
returns-in_ok-identity-in-Iden t c =
    let start = c.args.circuit.now in
    let tables = c.requires.ready.tables in
    subst (MadeFor start start c.args.problem.now c.args.env.now c.in_ok-identity-in-Iden.field-0) (sym c.in-Iden.is)
    (identity_made (reverse c.args.env.now) c.in_ok-identity-in-Iden.field-0 tables (c.in_ok-identity-in-Iden.ensures start tables.universe_is.is.of))
