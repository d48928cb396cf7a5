-- The matrices that the operators make of those of their operands, and the room that they need.
use Rattle.std.proofs.Common.{◌≡◌, ℕ, ◌+◌, ◌*◌, ◌≤◌, ◌<◌, List, [], ◌∷◌, ◌++◌, length, refl, sym, ◌∙◌, ap, arith}
use Rattle.tuple_core.specs.declared.atom.Atom.{Atom}
use Rattle.tuple_core.specs.declared.operator.Operator.{Operator}
use Rattle.tuple_core.specs.declared.operator.Operator.TheVariants as operator
use Rattle.tuple_core.specs.declared.operator.UnaryOperator.{UnaryOperator}
use Rattle.tuple_core.specs.declared.operator.UnaryOperator.TheVariants as unary_operator
use Rattle.tuple_core.specs.Operators.{Pred, Closed, combined, may_combine, turned, arity_with}
use Rattle.tuple_core.specs.Gains.{Same}
use Rattle.tuple_core.proofs.Congruence.{Closed-same, combined_same, may_combine_same, turned_same}
use Rattle.bool_circuit.specs.Network.{Network, size}
use Rattle.bool_circuit.specs.Value.{Extends}
use Rattle.bool_matrix.specs.Cells.{Cells, IsCells, IsMatrixOf, TrueIn, ThereIn}
use Rattle.bool_matrix.specs.Terms.{tuples, joins}
use Rattle.bool_matrix.specs.Closure.{HasFewAtoms, HasRoom}
use Rattle.bool_matrix.specs.Work.{combine_work, turn_work, MayTurn}
use Rattle.rel_formula.specs.Bounds.{Bounded}
use Rattle.rel_formula.specs.Kernel.{ExpressionTree, binary, unary, closure}
use Rattle.rel_formula.specs.Meaning.{InValue}
use Rattle.rel_formula.specs.Shape.{arity_of}
use Rattle.rel_formula.specs.Sizes.{HasSize}
use Rattle.rel_terms.specs.Numbers.{Number, Is, ◌⊕◌, ◌⊗◌}
use Rattle.rel_terms.specs.Upper.{upper_structure}
use Rattle.rel_terms.specs.Terms.{Meeting, InUpperAt, UpperHas, own_terms, turn_terms}
use Rattle.rel_terms.specs.Counting.{arities_of}
use Rattle.rel_translate.specs.Tables.{structure_at}
use Rattle.rel_translate.specs.Makes.{HasRoomFor, TermsOf, IsMatrixFor, IsMade, AreMade}
use Rattle.rel_translate.proofs.MatrixSizes.{entries_size, joins_size}
use Rattle.rel_translate.proofs.Spending.{IsAtMost, spends_own, room_left, room_own}
use Rattle.rel_translate.proofs.GrownCircuits.{well_of}

module _ (p : Bounded) (env : List Atom) where
  abbrev pub UpperOf : ExpressionTree → Pred
  UpperOf e = InUpperAt (upper_structure p) env e

  abbrev pub SizeOf : ExpressionTree → Number
  SizeOf e = UpperHas (upper_structure p) env e

  -- as many tuples are there as the upper value has
  pub there_size : {network : Network} (e : ExpressionTree) (m : Cells) → IsMatrixFor network p env e m → (n : ℕ) → SizeOf e n → length m.entries ≡ n
  there_size e m is n h = entries_size m (UpperOf e) n is.well is.is.there h

  module _ {start mid : Network} {a b : ExpressionTree} {l r : Cells} (both : AreMade start mid p env a b l r) where
    left_size : (n : ℕ) → SizeOf a n → length l.entries ≡ n
    left_size = there_size a l both.left

    right_size : (n : ℕ) → SizeOf b n → length r.entries ≡ n
    right_size = there_size b r both.right

    pub sum_size : IsAtMost (length l.entries + length r.entries) (SizeOf a ⊕ SizeOf b)
    sum_size n h = let f = left_size h.0 h.2 in let g = right_size h.1 h.3 in let e = h.4 in omega arith

    twice_size : IsAtMost (length l.entries + 2 * length r.entries) (SizeOf a ⊕ Is 2 ⊗ SizeOf b)
    twice_size n h =
        let f = left_size h.0 h.2 in
        let t = h.3 in
        let g = right_size t.1 t.3 in
        let d : h.1 ≡ 2 * t.1 = t.4 ∙ ap (λ k. k * t.1) t.2 in
        let e = h.4 in
        omega arith

    times_size : IsAtMost (length l.entries * length r.entries) (SizeOf a ⊗ SizeOf b)
    times_size n h =
        let e : length l.entries * length r.entries ≡ n = ap (λ k. k * length r.entries) (left_size h.0 h.2) ∙ ap (λ k. h.0 * k) (right_size h.1 h.3) ∙ sym h.4 in
        omega arith

    abbrev Meetings : Number
    Meetings = HasSize (Meeting (UpperOf a) (UpperOf b))

    meeting_size : IsAtMost (joins (tuples l) (tuples r)) Meetings
    meeting_size n h = joins_size l r (UpperOf a) (UpperOf b) n both.left.well both.right.well both.left.is.there both.right.is.there h

    pub left_most : IsAtMost (length l.entries) (SizeOf a)
    left_most n h = let e = left_size n h in omega arith

    right_most : IsAtMost (length r.entries) (SizeOf b)
    right_most n h = let e = right_size n h in omega arith

    work_most : (o : Operator) → IsAtMost (combine_work o l r) (own_terms o (UpperOf a) (UpperOf b))
    work_most operator.Union = sum_size
    work_most operator.Minus = sum_size
    work_most operator.Meet = sum_size
    work_most operator.Product = times_size
    work_most operator.Join = meeting_size
    work_most operator.Override = twice_size
    work_most operator.Dom = right_most
    work_most operator.Ran = left_most

    pub combine_room : (o : Operator) → HasRoomFor (size start) (TermsOf p env (binary o a b)) → size mid + 16 * combine_work o l r < 1073741823
    combine_room o h = room_own (own_terms o (UpperOf a) (UpperOf b)) (combine_work o l r) h both.spends (work_most o)

    pub combine_made : {new : Network} {m : Cells} (o : Operator) → Extends mid new → IsCells m →
        IsMatrixOf new m (arity_with o l.arity r.arity) (λ s. combined o (TrueIn mid l s) (TrueIn mid r s)) (may_combine o (ThereIn l) (ThereIn r)) →
        size new ≤ size mid + 16 * combine_work o l r → IsMade start new p env (binary o a b) m
    combine_made o extends well is most =
        let ns = arities_of p in
        record {
          spends = spends_own (own_terms o (UpperOf a) (UpperOf b)) (combine_work o l r) both.spends extends most (work_most o);
          is = well_of (arity_of ns (binary o a b)) (λ s. InValue (structure_at p s) env (binary o a b)) (UpperOf (binary o a b))
              (ap (λ k. arity_with o k r.arity) both.left.is.arity_is ∙ ap (arity_with o (arity_of ns a)) both.right.is.arity_is)
              (λ s. combined_same o (both.left.is.value s) (both.right.is.value s)) (may_combine_same o both.left.is.there both.right.is.there) well is;
        }

  module _ {start mid : Network} {a : ExpressionTree} {l : Cells} (one : IsMade start mid p env a l) where
    abbrev ClosedUpper : Pred
    ClosedUpper = Closed (UpperOf a)

    abbrev ClosedMeetings : Number
    ClosedMeetings = HasSize (Meeting ClosedUpper ClosedUpper)

    closed_there : Same (Closed (ThereIn l)) ClosedUpper
    closed_there = Closed-same one.is.is.there

    meeting_to : (t : List Atom) → Meeting (Closed (ThereIn l)) (Closed (ThereIn l)) t → Meeting ClosedUpper ClosedUpper t
    meeting_to t g = (g.0, g.1, g.2, closed_there.to (g.0 ++ g.1 ∷ []) g.3, closed_there.to (g.1 ∷ g.2) g.4, g.5)

    closure_room : HasRoomFor (size start) (TermsOf p env (closure a)) → HasRoom (size mid) 1073741823 (Closed (ThereIn l))
    closure_room h =
        let s = h.1 in
        let six = s.3 in
        let rows = six.3.0 in
        let long : length rows ≡ six.1 = six.3.2 in
        let e : s.1 ≡ 6 * six.1 = six.4 ∙ ap (λ k. k * six.1) six.2 in
        let most = one.spends.most s.0 s.2 in
        let sum = s.4 in
        let limit = h.2 in
        (rows, λ t g. (six.3.1.just t).1 (meeting_to t g), omega arith)

    pub turn_may : (o : UnaryOperator) → HasFewAtoms 64 (ThereIn l) → HasRoomFor (size start) (TermsOf p env (unary o a)) → MayTurn o (size mid) 1073741823 (ThereIn l)
    turn_may unary_operator.Transpose few h = tt
    turn_may unary_operator.Closure few h = (few, closure_room h)

    turned_most : {m : Cells} (o : UnaryOperator) → IsCells m → Same (ThereIn m) (turned o (UpperOf a)) → IsAtMost (turn_work o m) (turn_terms o (UpperOf a))
    turned_most {m} unary_operator.Transpose well there n h = omega arith
    turned_most {m} unary_operator.Closure well there n h =
        let few = joins_size m m ClosedUpper ClosedUpper h.1 well well there there h.3 in
        let e : n ≡ 6 * h.1 = h.4 ∙ ap (λ k. k * h.1) h.2 in
        omega arith

    pub turn_made : {new : Network} {m : Cells} (o : UnaryOperator) → Extends mid new → IsCells m → IsMatrixOf new m 2 (λ s. turned o (TrueIn mid l s)) (turned o (ThereIn l)) →
        size new ≤ size mid + 16 * turn_work o m → IsMade start new p env (unary o a) m
    turn_made {m = m} o extends well is most =
        let whole = well_of 2 (λ s. InValue (structure_at p s) env (unary o a)) (UpperOf (unary o a)) refl (λ s. turned_same o (one.is.is.value s)) (turned_same o one.is.is.there) well is in
        record { spends = spends_own (turn_terms o (UpperOf a)) (turn_work o m) one.spends extends most (turned_most o well whole.is.there); is = whole }

-- the room for an operator's operands
pub combine_parts : (p : Bounded) (env : List Atom) (used : ℕ) (a b : ExpressionTree) (o : Operator) → HasRoomFor used (TermsOf p env (binary o a b)) → HasRoomFor used (TermsOf p env a ⊕ TermsOf p env b)
combine_parts p env used a b o h = room_left used (TermsOf p env a ⊕ TermsOf p env b) (own_terms o (InUpperAt (upper_structure p) env a) (InUpperAt (upper_structure p) env b)) h

pub turn_parts : (p : Bounded) (env : List Atom) (used : ℕ) (a : ExpressionTree) (o : UnaryOperator) → HasRoomFor used (TermsOf p env (unary o a)) → HasRoomFor used (TermsOf p env a)
turn_parts p env used a o h = room_left used (TermsOf p env a) (turn_terms o (InUpperAt (upper_structure p) env a)) h
