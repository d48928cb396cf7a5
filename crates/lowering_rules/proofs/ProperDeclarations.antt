-- What is said of signatures and fields is well formed.
use Rattle.std.specs.Prelude.{slice_index, ◌||◌, is_some, is_none, flat_map}
use Rattle.std.proofs.Common.{◌≡◌, ◌≤◌, inl, inr, ℕ, zero, suc, ◌+◌, ◌<◌, ◌==◌, nat_le, nat_lt, List, [], ◌∷◌, ◌++◌, map, filter, length, Bool, true, false, if◌then◌else◌, Option, Some, None, slice_get, Contains, All, Ok, refl, sym, ◌∙◌, ap, subst, arith, add-zero}
use Rattle.std.specs.List.{range_with_len}
use Rattle.std.proofs.lemmas.List.Elements.{All-head, All-tail}
use Rattle.alloy_syntax.specs.declared.tree.MultiplicityWord.{MultiplicityWord}
use Rattle.alloy_syntax.specs.declared.tree.Multiplicity.{Multiplicity}
use Rattle.alloy_syntax.specs.declared.tree.Multiplicity.TheVariants as multiplicity
use Rattle.alloy_syntax.specs.declared.tree.Manner.{Manner}
use Rattle.alloy_syntax.specs.declared.tree.Manner.TheVariants as manner
use Rattle.rel_formula.specs.Kernel.{ExpressionTree, rel, var, union, meet, join, FormulaTree, for_all}
use Rattle.rel_formula.specs.Shape.{IsWellFormed, IsProper}
use Rattle.rel_formula.proofs.OpenCells.{cons_first, cons_later, filter_has}
use Rattle.named_model.specs.declared.named.Signature.{Signature}
use Rattle.named_model.specs.declared.named.Listing.{Listing}
use Rattle.alloy_lex.specs.declared.token.Place.{Place}
use Rattle.alloy_syntax.specs.declared.tree.Operator.{Operator}
use Rattle.alloy_syntax.specs.declared.tree.Operator.TheVariants as operator
use Rattle.named_model.specs.declared.phrase.Referent.TheVariants as referent
use Rattle.named_model.specs.Phrase.{PhraseTree, refers, bracketed, chain, LinkTrees, no_links, more_links}
use Rattle.named_model.specs.Model.{FieldTree, NamedTree}
use Rattle.named_model.specs.Signatures.{signature_at, extends_to, extensions}
use Rattle.model_sizes.specs.Sizes.{listing_for, is_alone}
use Rattle.model_types.specs.declared.fault.TypeFault.TheVariants as fault
use Rattle.model_types.specs.Sorts as sorts
use Rattle.model_types.specs.Sorts.{unless, first_place, as_relation}
use Rattle.model_types.specs.Typing.{Settled, settled}
use Rattle.model_types.specs.Models.{declared_in, settled_in, bound_arity, arrows_arity, sides_of, arrow_checked, sides_unary, unary, wants_unary, field_checked}
use Rattle.lowering_rules.specs.Parts.{expression_in, no_of, some_of, lone_of, one_of, exactly, at_most, marked}
use Rattle.lowering_rules.specs.Lowering.{base_of, lowered}
use Rattle.lowering_rules.specs.Formula.{parent_says, union_from, extensions_say, listing_says, signature_says, word_before, unary_says, right_says, left_says, arrow_says, field_says, fields_say}
use Rattle.lowering_rules.specs.Calls.{IsRank}
use Rattle.lowering_rules.specs.Shapes.{IsOfArity, IsOfKind, HasRelations}
use Rattle.lowering_rules.proofs.Bodies.{HasBodies}
use Rattle.lowering_rules.specs.Typed.{IsBound, AreArrows, HasArrow, IsField, HasNoFault}
use Rattle.lowering_rules.proofs.Inversion.{bind_ok, if_ok, unless_inv, eq_test, le_test}
use Rattle.lowering_rules.proofs.Operators.{relation_of}
use Rattle.lowering_rules.proofs.Bound.{ListProper, list_both}
use Rattle.lowering_rules.proofs.Tops.{picked}
use Rattle.lowering_rules.proofs.Sound.{part_right}
use Rattle.lowering_rules.proofs.SettledBounds.{arity_of_kind, bound_settled}

-- ---- words and lists

word_right : (ns : List ℕ) (k : ℕ) (w : Multiplicity) (e : ExpressionTree) → IsWellFormed ns k e →
    ListProper ns k (elim w [ multiplicity.Set ↦ [] | multiplicity.Some ↦ some_of e ∷ [] | multiplicity.Lone ↦ lone_of e ∷ [] | multiplicity.One ↦ one_of e ∷ [] ])
word_right ns k multiplicity.Set e h = tt
word_right ns k multiplicity.Some e h = (h, tt)
word_right ns k multiplicity.Lone e h = (h, tt)
word_right ns k multiplicity.One e h = ((h, (h, tt)), tt)

marked_right : (ns : List ℕ) (k : ℕ) (mark : Option MultiplicityWord) (e : ExpressionTree) → IsWellFormed ns k e → ListProper ns k (marked mark e)
marked_right ns k None e h = tt
marked_right ns k (Some mark) e h = word_right ns k mark.multiplicity e h

before_right : (ns : List ℕ) (k : ℕ) (mark : Option MultiplicityWord) (e : ExpressionTree) → IsWellFormed ns k e → ListProper ns k (word_before mark e)
before_right ns k None e h = ((h, (h, tt)), tt)
before_right ns k (Some mark) e h = word_right ns k mark.multiplicity e h

map_right : (ns : List ℕ) (k j : ℕ) (binder : FormulaTree → FormulaTree) → ((g : FormulaTree) → IsProper ns j g → IsProper ns k (binder g)) →
    (gs : List FormulaTree) → ListProper ns j gs → ListProper ns k (map binder gs)
map_right ns k j binder is [] h = tt
map_right ns k j binder is (g ∷ gs) h = (is g h.0, map_right ns k j binder is gs h.1)

no_word : (ns : List ℕ) (k : ℕ) (binder : FormulaTree → FormulaTree) (mark : Option MultiplicityWord) (e : ExpressionTree) → mark ≡ None → ListProper ns k (map binder (marked mark e))
no_word ns k binder mark e none = subst (λ w. ListProper ns k (map binder (marked w e))) (sym none) tt

either_none : (a b : Option MultiplicityWord) → (is_some a || is_some b) ≡ false → (a ≡ None) × (b ≡ None)
either_none None None e = (refl, refl)
either_none None (Some b) e = absurd cc
either_none (Some a) b e = absurd cc

pub flat_right : (ns : List ℕ) (f : ℕ → List FormulaTree) (a n : ℕ) → ((s : ℕ) → s < a + n → ListProper ns 0 (f s)) → ListProper ns 0 (flat_map f (range_with_len a n))
flat_right ns f a zero h = tt
flat_right ns f a (suc n) h = list_both ns 0 (f a) (flat_map f (range_with_len (a + 1) n)) (h a (omega arith)) (flat_right ns f (a + 1) n (λ s l. h s (omega arith)))

-- ---- signatures

module _ (ns : List ℕ) (xs : List Signature) (signature : (s : ℕ) → s < length xs → (s < length ns) × (slice_index ns s ≡ 1)) where
  abbrev AreThere : List ℕ → Type 0
  AreThere qs = (q : ℕ) → Contains qs q → q < length xs

  extensions_there : (p : ℕ) → AreThere (extensions xs p)
  extensions_there p q c =
      let i = picked (λ x. extends_to p x.parent) 0 xs q c in
      let e = i.1 in
      let l = i.2 in
      omega arith

  overlaps_right : (s : ℕ) → s < length xs → (qs : List ℕ) → AreThere qs → ListProper ns 0 (map (λ q. no_of (meet (rel q) (rel s))) qs)
  overlaps_right s l [] h = tt
  overlaps_right s l (q ∷ qs) h =
      let a = signature q (h q (cons_first q qs)) in
      let b = signature s l in
      ((a.0, b.0, a.1 ∙ sym b.1), overlaps_right s l qs (λ r c. h r (cons_later q qs r c)))

  manner_right : (s p : ℕ) → s < length xs → (w : Manner) →
      ListProper ns 0 (elim w [ manner.In ↦ [] | manner.Extends ↦ map (λ q. no_of (meet (rel q) (rel s))) (filter (λ q. nat_lt q s) (extensions xs p)) ])
  manner_right s p l manner.In = tt
  manner_right s p l manner.Extends =
      overlaps_right s l (filter (λ q. nat_lt q s) (extensions xs p)) (λ q c. extensions_there p q (filter_has (λ q. nat_lt q s) (extensions xs p) q c).0)

  parent_right : (s : ℕ) → s < length xs → (o : Option (Manner × ℕ)) → ((p : Manner × ℕ) → o ≡ Some p → p.1 < length xs) → ListProper ns 0 (parent_says xs s o)
  parent_right s l None h = tt
  parent_right s l (Some p) h =
      let a = signature s l in
      let b = signature p.1 (h p refl) in
      ((a.0, b.0, a.1 ∙ sym b.1), manner_right s p.1 l p.0)

  union_right : (e : ExpressionTree) → IsOfArity ns 0 1 e → (qs : List ℕ) → AreThere qs → IsOfArity ns 0 1 (union_from e qs)
  union_right e f [] h = f
  union_right e f (q ∷ qs) h =
      let a = signature q (h q (cons_first q qs)) in
      union_right (union e (rel q)) ((f.0, a.0, f.1 ∙ sym a.1), f.1) qs (λ r c. h r (cons_later q qs r c))

  extensions_right : (s : ℕ) → s < length xs → (qs : List ℕ) → AreThere qs → ListProper ns 0 (extensions_say s qs)
  extensions_right s l [] h = tt
  extensions_right s l (q ∷ qs) h =
      let a = signature s l in
      let u = union_right (rel q) (signature q (h q (cons_first q qs))) qs (λ r c. h r (cons_later q qs r c)) in
      ((a.0, u.0, a.1 ∙ sym u.1), tt)

  abstract_right : (s : ℕ) → s < length xs → (b : Bool) → ListProper ns 0 (if b then extensions_say s (extensions xs s) else [])
  abstract_right s l true = extensions_right s l (extensions xs s) (extensions_there s)
  abstract_right s l false = tt

  size_right : (n : ℕ) (e : ExpressionTree) → IsWellFormed ns 0 e → (b c : Bool) → ListProper ns 0 (if b then (if c then exactly n e else at_most n e) ∷ [] else [])
  size_right n e h true true = ((h, (h, tt)), tt)
  size_right n e h true false = (h, tt)
  size_right n e h false c = tt

  listing_right : (x : Signature) (s : ℕ) → s < length xs → (o : Option Listing) → ListProper ns 0 (listing_says x s o)
  listing_right x s l None = tt
  listing_right x s l (Some z) = size_right z.number.value (rel s) (signature s l).0 (if is_none x.parent then is_alone x.mark else true) z.exactly

  pub signature_right : (ls : List Listing) → ((s : ℕ) (p : Manner × ℕ) → (signature_at xs s).parent ≡ Some p → p.1 < length xs) → (s : ℕ) → s < length xs → ListProper ns 0 (signature_says xs ls s)
  signature_right ls parents s l =
      let x = signature_at xs s in
      let one = parent_says xs s x.parent in
      let two = if x.is_abstract then extensions_say s (extensions xs s) else [] in
      let three = marked x.mark (rel s) in
      list_both ns 0 ((one ++ two) ++ three) (listing_says x s (listing_for ls s))
      (list_both ns 0 (one ++ two) three
      (list_both ns 0 one two (parent_right s l x.parent (parents s)) (abstract_right s l x.is_abstract))
      (marked_right ns 0 x.mark (rel s) (signature s l).0))
      (listing_right x s l (listing_for ls s))

-- ---- fields

-- the two sides of a single arrow
pub record Sides (x : PhraseTree) : Type 0 where
  pub pair : PhraseTree × PhraseTree
  pub are : sides_of x ≡ Some pair
  pub left : IsBound pair.0
  pub right : IsBound pair.1
  pub sum : bound_arity x ≡ bound_arity pair.0 + bound_arity pair.1

-- each bound has an arity above 0
positive : (x : PhraseTree) → IsBound x → 1 ≤ bound_arity x
positive (refers p (referent.Signature s)) b = omega arith
positive (bracketed p x) b = positive x b
positive (chain x ls) b = let h = positive x b.0 in omega arith
positive other b = absurd b

arrows_positive : (o : Operator) (p : Place) (y : PhraseTree) (ls : LinkTrees) → AreArrows (more_links o p y ls) → 1 ≤ arrows_arity (more_links o p y ls)
arrows_positive operator.Product p y ls b = let h = positive y b.0 in omega arith
arrows_positive other p y ls b = absurd b

arrow_links : (x : PhraseTree) (ls : LinkTrees) → HasArrow (chain x ls) → IsBound (chain x ls) → bound_arity (chain x ls) ≤ 2 → Sides (chain x ls)
arrow_links x no_links a b few = absurd a
arrow_links x (more_links operator.Product p y no_links) a b few = record {
  pair = (x, y);
  are = refl;
  left = b.0;
  right = elim b.1 [ inl none ↦ absurd none | inr arrows ↦ arrows.0 ];
  sum = ap (λ n. bound_arity x + n) (add-zero (bound_arity y));
}
arrow_links x (more_links operator.Product p y (more_links o q z ls)) a b few = absurd (elim b.1 [
  | inl none ↦ none
  | inr arrows ↦ (let one = positive x b.0 in let two = positive y arrows.0 in let three = arrows_positive o q z ls arrows.1 in omega arith)
])
arrow_links x other a b few = absurd a

arrow_sides : (x : PhraseTree) → HasArrow x → IsBound x → bound_arity x ≤ 2 → Sides x
arrow_sides (bracketed p x) a b few = let s = arrow_sides x a b few in record { pair = s.pair; are = s.are; left = s.left; right = s.right; sum = s.sum }
arrow_sides (chain x ls) a b few = arrow_links x ls a b few
arrow_sides other a b few = absurd a

module _ (ns : List ℕ) (m : NamedTree) (rank : ℕ → ℕ) (relations : HasRelations ns (declared_in m) (length m.signatures)) (bodies : HasBodies (declared_in m) (settled_in m))
    (is_rank : IsRank rank (settled_in m)) where
  -- a settled bound is of its arity, under any number of binders
  bound_right : (x : PhraseTree) (k : ℕ) (y : Settled) → IsBound x → settled (declared_in m) [] [] x ≡ Ok y → IsOfArity ns k (bound_arity x) (expression_in (lowered (base_of (settled_in m)) [] k x))
  bound_right x k y b e =
      let i = bound_settled (declared_in m) x [] y b e in
      let whole = part_right ns (declared_in m) (settled_in m) rank relations bodies is_rank x k [] [] [] y tt e in
      let kind = subst (λ q. IsOfKind ns k q (lowered (base_of (settled_in m)) [] k y.tree)) i.1 whole in
      let tree = subst (λ t. IsOfKind ns k (sorts.relation (bound_arity x)) (lowered (base_of (settled_in m)) [] k t)) i.0 kind in
      relation_of ns k (first_place x) (sorts.relation (bound_arity x)) (bound_arity x) (lowered (base_of (settled_in m)) [] k x) refl tree

  -- a side of an arrow with a word
  side_right : (x : PhraseTree) (u : Unit {0}) → IsBound x → unary (declared_in m) x ≡ Ok u → (bound_arity x ≡ 1) × IsOfArity ns 1 1 (expression_in (lowered (base_of (settled_in m)) [] 1 x))
  side_right x u b e =
      let y = bind_ok (settled (declared_in m) [] [] x) _ u e in
      let n = bind_ok (as_relation (first_place x) y.0.kind) _ u y.2 in
      let one = eq_test n.0 1 (unless_inv (n.0 == 1) (fault.NotUnary (first_place x)) u n.2) in
      let i = bound_settled (declared_in m) x [] y.0 b y.1 in
      let same : bound_arity x ≡ 1 = arity_of_kind (first_place x) y.0.kind (bound_arity x) n.0 i.1 n.1 ∙ one in
      (same, subst (λ j. IsOfArity ns 1 j (expression_in (lowered (base_of (settled_in m)) [] 1 x))) same (bound_right x 1 y.0 b y.1))

  module _ (r : ℕ) (f : FieldTree) (there : r < length ns) (arity : slice_index ns r ≡ bound_arity f.bound + 1) (is : IsField (length m.signatures) f) where
    owner_right : (k : ℕ) → IsOfArity ns k 1 (rel f.owner)
    owner_right k = relations.signature f.owner is.owner

    unary_right : (b : Bool) → (bound_arity f.bound == 1) ≡ b → ListProper ns 0 (if b then map (for_all (rel f.owner)) (word_before f.mark (join (var 0) (rel r))) else [])
    unary_right false e = tt
    unary_right true e =
        let one = eq_test (bound_arity f.bound) 1 e in
        let o = owner_right 0 in
        map_right ns 0 1 (for_all (rel f.owner)) (λ g h. (o.0, o.1, h)) (word_before f.mark (join (var 0) (rel r)))
        (before_right ns 1 f.mark (join (var 0) (rel r)) (omega arith, there, (omega arith, omega arith)))

    -- under a binder for the owner and one for a side
    side_says : (e : ExpressionTree) → IsOfArity ns 1 1 e → (mark : Option MultiplicityWord) (x : ExpressionTree) → IsWellFormed ns 2 x →
        ListProper ns 0 (map (λ g. for_all (rel f.owner) (for_all e g)) (marked mark x))
    side_says e h mark x w =
        let o = owner_right 0 in
        map_right ns 0 2 (λ g. for_all (rel f.owner) (for_all e g)) (λ g p. (o.0, o.1, (h.0, h.1, p))) (marked mark x) (marked_right ns 2 mark x w)

    no_words : (f.left ≡ None) × (f.right ≡ None) → (o : Option (PhraseTree × PhraseTree)) → ListProper ns 0 (arrow_says (base_of (settled_in m)) r f o)
    no_words none None = tt
    no_words none (Some sides) =
        list_both ns 0 (right_says (base_of (settled_in m)) r f sides.0) (left_says (base_of (settled_in m)) r f sides.1)
        (no_word ns 0 _ f.right (join (var 0) (join (var 1) (rel r))) none.1) (no_word ns 0 _ f.left (join (join (var 1) (rel r)) (var 0)) none.0)

    words_right : HasArrow f.bound → bound_arity f.bound ≤ 2 → (u : Unit {0}) → sides_unary (declared_in m) (sides_of f.bound) ≡ Ok u → ListProper ns 0 (arrow_says (base_of (settled_in m)) r f (sides_of f.bound))
    words_right a few u e =
        let s = arrow_sides f.bound a is.bound few in
        let left = s.pair.0 in
        let right = s.pair.1 in
        let checked = subst (λ o. sides_unary (declared_in m) o ≡ Ok u) s.are e in
        let one = bind_ok (unary (declared_in m) left) _ u checked in
        let x = side_right left one.0 s.left one.1 in
        let y = side_right right u s.right one.2 in
        let three : slice_index ns r ≡ 3 = let sum = s.sum in let p = x.0 in let q = y.0 in omega arith in
        let inner : IsWellFormed ns 2 (join (var 1) (rel r)) = (omega arith, there, (omega arith, omega arith)) in
        subst (λ o. ListProper ns 0 (arrow_says (base_of (settled_in m)) r f o)) (sym s.are)
        (list_both ns 0 (right_says (base_of (settled_in m)) r f left) (left_says (base_of (settled_in m)) r f right)
        (side_says (expression_in (lowered (base_of (settled_in m)) [] 1 left)) x.1 f.right (join (var 0) (join (var 1) (rel r))) (omega arith, inner, (omega arith, omega arith)))
        (side_says (expression_in (lowered (base_of (settled_in m)) [] 1 right)) y.1 f.left (join (join (var 1) (rel r)) (var 0)) (inner, omega arith, (omega arith, omega arith))))

    arrow_right : bound_arity f.bound ≤ 2 → (u : Unit {0}) → arrow_checked (declared_in m) f ≡ Ok u → ListProper ns 0 (arrow_says (base_of (settled_in m)) r f (sides_of f.bound))
    arrow_right few u e = elim is.words [
      | inl none ↦ no_words none (sides_of f.bound)
      | inr a ↦ elim (if_ok (is_some f.left || is_some f.right) (sides_unary (declared_in m) (sides_of f.bound)) (Ok tt) u e) [
        | inl some ↦ words_right a few u some.1
        | inr none ↦ no_words (either_none f.left f.right none.0) (sides_of f.bound)
      ]
    ]

    pub field_right : HasNoFault (field_checked (declared_in m) f) → ListProper ns 0 (field_says (base_of (settled_in m)) r f)
    field_right ok =
        let u = ok.0 in
        let y = bind_ok (settled (declared_in m) [] [] f.bound) _ u ok.1 in
        let n = bind_ok (as_relation (first_place f.bound) y.0.kind) _ u y.2 in
        let s = bind_ok (arrow_checked (declared_in m) f) _ u n.2 in
        let o = bind_ok (unless (if wants_unary f.mark then n.0 == 1 else true) (fault.NotUnary (first_place f.bound))) _ u s.2 in
        let few = le_test n.0 2 (unless_inv (nat_le n.0 2) (fault.ArityTooLarge f.place) u o.2) in
        let i = bound_settled (declared_in m) f.bound [] y.0 is.bound y.1 in
        let same : bound_arity f.bound ≡ n.0 = arity_of_kind (first_place f.bound) y.0.kind (bound_arity f.bound) n.0 i.1 n.1 in
        let b = bound_right f.bound 0 y.0 is.bound y.1 in
        let w = owner_right 0 in
        let high = b.1 in
        let one = w.1 in (
          (there, (w.0, b.0, omega arith), omega arith),
          list_both ns 0 (unary_says r f) (arrow_says (base_of (settled_in m)) r f (sides_of f.bound)) (unary_right (bound_arity f.bound == 1) refl) (arrow_right (omega arith) s.0 s.1),
        )

  pub fields_right : (r : ℕ) (fs : List FieldTree) → ((j : ℕ) (f : FieldTree) → slice_get fs j ≡ Some f → (r + j < length ns) × (slice_index ns (r + j) ≡ bound_arity f.bound + 1)) →
      All (IsField (length m.signatures)) fs → All (λ (f : FieldTree). HasNoFault (field_checked (declared_in m) f)) fs → ListProper ns 0 (fields_say (base_of (settled_in m)) r fs)
  fields_right r [] at names types = tt
  fields_right r (f ∷ fs) at names types =
      let here = at 0 f refl in
      let e : r + 0 ≡ r = add-zero r in
      list_both ns 0 (field_says (base_of (settled_in m)) r f) (fields_say (base_of (settled_in m)) (r + 1) fs)
      (field_right r f (subst (λ k. k < length ns) e here.0) (subst (λ k. slice_index ns k ≡ bound_arity f.bound + 1) e here.1)
      (All-head (IsField (length m.signatures)) f fs names) (All-head (λ (g : FieldTree). HasNoFault (field_checked (declared_in m) g)) f fs types))
      (fields_right (r + 1) fs (λ j g s. let h = at (suc j) g s in let k : r + suc j ≡ r + 1 + j = omega arith in
      subst (λ q. (q < length ns) × (slice_index ns q ≡ bound_arity g.bound + 1)) k h)
      (All-tail (IsField (length m.signatures)) f fs names) (All-tail (λ (g : FieldTree). HasNoFault (field_checked (declared_in m) g)) f fs types))
