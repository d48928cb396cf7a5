-- What spells a field's bound is read as it, where its words stand beside the one arrow that it is.
use Rattle.std.proofs.Common.{◌≡◌, ℕ, zero, suc, ◌≤◌, ◌<◌, ◌⊎◌, inl, inr, Bool, true, false, not, ◌||◌, ◌&&◌, if◌then◌else◌, IsTrue, List, [], ◌∷◌, map, length, Option, Some, None, Ok, refl, sym, ap, subst, ◌∙◌, arith}
use Rattle.std.specs.List.{list_any}
use Rattle.alloy_lex.specs.declared.token.Place.{Place}
use Rattle.alloy_syntax.specs.declared.class.Class.TheVariants as class
use Rattle.alloy_syntax.specs.declared.tree.Name.{Name}
use Rattle.alloy_syntax.specs.declared.tree.MultiplicityWord.{MultiplicityWord}
use Rattle.alloy_syntax.specs.declared.parser_token.ParserToken.{ParserToken}
use Rattle.alloy_syntax.specs.Class.{is_class}
use Rattle.alloy_syntax.specs.Tree.{BoundTree, bound_named, bound_bracketed, bound_union, bound_arrows, BoundArrowTree, BoundUnions, no_unions, more_unions, BoundArrows, no_arrows, more_arrows, unions_of, arrows_of}
use Rattle.alloy_syntax.specs.Readers.{Parser, next_is, after, is_mark}
use Rattle.alloy_syntax.specs.Bounds.{Bounded, Standing, whole, part, beside, BoundReader, is_whole, word_round, operand_in, standing_beside, word_beside, refuse_word, side_over, begins_bound_arrow, bound_arrow_over, more_bound_arrows, bound_arrows_over, operand_over, bound_over, bound_within}
use Rattle.alloy_grammar.specs.Fronts.{sign, mark_of, name, mark, each}
use Rattle.alloy_grammar.specs.Bounds.{level_of_bound, spells_bound, spells_unions, spells_arrows, depth_of_bound, depth_of_unions, depth_of_arrows, has_unions, has_arrows, is_word, has_arrow, unions_have_arrow, has_word, unions_have_word, arrows_have_word, is_one_arrow, is_plain_bound}
use Rattle.alloy_grammar.proofs.Results.{either, true_not_false}
use Rattle.alloy_grammar.proofs.Tokens.{marks, and_left, and_right}
use Rattle.alloy_grammar.proofs.TextEnds.{is_next, after_is, differs}
use Rattle.alloy_grammar.proofs.NodesReadBack.{mark_full, expect_full, spelled_full, place_is, Goes, many_full}
use Rattle.alloy_grammar.proofs.Spelled.{both_false}
use Rattle.alloy_grammar.proofs.Nodes.{word_full, multiplicity_full, or_true}
use Rattle.alloy_grammar.proofs.Bounds.{bounds_read, arrow_read, operand_read}

abbrev no_word : Option (List ParserToken)
no_word = None

abbrev no_mark : Option MultiplicityWord
no_mark = None

-- where the bound may stand so
abbrev Fits : Standing → BoundTree → Type 0
Fits whole b = (has_word b ≡ false) ⊎ (is_one_arrow b ≡ true)
Fits part b = has_word b ≡ false
Fits (beside word) b = (has_word b ≡ false) × (has_arrow b ≡ false)

-- the bound is read there
record Back (s : Standing) (b : BoundTree) (p : Parser Bounded) (ts rest : List ParserToken) : Type 0 where
  read : Bounded
  bound : read.bound ≡ b
  arrows : read.has_arrow ≡ has_arrow b
  marked : has_word b ≡ false → read.marked ≡ no_word
  reads : p ts ≡ Ok (read, rest)

abbrev bound_reader : Bool → BoundReader → ℕ → BoundReader
bound_reader strict j zero = bound_over strict j
bound_reader strict j (suc zero) = bound_arrows_over strict j
bound_reader strict j (suc (suc n)) = side_over j

record BoundEnds (l : ℕ) (ts : List ParserToken) : Type 0 where
  plus : l ≤ 0 → next_is class.Plus ts ≡ false
  arrow : l ≤ 1 → begins_bound_arrow ts ≡ false

-- ---- where nothing goes on

side_alone : (strict : Bool) (j : BoundReader) (s : Standing) (x : Bounded) (ts rest : List ParserToken) → side_over j s ts ≡ Ok (x, rest) → begins_bound_arrow rest ≡ false → bound_arrows_over strict j s ts ≡ Ok (x, rest)
unfolding bound_arrows_over
side_alone strict j s x ts rest e none = rw (e, none) refl

arrows_alone : (strict : Bool) (j : BoundReader) (s : Standing) (x : Bounded) (ts rest : List ParserToken) → bound_arrows_over strict j s ts ≡ Ok (x, rest) → next_is class.Plus rest ≡ false → bound_over strict j s ts ≡ Ok (x, rest)
unfolding bound_over
arrows_alone strict j s x ts rest e none = rw (e, none) refl

-- what is read of a side is read where a looser part may stand
from_side : (strict : Bool) (j : BoundReader) (s : Standing) (b : BoundTree) (l : ℕ) (ts rest : List ParserToken) → BoundEnds l rest → Back s b (side_over j s) ts rest → Back s b (bound_reader strict j l s) ts rest
from_side strict j s b zero ts rest e k = record {
  read = k.read;
  bound = k.bound;
  arrows = k.arrows;
  marked = k.marked;
  reads = arrows_alone strict j s k.read ts rest (side_alone strict j s k.read ts rest k.reads (e.arrow (omega arith))) (e.plus (omega arith));
}
from_side strict j s b (suc zero) ts rest e k = record { read = k.read; bound = k.bound; arrows = k.arrows; marked = k.marked; reads = side_alone strict j s k.read ts rest k.reads (e.arrow (omega arith)) }
from_side strict j s b (suc (suc n)) ts rest e k = k

from_arrows : (strict : Bool) (j : BoundReader) (s : Standing) (b : BoundTree) (l : ℕ) (ts rest : List ParserToken) → l ≤ 1 → BoundEnds l rest → Back s b (bound_arrows_over strict j s) ts rest → Back s b (bound_reader strict j l s) ts rest
from_arrows strict j s b zero ts rest less e k = record { read = k.read; bound = k.bound; arrows = k.arrows; marked = k.marked; reads = arrows_alone strict j s k.read ts rest k.reads (e.plus (omega arith)) }
from_arrows strict j s b (suc zero) ts rest less e k = k
from_arrows strict j s b (suc (suc n)) ts rest less e k = absurd (omega (arith, less))

from_union : (strict : Bool) (j : BoundReader) (s : Standing) (b : BoundTree) (l : ℕ) (ts rest : List ParserToken) → l ≤ 0 → Back s b (bound_over strict j s) ts rest → Back s b (bound_reader strict j l s) ts rest
from_union strict j s b zero ts rest less k = k
from_union strict j s b (suc n) ts rest less k = absurd (omega (arith, less))

-- ---- sides

named_back : (j : BoundReader) (s : Standing) (n : Name) (ts rest : List ParserToken) → name n ts rest → Back s (bound_named n) (side_over j s) ts rest
unfolding side_over has_arrow is_class
named_back j s n ts rest m = record {
  read = record { bound = bound_named n; marked = None; has_arrow = false };
  bound = refl;
  arrows = refl;
  marked = λ _. refl;
  reads = rw (differs class.Name class.LeftParen ts rest (m.0, m.1, m.2) refl, spelled_full class.Name n ts rest m) refl;
}

bracketed_back : (j : BoundReader) (s : Standing) (p : Place) (b : BoundTree) (ts us vs rest : List ParserToken) → sign class.LeftParen p ts us → Back s b (j s) us vs → mark_of class.RightParen vs rest → Back s (bound_bracketed p b) (side_over j s) ts rest
unfolding side_over has_arrow has_word
bracketed_back j s p b ts us vs rest o k c =
    let m = marks class.LeftParen p ts us o in
    let e = k.reads in
    record {
      read = record { bound = bound_bracketed p k.read.bound; marked = k.read.marked; has_arrow = k.read.has_arrow };
      bound = ap (bound_bracketed p) k.bound;
      arrows = k.arrows;
      marked = k.marked;
      reads = rw (is_next class.LeftParen ts us m, after_is class.LeftParen ts us m, e, mark_full class.RightParen vs rest c, place_is class.LeftParen p ts us o) refl;
    }

-- ---- words

some_not_none : {P : Type 0} (word : List ParserToken) → Some word ≡ no_word → P
some_not_none word e = absurd cc

mark_not_none : (w : MultiplicityWord) → Some w ≡ no_mark → ⊥
mark_not_none w e = cc

or_two : (a b : Bool) → a ≡ false → b ≡ false → (a || b) ≡ false
or_two a b e f = rw (e, f) refl

is_not : (b : Bool) → not b ≡ true → b ≡ false
is_not true e = absurd cc
is_not false e = refl

refuse_none : (strict : Bool) (w : Option (List ParserToken)) → (strict ≡ true → w ≡ no_word) → refuse_word strict w ≡ Ok tt
refuse_none strict None none = refl
refuse_none false (Some word) none = refl
refuse_none true (Some word) none = some_not_none word (none refl)

is_word_none : (m : Option MultiplicityWord) → is_word m ≡ false → m ≡ no_mark
is_word_none None e = refl
is_word_none (Some w) e = true_not_false e

-- no word stands there, where the tree has none
no_word_beside : (l r : Option MultiplicityWord) (p : Place) (ts us vs ws : List ParserToken) → mark l ts us → sign class.Arrow p us vs → mark r vs ws → is_mark ws ≡ false → l ≡ no_mark → r ≡ no_mark → word_beside ts ≡ no_word
unfolding word_beside is_mark is_class
no_word_beside None None p ts us vs ws f s g none e1 e2 =
    let m = marks class.Arrow p us vs s in
    let here : is_mark ts ≡ false = ap is_mark f ∙ rw (differs class.Arrow class.Set us vs m refl, differs class.Arrow class.One us vs m refl, differs class.Arrow class.Lone us vs m refl, differs class.Arrow class.Some us vs m refl) refl in
    let there : is_mark (after ts) ≡ false = ap is_mark (ap after f ∙ (after_is class.Arrow us vs m ∙ g)) ∙ none in
    rw (here, there) refl
no_word_beside (Some w) r p ts us vs ws f s g none e1 e2 = absurd (mark_not_none w e1)
no_word_beside None (Some w) p ts us vs ws f s g none e1 e2 = absurd (mark_not_none w e2)

-- a bound without arrows has no words
mutual
  unfolding has_arrow unions_have_arrow has_word unions_have_word

  no_arrow_no_word : (b : BoundTree) → has_arrow b ≡ false → has_word b ≡ false
  no_arrow_no_word (bound_named n) e = refl
  no_arrow_no_word (bound_bracketed p b) e = no_arrow_no_word b e
  no_arrow_no_word (bound_union b us) e =
      let both = both_false (has_arrow b) (unions_have_arrow us) e in
      or_two (has_word b) (unions_have_word us) (no_arrow_no_word b both.0) (no_arrows_no_words us both.1)
  no_arrow_no_word (bound_arrows b rest) e = true_not_false e

  no_arrows_no_words : (us : BoundUnions) → unions_have_arrow us ≡ false → unions_have_word us ≡ false
  no_arrows_no_words no_unions e = refl
  no_arrows_no_words (more_unions p b us) e =
      let both = both_false (has_arrow b) (unions_have_arrow us) e in
      or_two (has_word b) (unions_have_word us) (no_arrow_no_word b both.0) (no_arrows_no_words us both.1)

-- ---- arrows

-- what a bound of arrows has, where it may stand so: no words at all; or one arrow alone, whose sides have none, that is the whole
abbrev ArrowsFit : Standing → BoundTree → BoundArrows → Type 0
ArrowsFit s b rs = (has_word (bound_arrows b rs) ≡ false) ⊎ ((is_whole s ≡ true) × (is_one_arrow (bound_arrows b rs) ≡ true))

fits_arrows : (s : Standing) (b : BoundTree) (rs : BoundArrows) → Fits s (bound_arrows b rs) → (word_round s ≡ no_word) × ArrowsFit s b rs
unfolding has_arrow word_round is_whole
fits_arrows whole b rs (inl none) = (refl, inl none)
fits_arrows whole b rs (inr one) = (refl, inr (refl, one))
fits_arrows part b rs f = (refl, inl f)
fits_arrows (beside word) b rs f = true_not_false f.1

one_parts : (b c : BoundTree) (l r : Option MultiplicityWord) (p : Place) → is_one_arrow (bound_arrows b (more_arrows l p r c no_arrows)) ≡ true → (has_arrow b ≡ false) × (has_arrow c ≡ false)
unfolding is_one_arrow
one_parts b c l r p e = (is_not (has_arrow b) (and_left (not (has_arrow b)) (not (has_arrow c)) e), is_not (has_arrow c) (and_right (not (has_arrow b)) (not (has_arrow c)) e))

one_alone : (b c : BoundTree) (l r : Option MultiplicityWord) (p : Place) (rs : BoundArrows) → is_one_arrow (bound_arrows b (more_arrows l p r c rs)) ≡ true → rs ≡ no_arrows
unfolding is_one_arrow
one_alone b c l r p no_arrows e = refl
one_alone b c l r p (more_arrows m q s d rs) e = true_not_false (sym e)

-- the parts of a bound of arrows without words
record Wordless (b : BoundTree) (l r : Option MultiplicityWord) (c : BoundTree) (rs : BoundArrows) : Type 0 where
  first : has_word b ≡ false
  left : l ≡ no_mark
  right : r ≡ no_mark
  side : has_word c ≡ false
  others : arrows_have_word rs ≡ false

arrow_wordless : (l r : Option MultiplicityWord) (p : Place) (c : BoundTree) (rs : BoundArrows) → arrows_have_word (more_arrows l p r c rs) ≡ false → (l ≡ no_mark) × (r ≡ no_mark) × (has_word c ≡ false) × (arrows_have_word rs ≡ false)
unfolding arrows_have_word
arrow_wordless l r p c rs e =
    let k1 = both_false (is_word l) (is_word r || (has_word c || arrows_have_word rs)) e in
    let k2 = both_false (is_word r) (has_word c || arrows_have_word rs) k1.1 in
    let k3 = both_false (has_word c) (arrows_have_word rs) k2.1 in
    (is_word_none l k1.0, is_word_none r k2.0, k3.0, k3.1)

wordless : (b : BoundTree) (l r : Option MultiplicityWord) (p : Place) (c : BoundTree) (rs : BoundArrows) → has_word (bound_arrows b (more_arrows l p r c rs)) ≡ false → Wordless b l r c rs
unfolding has_word
wordless b l r p c rs e =
    let k = both_false (has_word b) (arrows_have_word (more_arrows l p r c rs)) e in
    let m = arrow_wordless l r p c rs k.1 in
    record { first = k.0; left = m.0; right = m.1; side = m.2; others = m.3 }

-- the word beside an arrow passes
here_passes : (strict : Bool) (s : Standing) (h : Bool) (ts : List ParserToken) → (strict ≡ true → (word_beside ts ≡ no_word) ⊎ ((is_whole s ≡ true) × (h ≡ false))) → (if is_whole s && not h then Ok tt else refuse_word strict (word_beside ts)) ≡ Ok tt
here_passes false s h ts may = elim (either (is_whole s && not h)) [ inl is ↦ rw is refl | inr none ↦ rw none (refuse_none false (word_beside ts) (λ is. true_not_false (sym is))) ]
here_passes true s h ts may =
    elim (may refl) [
      | inl none ↦ elim (either (is_whole s && not h)) [ inl is ↦ rw is refl | inr other ↦ rw other (refuse_none true (word_beside ts) (λ _. none)) ]
      | inr both ↦ rw (both.0, both.1) refl
    ]

-- an arrow is read behind a side that is marked so and may have arrows
arrow_back : (strict : Bool) (j : BoundReader) (s : Standing) (marked : Option (List ParserToken)) (h : Bool) (l r : Option MultiplicityWord) (p : Place) (c : BoundTree) (ts us vs ws rest : List ParserToken)
    → mark l ts us → sign class.Arrow p us vs → mark r vs ws → is_mark ws ≡ false → (strict ≡ true → word_round s ≡ no_word) → (strict ≡ true → marked ≡ no_word) → (strict ≡ true → (word_beside ts ≡ no_word) ⊎ ((is_whole s ≡ true) × (h ≡ false)))
    → Back (standing_beside (word_beside ts)) c (side_over j (standing_beside (word_beside ts))) ws rest
    → bound_arrow_over strict j s marked h ts ≡ Ok (record { left = l; place = p; right = r; side = c }, rest)
unfolding bound_arrow_over is_mark is_class
arrow_back strict j s marked h l r p c ts us vs ws rest f t g none round front here k =
    let m = marks class.Arrow p us vs t in
    let no_more : is_mark us ≡ false = rw (differs class.Arrow class.Set us vs m refl, differs class.Arrow class.One us vs m refl, differs class.Arrow class.Lone us vs m refl, differs class.Arrow class.Some us vs m refl) refl in
    let left = word_full l ts us f no_more in
    let right = word_full r vs ws g none in
    let e = k.reads in
    rw (left.1, expect_full class.Arrow p us vs t, refuse_none strict (word_round s) round, refuse_none strict marked front, here_passes strict s h ts here, right.1, e, left.0, right.0, k.bound) refl

-- ---- unions

union_first : (s : Standing) (b : BoundTree) (us : BoundUnions) → Fits s (bound_union b us) → Fits s b × (has_word b ≡ false)
unfolding has_word has_arrow is_one_arrow
union_first whole b us (inl none) = let k = both_false (has_word b) (unions_have_word us) none in (inl k.0, k.0)
union_first whole b us (inr one) = true_not_false (sym one)
union_first part b us f = let k = both_false (has_word b) (unions_have_word us) f in (k.0, k.0)
union_first (beside word) b us f = let k = both_false (has_word b) (unions_have_word us) f.0 in ((k.0, (both_false (has_arrow b) (unions_have_arrow us) f.1).0), k.0)

-- the operands of a union, where it stands so
abbrev OperandsFit : Standing → BoundUnions → Type 0
OperandsFit whole us = unions_have_word us ≡ false
OperandsFit part us = unions_have_word us ≡ false
OperandsFit (beside word) us = (unions_have_word us ≡ false) × (unions_have_arrow us ≡ false)

union_others : (s : Standing) (b : BoundTree) (us : BoundUnions) → Fits s (bound_union b us) → OperandsFit s us
unfolding has_word has_arrow is_one_arrow
union_others whole b us (inl none) = (both_false (has_word b) (unions_have_word us) none).1
union_others whole b us (inr one) = true_not_false (sym one)
union_others part b us f = (both_false (has_word b) (unions_have_word us) f).1
union_others (beside word) b us f = ((both_false (has_word b) (unions_have_word us) f.0).1, (both_false (has_arrow b) (unions_have_arrow us) f.1).1)

operand_fits : (s : Standing) (p : Place) (b : BoundTree) (us : BoundUnions) → OperandsFit s (more_unions p b us) → Fits (operand_in s) b × OperandsFit s us
unfolding unions_have_word unions_have_arrow operand_in
operand_fits whole p b us f = let k = both_false (has_word b) (unions_have_word us) f in (k.0, k.1)
operand_fits part p b us f = let k = both_false (has_word b) (unions_have_word us) f in (k.0, k.1)
operand_fits (beside word) p b us f =
    let k = both_false (has_word b) (unions_have_word us) f.0 in
    let m = both_false (has_arrow b) (unions_have_arrow us) f.1 in
    ((k.0, m.0), (k.1, m.1))

operand_back : (strict : Bool) (j : BoundReader) (s : Standing) (p : Place) (b : BoundTree) (ts us rest : List ParserToken) → sign class.Plus p ts us → (k : Back (operand_in s) b (bound_arrows_over strict j (operand_in s)) us rest) → operand_over strict j s ts ≡ Ok ((p, k.read), rest)
unfolding operand_over
operand_back strict j s p b ts us rest o k =
    let m = marks class.Plus p ts us o in
    let e = k.reads in
    rw (after_is class.Plus ts us m, e, place_is class.Plus p ts us o) refl

-- the operands that are read, with their trees
record Operands (strict : Bool) (j : BoundReader) (s : Standing) (us : BoundUnions) (ts rest : List ParserToken) : Type 0 where
  read : List (Place × Bounded)
  trees : unions_of (map (λ x. (x.0, x.1.bound)) read) ≡ us
  arrows : list_any (λ x. x.1.has_arrow) read ≡ unions_have_arrow us
  goes : each (Goes (next_is class.Plus) (operand_over strict j s)) read ts rest

union_back : (strict : Bool) (j : BoundReader) (s : Standing) (b : BoundTree) (us : BoundUnions) (ts vs rest : List ParserToken) → (strict ≡ true → has_word b ≡ false) → (k : Back s b (bound_arrows_over strict j s) ts vs) → next_is class.Plus vs ≡ true → (o : Operands strict j s us vs rest) → next_is class.Plus rest ≡ false
    → Back s (bound_union b us) (bound_over strict j s) ts rest
unfolding bound_over has_arrow
union_back strict j s b us ts vs rest none k goes o ends =
    let e = k.reads in
    let more = many_full (next_is class.Plus) (operand_over strict j s) o.read vs rest o.goes ends in
    record {
      read = record { bound = bound_union k.read.bound (unions_of (map (λ x. (x.0, x.1.bound)) o.read)); marked = None; has_arrow = k.read.has_arrow || list_any (λ x. x.1.has_arrow) o.read };
      bound = rw (k.bound, o.trees) refl;
      arrows = rw (k.arrows, o.arrows) refl;
      marked = λ _. refl;
      reads = rw (e, goes, refuse_none strict k.read.marked (λ is. k.marked (none is)), more) refl;
    }

-- the arrows that are read behind the first, with their trees
record Arrows (strict : Bool) (j : BoundReader) (s : Standing) (w : Option (List ParserToken)) (rs : BoundArrows) (ts rest : List ParserToken) : Type 0 where
  read : List BoundArrowTree
  trees : arrows_of read ≡ rs
  goes : each (Goes begins_bound_arrow (bound_arrow_over strict j s w true)) read ts rest

arrows_back : (strict : Bool) (j : BoundReader) (s : Standing) (b : BoundTree) (a : BoundArrowTree) (rs : BoundArrows) (ts us vs rest : List ParserToken) → (k : Back s b (side_over j s) ts us) → begins_bound_arrow us ≡ true
    → bound_arrow_over strict j s k.read.marked k.read.has_arrow us ≡ Ok (a, vs) → (o : Arrows strict j s (word_beside us) rs vs rest) → begins_bound_arrow rest ≡ false
    → (has_word (bound_arrows b (more_arrows a.left a.place a.right a.side rs)) ≡ false → word_beside us ≡ no_word) → Back s (bound_arrows b (more_arrows a.left a.place a.right a.side rs)) (bound_arrows_over strict j s) ts rest
unfolding bound_arrows_over more_bound_arrows has_arrow
arrows_back strict j s b a rs ts us vs rest k goes first o ends none =
    let e = k.reads in
    let more = many_full begins_bound_arrow (bound_arrow_over strict j s (word_beside us) true) o.read vs rest o.goes ends in
    record {
      read = record { bound = bound_arrows k.read.bound (arrows_of (a ∷ o.read)); marked = word_beside us; has_arrow = true };
      bound = rw (k.bound, o.trees) refl;
      arrows = refl;
      marked = none;
      reads = rw (e, goes, first, more) refl;
    }

-- ---- what may stand where, part by part

bracketed_fits : (s : Standing) (p : Place) (b : BoundTree) → Fits s (bound_bracketed p b) → Fits s b
unfolding has_word has_arrow is_one_arrow
bracketed_fits whole p b f = f
bracketed_fits part p b f = f
bracketed_fits (beside word) p b f = f

one_first : (b : BoundTree) (rs : BoundArrows) → is_one_arrow (bound_arrows b rs) ≡ true → has_arrow b ≡ false
unfolding is_one_arrow
one_first b no_arrows e = true_not_false (sym e)
one_first b (more_arrows l p r c no_arrows) e = is_not (has_arrow b) (and_left (not (has_arrow b)) (not (has_arrow c)) e)
one_first b (more_arrows l p r c (more_arrows m q t d rs)) e = true_not_false (sym e)

arrows_first : (s : Standing) (b : BoundTree) (rs : BoundArrows) → Fits s (bound_arrows b rs) → Fits s b
unfolding has_word has_arrow
arrows_first whole b rs (inl none) = inl (both_false (has_word b) (arrows_have_word rs) none).0
arrows_first whole b rs (inr one) = inl (no_arrow_no_word b (one_first b rs one))
arrows_first part b rs f = (both_false (has_word b) (arrows_have_word rs) f).0
arrows_first (beside word) b rs f = true_not_false f.1

beside_fits : (w : Option (List ParserToken)) (c : BoundTree) → has_word c ≡ false → has_arrow c ≡ false → Fits (standing_beside w) c
unfolding standing_beside
beside_fits None c e f = e
beside_fits (Some word) c e f = (e, f)

part_fits : (w : Option (List ParserToken)) (c : BoundTree) → w ≡ no_word → has_word c ≡ false → Fits (standing_beside w) c
unfolding standing_beside
part_fits None c none e = e
part_fits (Some word) c none e = some_not_none word none

-- ---- tokens

bound_closed : (l : ℕ) (ts rest : List ParserToken) → mark_of class.RightParen ts rest → BoundEnds l ts
unfolding begins_bound_arrow is_mark is_class
bound_closed l ts rest m = record {
  plus = λ _. differs class.RightParen class.Plus ts rest m refl;
  arrow = λ _. rw (differs class.RightParen class.Arrow ts rest m refl, differs class.RightParen class.Set ts rest m refl, differs class.RightParen class.One ts rest m refl, differs class.RightParen class.Lone ts rest m refl, differs class.RightParen class.Some ts rest m refl) refl;
}

plus_ends : (p : Place) (ts rest : List ParserToken) → sign class.Plus p ts rest → BoundEnds 1 ts
unfolding begins_bound_arrow is_mark is_class
plus_ends p ts rest s =
    let m = marks class.Plus p ts rest s in
    record {
      plus = λ h. absurd (omega (arith, h));
      arrow = λ _. rw (differs class.Plus class.Arrow ts rest m refl, differs class.Plus class.Set ts rest m refl, differs class.Plus class.One ts rest m refl, differs class.Plus class.Lone ts rest m refl, differs class.Plus class.Some ts rest m refl) refl;
    }

side_ends : (ts : List ParserToken) → BoundEnds 2 ts
side_ends ts = record { plus = λ h. absurd (omega (arith, h)); arrow = λ h. absurd (omega (arith, h)) }

unions_start : (us : BoundUnions) (ts rest : List ParserToken) → IsTrue (has_unions us) → spells_unions us ts rest → (next_is class.Plus ts ≡ true) × BoundEnds 1 ts
unfolding spells_unions
unions_start no_unions ts rest is s = true_not_false (sym is)
unions_start (more_unions p b us) ts rest is s = (is_next class.Plus ts s.0 (marks class.Plus p ts s.0 s.1), plus_ends p ts s.0 s.1)

unions_end : (us : BoundUnions) (ts rest : List ParserToken) → spells_unions us ts rest → BoundEnds 1 rest → BoundEnds 1 ts
unfolding spells_unions
unions_end no_unions ts rest s e = subst (λ us. BoundEnds 1 us) (sym s) e
unions_end (more_unions p b us) ts rest s e = plus_ends p ts s.0 s.1

side_first : (c : BoundTree) (ts rest : List ParserToken) → spells_bound c ts rest → 2 ≤ level_of_bound c → is_mark ts ≡ false
unfolding spells_bound is_mark is_class
side_first (bound_named n) ts rest s h =
    let m : mark_of class.Name ts rest = (s.0, s.1, s.2) in
    rw (differs class.Name class.Set ts rest m refl, differs class.Name class.One ts rest m refl, differs class.Name class.Lone ts rest m refl, differs class.Name class.Some ts rest m refl) refl
side_first (bound_bracketed p b) ts rest s h =
    let m = marks class.LeftParen p ts s.0 s.1 in
    rw (differs class.LeftParen class.Set ts s.0 m refl, differs class.LeftParen class.One ts s.0 m refl, differs class.LeftParen class.Lone ts s.0 m refl, differs class.LeftParen class.Some ts s.0 m refl) refl
side_first (bound_union b us) ts rest s h = absurd (omega (arith, h))
side_first (bound_arrows b rs) ts rest s h = absurd (omega (arith, h))

arrow_begins : (l : Option MultiplicityWord) (p : Place) (ts us vs : List ParserToken) → mark l ts us → sign class.Arrow p us vs → begins_bound_arrow ts ≡ true
unfolding begins_bound_arrow
arrow_begins None p ts us vs f s = rw (ap (next_is class.Arrow) f, is_next class.Arrow us vs (marks class.Arrow p us vs s)) refl
arrow_begins (Some w) p ts us vs f s = rw (multiplicity_full w.multiplicity ts us (f.0, f.1, f.2)).0 (or_true (next_is class.Arrow ts))

-- ---- the whole bound

module _ (strict : Bool) where
  arrow_short : (room : ℕ) (s : Standing) (w : Option (List ParserToken)) (ts : List ParserToken) (a : BoundArrowTree) (rest : List ParserToken) → bound_arrow_over strict (bound_within strict room) s w true ts ≡ Ok (a, rest) → length rest < length ts
  arrow_short room s w ts a rest e = (arrow_read strict room (bound_within strict room) (bounds_read strict room) s w true ts a rest e).shorter

  operand_short : (room : ℕ) (s : Standing) (ts : List ParserToken) (u : Place × Bounded) (rest : List ParserToken) → next_is class.Plus ts ≡ true → operand_over strict (bound_within strict room) s ts ≡ Ok (u, rest) → length rest < length ts
  operand_short room s ts u rest goes e = let f = operand_read strict room (bound_within strict room) (bounds_read strict room) s ts u rest goes e in omega (arith, ap length f.plus.1, f.found.shorter)

  -- the first arrow behind a side, where the others are read
  first_arrow : (room : ℕ) (s : Standing) (b : BoundTree) (l r : Option MultiplicityWord) (p : Place) (c : BoundTree) (rs : BoundArrows) (os ts us vs ws xs rest : List ParserToken)
      → (k : Back s b (side_over (bound_within strict room) s) os ts) → (strict ≡ true → Fits s (bound_arrows b (more_arrows l p r c rs))) → mark l ts us → sign class.Arrow p us vs → mark r vs ws → is_mark ws ≡ false
      → ((strict ≡ true → Fits (standing_beside (word_beside ts)) c) → Back (standing_beside (word_beside ts)) c (side_over (bound_within strict room) (standing_beside (word_beside ts))) ws xs)
      → ((strict ≡ true → has_arrows rs ≡ true → word_beside ts ≡ no_word) → (strict ≡ true → arrows_have_word rs ≡ false) → (strict ≡ true → word_round s ≡ no_word) → Arrows strict (bound_within strict room) s (word_beside ts) rs xs rest)
      → begins_bound_arrow rest ≡ false → Back s (bound_arrows b (more_arrows l p r c rs)) (bound_arrows_over strict (bound_within strict room) s) os rest
  unfolding arrows_have_word
  first_arrow room s b l r p c rs os ts us vs ws xs rest k fits f t g none side others ends =
      let silent : has_word (bound_arrows b (more_arrows l p r c rs)) ≡ false → word_beside ts ≡ no_word = λ e. let w = wordless b l r p c rs e in no_word_beside l r p ts us vs ws f t g none w.left w.right in
      let round : strict ≡ true → word_round s ≡ no_word = λ is. (fits_arrows s b (more_arrows l p r c rs) (fits is)).0 in
      let alone : is_one_arrow (bound_arrows b (more_arrows l p r c rs)) ≡ true → (has_arrow b ≡ false) × (has_arrow c ≡ false)
      = λ one. one_parts b c l r p (subst (λ zs. is_one_arrow (bound_arrows b (more_arrows l p r c zs)) ≡ true) (one_alone b c l r p rs one) one) in
      let side_fits : strict ≡ true → Fits (standing_beside (word_beside ts)) c = λ is. elim (fits_arrows s b (more_arrows l p r c rs) (fits is)).1 [
        | inl e ↦ part_fits (word_beside ts) c (silent e) (wordless b l r p c rs e).side
        | inr one ↦ (let q = alone one.1 in beside_fits (word_beside ts) c (no_arrow_no_word c q.1) q.1)
      ] in
      let front : strict ≡ true → k.read.marked ≡ no_word = λ is. elim (fits_arrows s b (more_arrows l p r c rs) (fits is)).1 [
        | inl e ↦ k.marked (wordless b l r p c rs e).first
        | inr one ↦ k.marked (no_arrow_no_word b (alone one.1).0)
      ] in
      let here : strict ≡ true → (word_beside ts ≡ no_word) ⊎ ((is_whole s ≡ true) × (k.read.has_arrow ≡ false)) = λ is. elim (fits_arrows s b (more_arrows l p r c rs) (fits is)).1 [
        | inl e ↦ inl (silent e)
        | inr one ↦ inr (one.0, k.arrows ∙ (alone one.1).0)
      ] in
      let none_behind : strict ≡ true → has_arrows rs ≡ true → word_beside ts ≡ no_word = λ is there. elim (fits_arrows s b (more_arrows l p r c rs) (fits is)).1 [
        | inl e ↦ silent e
        | inr one ↦ true_not_false (sym there ∙ ap has_arrows (one_alone b c l r p rs one.1))
      ] in
      let no_words_behind : strict ≡ true → arrows_have_word rs ≡ false = λ is. elim (fits_arrows s b (more_arrows l p r c rs) (fits is)).1 [
        | inl e ↦ (wordless b l r p c rs e).others
        | inr one ↦ ap arrows_have_word (one_alone b c l r p rs one.1)
      ] in
      let first = arrow_back strict (bound_within strict room) s k.read.marked k.read.has_arrow l r p c ts us vs ws xs f t g none round front here (side side_fits) in
      arrows_back strict (bound_within strict room) s b (record { left = l; place = p; right = r; side = c }) rs os ts xs rest k (arrow_begins l p ts us vs f t) first (others none_behind no_words_behind round) ends silent

  mutual
    unfolding spells_bound spells_unions spells_arrows depth_of_bound depth_of_unions depth_of_arrows bound_within unions_have_arrow arrows_have_word

    back : (b : BoundTree) (room : ℕ) (s : Standing) (l : ℕ) (ts rest : List ParserToken) → spells_bound b ts rest → depth_of_bound b < suc room → (strict ≡ true → Fits s b) → l ≤ level_of_bound b → BoundEnds l rest
        → Back s b (bound_reader strict (bound_within strict room) l s) ts rest
    back (bound_named n) room s l ts rest m d f less e = from_side strict (bound_within strict room) s (bound_named n) l ts rest e (named_back (bound_within strict room) s n ts rest m)
    back (bound_bracketed p b) zero s l ts rest m d f less e = absurd (omega (arith, d))
    back (bound_bracketed p b) (suc r) s l ts rest m d f less e =
        let k = back b r s 0 m.0 m.2.0 m.2.1 (omega (arith, d)) (λ is. bracketed_fits s p b (f is)) (omega arith) (bound_closed 0 m.2.0 rest m.2.2) in
        let inner : Back s b (bound_within strict (suc r) s) m.0 m.2.0 = record { read = k.read; bound = k.bound; arrows = k.arrows; marked = k.marked; reads = k.reads } in
        from_side strict (bound_within strict (suc r)) s (bound_bracketed p b) l ts rest e (bracketed_back (bound_within strict (suc r)) s p b ts m.0 m.2.0 rest m.1 inner m.2.2)
    back (bound_union b us) room s l ts rest m d f less e =
        let t = m.1 in
        let start = unions_start us t.0 rest m.0 t.2 in
        let k = back b room s 1 ts t.0 t.1.1 (omega (arith, d)) (λ is. (union_first s b us (f is)).0) t.1.0 start.1 in
        let o = back_unions us room s t.0 rest t.2 (omega (arith, d)) (λ is. union_others s b us (f is)) (record { plus = λ h. absurd (omega (arith, h)); arrow = λ h. e.arrow (omega (arith, less)) }) in
        from_union strict (bound_within strict room) s (bound_union b us) l ts rest less (union_back strict (bound_within strict room) s b us ts t.0 rest (λ is. (union_first s b us (f is)).1) k start.0 o (e.plus less))
    back (bound_arrows b rs) room s l ts rest m d f less e =
        let t = m.1 in
        let k = back b room s 2 ts t.0 t.1.1 (omega (arith, d)) (λ is. arrows_first s b rs (f is)) t.1.0 (side_ends t.0) in
        from_arrows strict (bound_within strict room) s (bound_arrows b rs) l ts rest less e ((back_arrows rs room s t.0 rest t.2 (omega (arith, d))).1 b ts m.0 k f (e.arrow less))

    back_unions : (us : BoundUnions) (room : ℕ) (s : Standing) (ts rest : List ParserToken) → spells_unions us ts rest → depth_of_unions us < suc room → (strict ≡ true → OperandsFit s us) → BoundEnds 1 rest → Operands strict (bound_within strict room) s us ts rest
    back_unions no_unions room s ts rest m d f e = record { read = []; trees = refl; arrows = refl; goes = m }
    back_unions (more_unions p b us) room s ts rest m d f e =
        let t = m.2 in
        let k = back b room (operand_in s) 1 m.0 t.0 t.1.1 (omega (arith, d)) (λ is. (operand_fits s p b us (f is)).0) t.1.0 (unions_end us t.0 rest t.2 e) in
        let o = back_unions us room s t.0 rest t.2 (omega (arith, d)) (λ is. (operand_fits s p b us (f is)).1) e in
        let goes = is_next class.Plus ts m.0 (marks class.Plus p ts m.0 m.1) in
        let read = operand_back strict (bound_within strict room) s p b ts m.0 t.0 m.1 k in
        record {
          read = (p, k.read) ∷ o.read;
          trees = rw (k.bound, o.trees) refl;
          arrows = rw (k.arrows, o.arrows) refl;
          goes = (t.0, (goes, read, operand_short room s ts (p, k.read) t.0 goes read), o.goes);
        }

    back_arrows : (rs : BoundArrows) (room : ℕ) (s : Standing) (ts rest : List ParserToken) → spells_arrows rs ts rest → depth_of_arrows rs < suc room
        → ((w : Option (List ParserToken)) → (strict ≡ true → has_arrows rs ≡ true → w ≡ no_word) → (strict ≡ true → arrows_have_word rs ≡ false) → (strict ≡ true → word_round s ≡ no_word) → Arrows strict (bound_within strict room) s w rs ts rest)
        × ((b : BoundTree) (os : List ParserToken) → IsTrue (has_arrows rs) → Back s b (side_over (bound_within strict room) s) os ts → (strict ≡ true → Fits s (bound_arrows b rs)) → begins_bound_arrow rest ≡ false
        → Back s (bound_arrows b rs) (bound_arrows_over strict (bound_within strict room) s) os rest)
    back_arrows no_arrows room s ts rest m d = (λ w none silent round. record { read = []; trees = refl; goes = m }, λ b os is k f e. true_not_false (sym is))
    back_arrows (more_arrows l p r c rs) room s ts rest m d =
        let t1 = m.2 in
        let t2 = t1.2 in
        let t3 = t2.2 in
        let none = side_first c t2.0 t3.0 t3.1.1 t3.1.0 in
        let side : (strict ≡ true → Fits (standing_beside (word_beside ts)) c) → Back (standing_beside (word_beside ts)) c (side_over (bound_within strict room) (standing_beside (word_beside ts))) t2.0 t3.0
        = λ f. back c room (standing_beside (word_beside ts)) 2 t2.0 t3.0 t3.1.1 (omega (arith, d)) f t3.1.0 (side_ends t3.0) in
        let more = back_arrows rs room s t3.0 rest t3.2 (omega (arith, d)) in (
          λ w front silent round.
              let parts : strict ≡ true → (l ≡ no_mark) × (r ≡ no_mark) × (has_word c ≡ false) × (arrows_have_word rs ≡ false) = λ is. arrow_wordless l r p c rs (silent is) in
              let quiet : strict ≡ true → word_beside ts ≡ no_word = λ is. let q = parts is in no_word_beside l r p ts m.0 t1.0 t2.0 m.1 t1.1 t2.1 none q.0 q.1 in
              let read = arrow_back strict (bound_within strict room) s w true l r p c ts m.0 t1.0 t2.0 t3.0 m.1 t1.1 t2.1 none round (λ is. front is refl) (λ is. inl (quiet is)) (side (λ is. part_fits (word_beside ts) c (quiet is) (parts is).2)) in
              let others = more.0 w (λ is there. front is refl) (λ is. (parts is).3) round in
              record {
                read = record { left = l; place = p; right = r; side = c } ∷ others.read;
                trees = ap (more_arrows l p r c) others.trees;
                goes = (t3.0, (arrow_begins l p ts m.0 t1.0 m.1 t1.1, read, arrow_short room s w ts (record { left = l; place = p; right = r; side = c }) t3.0 read), others.goes);
              },
          λ b os is k f e. first_arrow room s b l r p c rs os ts m.0 t1.0 t2.0 t3.0 rest k f m.1 t1.1 t2.1 none side (more.0 (word_beside ts)) e,
        )

fits_whole : (b : BoundTree) → is_plain_bound b ≡ true → Fits whole b
fits_whole b e =
    elim (either (has_word b)) [
      | inr none ↦ inl none
      | inl is ↦ inr (rw is at e)
    ]

-- a field's bound is read, where it has words only as the language takes them, and no arrow and no `+` follows
pub whole_back : (strict : Bool) (room : ℕ) (b : BoundTree) (ts rest : List ParserToken) → spells_bound b ts rest → depth_of_bound b < room → (strict ≡ true → is_plain_bound b ≡ true) → next_is class.Plus rest ≡ false → begins_bound_arrow rest ≡ false
    → (x : Bounded) × (x.bound ≡ b) × (bound_within strict room whole ts ≡ Ok (x, rest))
unfolding bound_within
whole_back strict zero b ts rest s d plain plus arrow = absurd (omega (arith, d))
whole_back strict (suc r) b ts rest s d plain plus arrow =
    let k = back strict b r whole 0 ts rest s d (λ is. fits_whole b (plain is)) (omega arith) (record { plus = λ _. plus; arrow = λ _. arrow }) in
    (k.read, k.bound, k.reads)
