-- Bounds of two lists that are one up to a seam, where words may stand anywhere beside arrows.
use Rattle.std.proofs.Common.{◌≡◌, inl, inr, ℕ, zero, suc, Bool, true, false, not, ◌&&◌, ◌||◌, if◌then◌else◌, List, [], ◌∷◌, Option, Some, None, Result, Ok, Err, refl}
use Rattle.alloy_syntax.specs.declared.class.Class.TheVariants as class
use Rattle.alloy_syntax.specs.declared.reading.Around.TheVariants as around
use Rattle.alloy_syntax.specs.declared.parser_token.ParserToken.{ParserToken}
use Rattle.alloy_syntax.specs.Tree.{BoundArrowTree}
use Rattle.alloy_syntax.specs.Readers.{ParseStopView, refused, too_deep, Parser, ◌>>=◌, next_is, after, expect, is_mark, mark_at, after_mark, many}
use Rattle.alloy_syntax.specs.Bounds.{Standing, BoundReader, is_whole, word_round, operand_in, standing_beside, word_beside, refuse_word, side_over, begins_bound_arrow, bound_arrow_over, more_bound_arrows, bound_arrows_over, operand_over, bound_over, begins_bound, bound_within}
use Rattle.alloy_grammar.proofs.Results.{either}
use Rattle.alloy_grammar.proofs.Lists.{Shortens}
use Rattle.alloy_grammar.proofs.Faults.LastTokens.{LeavesLast, Lands, Keeps, read, stops, all_last, after_last, after_mark_last, among_then, among_choice, expect_lands, spelled_lands, many_lands}
use Rattle.alloy_grammar.proofs.Refusals.SeamedLists.{Seam, At, near, past, out, ended, Out, Law, landed, stay, stay_all, then_out, choose, at_after, short_behind, many_free, sees_class}
use Rattle.alloy_grammar.proofs.Refusals.Tests.{sees_bound_arrow}
use Rattle.alloy_grammar.proofs.Refusals.Nodes.{expect_law, name_law, mark_law}

-- a word passes, where reading isn't strict
pub word_passes : (w : Option (List ParserToken)) → refuse_word false w ≡ Ok tt
word_passes None = refl
word_passes (Some word) = refl

here_passes : (b : Bool) (w : Option (List ParserToken)) → (if b then Ok tt else refuse_word false w) ≡ Ok tt
here_passes true w = refl
here_passes false w = word_passes w

-- alike, wherever the two bounds stand
abbrev pub BoundLaw : Seam → BoundReader → Type 0
BoundLaw s j = (p q : Standing) → Law s around.Parens (j p) (j q)

-- what is read lands among the tokens, wherever the bound stands
abbrev pub BoundsLand : BoundReader → Type 0
BoundsLand j = (p : Standing) (base : List ParserToken) → Keeps base (j p)

or_none : (b : Bool) → (b || false) ≡ true → b ≡ true
or_none true e = refl
or_none false e = e

arrow_taken : (t : ParserToken) (ts : List ParserToken) → next_is class.Arrow (t ∷ ts) ≡ true → expect class.Arrow (t ∷ ts) ≡ Ok (t.place, ts)
unfolding expect next_is
arrow_taken t ts e = rw e refl

module _ (j : BoundReader) (land : BoundsLand j) where
  pub side_land : BoundsLand (side_over j)
  unfolding side_over
  side_land p base ts e =
      among_choice (next_is class.LeftParen ts)
      (among_then (land p base (after ts) (after_last base ts e)) (λ x f. among_then (expect_lands base class.RightParen x.1 f) (λ c g. read _ refl g)))
      (among_then (spelled_lands base class.Name ts e) (λ x f. read _ refl f))

  -- without the words that are refused only where reading is strict
  abbrev pub plain_arrow : Standing → Parser BoundArrowTree
  plain_arrow p ts = expect class.Arrow (after_mark ts) >>= λ arrow. side_over j p (after_mark arrow.1) >>= λ side. Ok (record { left = mark_at ts; place = arrow.0; right = mark_at arrow.1; side = side.0.bound }, side.1)

  pub arrow_is : (p : Standing) (w : Option (List ParserToken)) (b : Bool) (ts : List ParserToken) → bound_arrow_over false j p w b ts ≡ plain_arrow (standing_beside (word_beside ts)) ts
  unfolding bound_arrow_over
  arrow_is p w b ts = rw (word_passes (word_round p), word_passes w, here_passes (is_whole p && not b) (word_beside ts)) refl

  none_begins : begins_bound_arrow [] ≡ false
  unfolding begins_bound_arrow is_mark next_is
  none_begins = refl

  plain_from : (p : Standing) (t : ParserToken) (ts : List ParserToken) → begins_bound_arrow (t ∷ ts) ≡ true → Lands ts (plain_arrow p (t ∷ ts))
  unfolding begins_bound_arrow after_mark
  plain_from p t ts is =
      elim (either (is_mark (t ∷ ts))) [
        | inl mark ↦ rw mark (among_then (expect_lands ts class.Arrow ts (all_last ts)) (λ a e. among_then (side_land p ts (after_mark a.1) (after_mark_last ts a.1 e)) (λ x f. read _ refl f)))
        | inr none ↦ (
            let arrow : next_is class.Arrow (t ∷ ts) ≡ true = or_none (next_is class.Arrow (t ∷ ts)) (rw none at is) in
            rw (none, arrow_taken t ts arrow) (among_then (side_land p ts (after_mark ts) (after_mark_last ts ts (all_last ts))) (λ x f. read _ refl f)))
      ]

  arrow_short : (p : Standing) (w : Option (List ParserToken)) (b : Bool) → Shortens begins_bound_arrow (bound_arrow_over false j p w b)
  arrow_short p w b = short_behind begins_bound_arrow (bound_arrow_over false j p w b) none_begins (λ t ts is. inl (rw (arrow_is p w b (t ∷ ts)) (plain_from (standing_beside (word_beside (t ∷ ts))) t ts is)))

  pub arrow_land : (p : Standing) (w : Option (List ParserToken)) (b : Bool) (base : List ParserToken) → Keeps base (bound_arrow_over false j p w b)
  arrow_land p w b base ts e =
      rw (arrow_is p w b ts) (among_then (expect_lands base class.Arrow (after_mark ts) (after_mark_last base ts e)) (λ a f. among_then (side_land (standing_beside (word_beside ts)) base (after_mark a.1) (after_mark_last base a.1 f)) (λ x g. read _ refl g)))

  pub arrows_land : BoundsLand (bound_arrows_over false j)
  unfolding bound_arrows_over more_bound_arrows
  arrows_land p base ts e =
      among_then (side_land p base ts e) (λ x f. among_choice (begins_bound_arrow x.1)
      (among_then (arrow_land p x.0.marked x.0.has_arrow base x.1 f) (λ a g.
      among_then {P = LeavesLast {A = List BoundArrowTree} base} (among_then (many_lands base begins_bound_arrow (bound_arrow_over false j p (word_beside x.1) true) (arrow_land p (word_beside x.1) true base) a.1 g) (λ as' h. read _ refl h)) (λ m h. read _ refl h)))
      (read x refl f))

  pub operand_land : (p : Standing) (base : List ParserToken) → Keeps base (operand_over false j p)
  unfolding operand_over
  operand_land p base ts e = among_then (arrows_land (operand_in p) base (after ts) (after_last base ts e)) (λ x f. read _ refl f)

  none_adds : next_is class.Plus [] ≡ false
  unfolding next_is
  none_adds = refl

  operand_short : (p : Standing) → Shortens (next_is class.Plus) (operand_over false j p)
  unfolding operand_over
  operand_short p = short_behind (next_is class.Plus) (operand_over false j p) none_adds (λ t ts is. inl (among_then (arrows_land (operand_in p) ts ts (all_last ts)) (λ x f. read _ refl f)))

  pub bound_land : BoundsLand (bound_over false j)
  unfolding bound_over
  bound_land p base ts e =
      among_then (arrows_land p base ts e) (λ x f. among_choice (next_is class.Plus x.1)
      (rw (word_passes x.0.marked) (among_then (many_lands base (next_is class.Plus) (operand_over false j p) (operand_land p base) x.1 f) (λ m g. read _ refl g)))
      (read x refl f))

module _ (s : Seam) (j : BoundReader) (law : BoundLaw s j) (land : BoundsLand j) where
  side_law : BoundLaw s (side_over j)
  unfolding side_over
  side_law p q ts us at =
      choose (next_is class.LeftParen) (sees_class class.LeftParen) at
      (then_out at (at_after at _ _ (law p q)) (λ x y here. then_out here (expect_law s around.Parens class.RightParen x.1 y.1 here) (λ c d there. stay there)))
      (then_out at (name_law s around.Parens ts us at) (λ x y here. stay here))

  plain_law : (p q : Standing) → Law s around.Parens (plain_arrow j land p) (plain_arrow j land q)
  plain_law p q ts us at =
      then_out at (mark_law s at _ _ (expect_law s around.Parens class.Arrow)) (λ a b here. then_out here (mark_law s here _ _ (side_law p q)) (λ x y there. stay there))

  arrow_law : (p q : Standing) (w v : Option (List ParserToken)) (b c : Bool) → Law s around.Parens (bound_arrow_over false j p w b) (bound_arrow_over false j q v c)
  arrow_law p q w v b c ts us at = rw (arrow_is j land p w b ts, arrow_is j land q v c us) (plain_law (standing_beside (word_beside ts)) (standing_beside (word_beside us)) ts us at)

  more_law : (p q : Standing) (w v : Option (List ParserToken)) → Law s around.Parens (many begins_bound_arrow (bound_arrow_over false j p w true)) (many begins_bound_arrow (bound_arrow_over false j q v true))
  more_law p q w v = many_free s begins_bound_arrow (bound_arrow_over false j p w true) (bound_arrow_over false j q v true) sees_bound_arrow (arrow_short j land p w true) (arrow_law p q w v true true)

  arrows_law : BoundLaw s (bound_arrows_over false j)
  unfolding bound_arrows_over more_bound_arrows
  arrows_law p q ts us at =
      then_out at (side_law p q ts us at) (λ x y here. choose begins_bound_arrow sees_bound_arrow here
      (then_out here (arrow_law p q x.0.marked y.0.marked x.0.has_arrow y.0.has_arrow x.1 y.1 here) (λ a b there.
      then_out there (then_out there (more_law p q (word_beside x.1) (word_beside y.1) a.1 b.1 there) (λ as' bs end. stay end)) (λ m o end. stay end)))
      (stay_all x y here))

  operand_law : (p q : Standing) → Law s around.Parens (operand_over false j p) (operand_over false j q)
  unfolding operand_over
  operand_law p q ts us at = then_out at (at_after at _ _ (arrows_law (operand_in p) (operand_in q))) (λ x y here. stay here)

  words_pass : {A : Type 0} {ts us : List ParserToken} (w v : Option (List ParserToken)) (at : At s ts us) {a b : Result (A × List ParserToken) ParseStopView} → Out s around.Parens at a b → Out s around.Parens at (refuse_word false w >>= (λ _. a)) (refuse_word false v >>= (λ _. b))
  words_pass w v at h = rw (word_passes w, word_passes v) h

  pub bound_law : BoundLaw s (bound_over false j)
  unfolding bound_over
  bound_law p q ts us at =
      then_out at (arrows_law p q ts us at) (λ x y here. choose (next_is class.Plus) (sees_class class.Plus) here
      (words_pass x.0.marked y.0.marked here (then_out here (many_free s (next_is class.Plus) (operand_over false j p) (operand_over false j q) (sees_class class.Plus) (operand_short j land p) (operand_law p q) x.1 y.1 here) (λ m o there. stay there)))
      (stay_all x y here))

-- ---- brackets

bound_stops : (standing : Standing) (ts : List ParserToken) → (d : ParseStopView) × (bound_within false zero standing ts ≡ Err d)
unfolding bound_within
bound_stops standing ts = elim (either (begins_bound ts)) [ inl is ↦ (too_deep ts, rw is refl) | inr none ↦ (refused ts, rw none refl) ]

pub bounds_land : (room : ℕ) → BoundsLand (bound_within false room)
unfolding bound_within
bounds_land zero p base ts e = among_choice (begins_bound ts) (stops (too_deep ts) refl e) (stops (refused ts) refl e)
bounds_land (suc room) p base ts e = bound_land (bound_within false room) (bounds_land room) p base ts e

pub bounds_law : (s : Seam) (room : ℕ) → BoundLaw s (bound_within false room)
unfolding bound_within
bounds_law s zero p q ts us (near ws e f) = let d = bound_stops q us in out (ended d.0 d.1)
bounds_law s zero p q ts us (past last) = out (landed (bounds_land zero p s.later ts last))
bounds_law s (suc room) p q ts us at = bound_law s (bound_within false room) (bounds_law s room) (bounds_land room) p q ts us at
