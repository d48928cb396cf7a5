-- Bounds where more constructs may nest, and words may stand anywhere beside arrows: a word that is refused stands before the tokens
-- that are read, and reading that lets it pass stays behind it.
use Rattle.std.proofs.Common.{◌≡◌, ℕ, zero, suc, inl, inr, Bool, true, false, not, ◌&&◌, if◌then◌else◌, List, [], ◌∷◌, Option, Some, None, Result, Ok, refl, sym, subst, ◌∙◌, arith}
use Rattle.std.proofs.lemmas.Option.{same_Some}
use Rattle.alloy_lex.specs.declared.token.Place.{Place}
use Rattle.alloy_syntax.specs.declared.class.Class.TheVariants as class
use Rattle.alloy_syntax.specs.declared.reading.Form.TheVariants as form
use Rattle.alloy_syntax.specs.declared.parser_token.ParserToken.{ParserToken}
use Rattle.alloy_syntax.specs.Class.{is_class}
use Rattle.alloy_syntax.specs.Tree.{BoundArrowTree}
use Rattle.alloy_syntax.specs.Readers.{ParseStopView, refused, too_deep, unsupported, ◌>>=◌, next_is, after, expect, is_mark, mark_at, after_mark}
use Rattle.alloy_syntax.specs.Bounds.{Bounded, Standing, whole, part, beside, BoundReader, is_whole, word_round, operand_in, standing_beside, word_beside, refuse_word, side_over, begins_bound_arrow, bound_arrow_over, more_bound_arrows, bound_arrows_over, operand_over, bound_over, begins_bound, bound_within}
use Rattle.alloy_grammar.proofs.Results.{either, done_is, no_success}
use Rattle.alloy_grammar.specs.Faults.Stops.{AreLast}
use Rattle.alloy_grammar.proofs.Faults.LastTokens.{Among, LeavesLast, Lands, Keeps, read, stops, all_last, after_last, after_mark_last, among_then, among_choice, expect_lands, spelled_lands, many_lands}
use Rattle.alloy_grammar.proofs.Faults.Bounds.{bound_refuses}
use Rattle.alloy_grammar.proofs.Refusals.Bounds.{BoundsLand, side_land, plain_arrow, arrow_is, arrow_land, arrows_land, operand_land, word_passes, bound_land, bounds_land}
use Rattle.alloy_grammar.proofs.Refusals.TakenTokens.{bound_beyond}
use Rattle.alloy_grammar.proofs.Refusals.ShallowReadings.{calm, expect_calm, spelled_calm}
use Rattle.alloy_grammar.proofs.Refusals.Lasting.{Later, Lasts, Lasting, same, later, Room, less_room, no_room, among_known, among_read, both_read, lasts_on, lasts_on_known, lasts_known, lasts_then, lasts_choice, many_last}

-- ---- words that stand before tokens

-- the tokens are the last of those that the word begins, if there is one
abbrev pub Precedes : Option (List ParserToken) → List ParserToken → Type 0
Precedes w ts = (v : List ParserToken) → w ≡ Some v → AreLast v ts

none_precedes : (ts : List ParserToken) → Precedes None ts
none_precedes ts v e = absurd cc

operand_word : (p : Standing) → word_round (operand_in p) ≡ word_round p
unfolding operand_in word_round
operand_word whole = refl
operand_word part = refl
operand_word (beside word) = refl

side_word : (w : Option (List ParserToken)) → word_round (standing_beside w) ≡ w
unfolding standing_beside word_round
side_word None = refl
side_word (Some word) = refl

arrow_leaves : (ts : List ParserToken) (a : Place × List ParserToken) → expect class.Arrow ts ≡ Ok a → AreLast (after ts) a.1
unfolding expect
arrow_leaves [] a e = no_success (refused []) a e
arrow_leaves (t ∷ ts) a e =
    elim (either (is_class t.class class.Arrow)) [
      | inl is ↦ subst (λ (x : Place × List ParserToken). AreLast ts x.1) (done_is (t.place, ts) a (rw is at e)) (all_last ts)
      | inr none ↦ no_success (refused (t ∷ ts)) a (rw none at e)
    ]

-- behind the arrow, a word beside it stands before the tokens
beside_precedes : (ts : List ParserToken) (a : Place × List ParserToken) → expect class.Arrow (after_mark ts) ≡ Ok a → Precedes (word_beside ts) a.1
unfolding word_beside after_mark
beside_precedes ts a e v w =
    elim (either (is_mark ts)) [
      | inl mark ↦ (
          let here : ts ≡ v = same_Some ts v (rw mark at w) in
          subst (λ (us : List ParserToken). AreLast us a.1) here (among_read (expect_lands ts class.Arrow (after ts) (after_last ts ts (all_last ts))) (rw mark at e)))
      | inr none ↦ elim (either (is_mark (after ts))) [
        | inr neither ↦ none_precedes a.1 v (rw (none, neither) at w)
        | inl mark ↦ (
            let here : after ts ≡ v = same_Some (after ts) v (rw (none, mark) at w) in
            subst (λ (us : List ParserToken). AreLast us a.1) here (arrow_leaves ts a (rw none at e)))
      ]
    ]

-- ---- what stands behind a bound where words pass: its own word stands before it

abbrev Leaves : List ParserToken → Bounded × List ParserToken → Type 0
Leaves base x = AreLast base x.1 × Precedes x.0.marked x.1

abbrev ArrowLeaves : List ParserToken → Option (List ParserToken) → BoundArrowTree × List ParserToken → Type 0
ArrowLeaves base w x = AreLast base x.1 × Precedes w x.1

abbrev BoundsMark : BoundReader → Type 0
BoundsMark j = (p : Standing) (base ts : List ParserToken) → AreLast base ts → Among base (Leaves base) (j p ts)

module _ (j : BoundReader) (land : BoundsLand j) (marks : BoundsMark j) where
  side_marks : BoundsMark (side_over j)
  unfolding side_over
  side_marks p base ts e =
      among_choice (next_is class.LeftParen ts)
      (among_then (marks p base (after ts) (after_last base ts e)) (λ x f. among_known (expect_lands base class.RightParen x.1 f.0) (λ c k g. read _ refl (g, λ v w. among_read (expect_lands v class.RightParen x.1 (f.1 v w)) k))))
      (among_then (spelled_lands base class.Name ts e) (λ x f. read _ refl (f, none_precedes x.1)))

  -- what is read behind an arrow, where words pass
  abbrev behind_arrow : List ParserToken → Place × List ParserToken → Result (BoundArrowTree × List ParserToken) ParseStopView
  behind_arrow ts a = side_over j (standing_beside (word_beside ts)) (after_mark a.1) >>= λ side. Ok (record { left = mark_at ts; place = a.0; right = mark_at a.1; side = side.0.bound }, side.1)

  behind_lands : (ts : List ParserToken) (a : Place × List ParserToken) (base : List ParserToken) → AreLast base a.1 → Lands base (behind_arrow ts a)
  behind_lands ts a base e = among_then (side_land j land (standing_beside (word_beside ts)) base (after_mark a.1) (after_mark_last base a.1 e)) (λ x f. read _ refl f)

  plain_marks : (base ts : List ParserToken) → AreLast base ts → Among base (ArrowLeaves base (word_beside ts)) (plain_arrow j land (standing_beside (word_beside ts)) ts)
  plain_marks base ts e =
      among_known (expect_lands base class.Arrow (after_mark ts) (after_mark_last base ts e)) (λ a k f. among_known (side_land j land (standing_beside (word_beside ts)) base (after_mark a.1) (after_mark_last base a.1 f)) (λ x l g.
      read _ refl (g, λ v w. among_read (side_land j land (standing_beside (word_beside ts)) v (after_mark a.1) (after_mark_last v a.1 (beside_precedes ts a k v w))) l)))

  arrow_marks : (p : Standing) (w : Option (List ParserToken)) (b : Bool) (base ts : List ParserToken) → AreLast base ts → Among base (ArrowLeaves base (word_beside ts)) (bound_arrow_over false j p w b ts)
  arrow_marks p w b base ts e = rw (arrow_is j land p w b ts) (plain_marks base ts e)

  more_land : (p : Standing) (w : Option (List ParserToken)) (first : BoundArrowTree) (base : List ParserToken) → Keeps base (more_bound_arrows false j p w first)
  unfolding more_bound_arrows
  more_land p w first base ts e = among_then (many_lands base begins_bound_arrow (bound_arrow_over false j p w true) (arrow_land j land p w true base) ts e) (λ as' f. read _ refl f)

  arrows_mark : BoundsMark (bound_arrows_over false j)
  unfolding bound_arrows_over
  arrows_mark p base ts e =
      among_then (side_marks p base ts e) (λ x f. among_choice (begins_bound_arrow x.1)
      (among_then (arrow_marks p x.0.marked x.0.has_arrow base x.1 f.0) (λ a g. among_known (more_land p (word_beside x.1) a.0 base a.1 g.0) (λ m k h.
      read _ refl (h, λ v w. among_read (more_land p (word_beside x.1) a.0 v a.1 (g.1 v w)) k))))
      (read x refl f))

  bound_marks : BoundsMark (bound_over false j)
  unfolding bound_over
  bound_marks p base ts e =
      among_then (arrows_mark p base ts e) (λ x f. among_choice (next_is class.Plus x.1)
      (rw (word_passes x.0.marked) (among_then (many_lands base (next_is class.Plus) (operand_over false j p) (operand_land j land p base) x.1 f.0) (λ m g. read _ refl (g, none_precedes m.1))))
      (read x refl f))

bounds_mark : (room : ℕ) → BoundsMark (bound_within false room)
unfolding bound_within
bounds_mark zero p base ts e = among_choice (begins_bound ts) (stops (too_deep ts) refl e) (stops (refused ts) refl e)
bounds_mark (suc room) p base ts e = bound_marks (bound_within false room) (bounds_land room) (bounds_mark room) p base ts e

-- ---- a word that is refused, and what is read where it passes

word_step : {A : Type 0} (strict deeper : Bool) (w : Option (List ParserToken)) {a b : Result (A × List ParserToken) ParseStopView} → ((v : List ParserToken) → w ≡ Some v → Lands v b) → Lasts strict deeper a b → Lasts strict deeper (refuse_word strict w >>= (λ _. a)) b
word_step strict deeper None lands h = h
word_step false deeper (Some v) lands h = h
word_step true deeper (Some v) lands h = later (unsupported form.ArrowMultiplicity v) refl (lands v refl)

here_step : {A : Type 0} (strict deeper test : Bool) (w : Option (List ParserToken)) {a b : Result (A × List ParserToken) ParseStopView} → ((v : List ParserToken) → w ≡ Some v → Lands v b) → Lasts strict deeper a b → Lasts strict deeper ((if test then Ok tt else refuse_word strict w) >>= (λ _. a)) b
here_step strict deeper true w lands h = h
here_step strict deeper false w lands h = word_step strict deeper w lands h

abbrev BoundLasting : Bool → Bool → BoundReader → BoundReader → Type 0
BoundLasting strict deeper i j = (p : Standing) (ts : List ParserToken) → Precedes (word_round p) ts → Lasts strict deeper (i p ts) (j p ts)

-- the words before the tokens: of the arrow round the bound, and of an arrow before this one
abbrev Words : Standing → Option (List ParserToken) → List ParserToken → Type 0
Words p w ts = Precedes (word_round p) ts × Precedes w ts

module _ (strict deeper : Bool) (i j : BoundReader) (below : BoundLasting strict deeper i j) (land : BoundsLand j) (marks : BoundsMark j) where
  side_lasts : BoundLasting strict deeper (side_over i) (side_over j)
  unfolding side_over
  side_lasts p ts round =
      lasts_choice (next_is class.LeftParen ts) (lasts_then (below p (after ts) (λ v w. after_last v ts (round v w))) (λ x. lasts_on (expect_calm class.RightParen x.1) (λ c. both_read)) (λ base x e. among_then (expect_lands base class.RightParen x.1 e) (λ c f. read _ refl f))) (lasts_on (spelled_calm class.Name ts) (λ x. both_read))

  arrow_lasts : (p : Standing) (w : Option (List ParserToken)) (b : Bool) (ts : List ParserToken) → Words p w ts → Lasts strict deeper (bound_arrow_over strict i p w b ts) (bound_arrow_over false j p w b ts)
  unfolding bound_arrow_over
  arrow_lasts p w b ts words =
      rw (arrow_is j land p w b ts)
      (lasts_on_known (expect_calm class.Arrow (after_mark ts)) (λ a k.
      let before : (v : List ParserToken) → AreLast v ts → Lands v (behind_arrow j land marks ts a) = λ v e. behind_lands j land marks ts a v (among_read (expect_lands v class.Arrow (after_mark ts) (after_mark_last v ts e)) k) in
      let here : Precedes (word_beside ts) a.1 = beside_precedes ts a k in
      word_step strict deeper (word_round p) (λ v e. before v (words.0 v e)) (word_step strict deeper w (λ v e. before v (words.1 v e))
      (here_step strict deeper (is_whole p && not b) (word_beside ts) (λ v e. behind_lands j land marks ts a v (here v e))
      (lasts_then (side_lasts (standing_beside (word_beside ts)) (after_mark a.1) (λ v e. after_mark_last v a.1 (here v (sym (side_word (word_beside ts)) ∙ e)))) (λ x. both_read) (λ base x e. read _ refl e))))))

  -- the words before an arrow stand before what follows it
  words_kept : (p : Standing) (w u : Option (List ParserToken)) (b : Bool) (ts : List ParserToken) (x : BoundArrowTree × List ParserToken) → bound_arrow_over false j p u b ts ≡ Ok x → Precedes w ts → Precedes w x.1
  words_kept p w u b ts x k words v e = among_read (arrow_land j land p u b v ts (words v e)) k

  more_last : (p : Standing) (w : Option (List ParserToken)) (first : BoundArrowTree) (ts : List ParserToken) → Words p w ts → Lasts strict deeper (more_bound_arrows strict i p w first ts) (more_bound_arrows false j p w first ts)
  unfolding more_bound_arrows
  more_last p w first ts words =
      lasts_then (many_last (Words p w) begins_bound_arrow (bound_arrow_over strict i p w true) (bound_arrow_over false j p w true) (arrow_land j land p w true)
      (λ us k x e. (words_kept p (word_round p) w true us x e k.0, words_kept p w w true us x e k.1)) (arrow_lasts p w true) ts words) (λ as'. both_read) (λ base as' e. read _ refl e)

  arrows_last : BoundLasting strict deeper (bound_arrows_over strict i) (bound_arrows_over false j)
  unfolding bound_arrows_over
  arrows_last p ts round =
      lasts_known (side_lasts p ts round) (λ x k. lasts_choice (begins_bound_arrow x.1)
      (let round_it : Precedes (word_round p) x.1 = λ v e. among_read (side_land j land p v ts (round v e)) k in
      lasts_known (arrow_lasts p x.0.marked x.0.has_arrow x.1 (round_it, (among_read (side_marks j land marks p ts ts (all_last ts)) k).1)) (λ a l.
      lasts_then (more_last p (word_beside x.1) a.0 a.1 (words_kept p (word_round p) x.0.marked x.0.has_arrow x.1 a l round_it, (among_read (arrow_marks j land marks p x.0.marked x.0.has_arrow x.1 x.1 (all_last x.1)) l).1)) (λ m. both_read) (λ base m e. read _ refl e))
      (λ base a e. among_then (more_land j land marks p (word_beside x.1) a.0 base a.1 e) (λ m f. read _ refl f)))
      both_read)
      (λ base x e. among_choice (begins_bound_arrow x.1)
      (among_then (arrow_land j land p x.0.marked x.0.has_arrow base x.1 e) (λ a f. among_then (more_land j land marks p (word_beside x.1) a.0 base a.1 f) (λ m g. read _ refl g)))
      (read x refl e))

  operand_lasts : (p : Standing) (ts : List ParserToken) → Precedes (word_round p) ts → Lasts strict deeper (operand_over strict i p ts) (operand_over false j p ts)
  unfolding operand_over
  operand_lasts p ts round =
      lasts_then (arrows_last (operand_in p) (after ts) (λ v e. after_last v ts (round v (sym (operand_word p) ∙ e)))) (λ x. both_read) (λ base x e. read _ refl e)

  bound_lasts : BoundLasting strict deeper (bound_over strict i) (bound_over false j)
  unfolding bound_over
  bound_lasts p ts round =
      lasts_known (arrows_last p ts round) (λ x k. lasts_choice (next_is class.Plus x.1)
      (rw (word_passes x.0.marked)
      (word_step strict deeper x.0.marked (λ v e. among_then (many_lands v (next_is class.Plus) (operand_over false j p) (operand_land j land p v) x.1 ((among_read (arrows_mark j land marks p ts ts (all_last ts)) k).1 v e)) (λ m f. read _ refl f))
      (lasts_then (many_last (Precedes (word_round p)) (next_is class.Plus) (operand_over strict i p) (operand_over false j p) (operand_land j land p)
      (λ us h y f v e. among_read (operand_land j land p v us (h v e)) f) (operand_lasts p) x.1 (λ v e. among_read (arrows_land j land p v ts (round v e)) k)) (λ m. both_read) (λ base m e. read _ refl e))))
      both_read)
      (λ base x e. among_choice (next_is class.Plus x.1)
      (rw (word_passes x.0.marked) (among_then (many_lands base (next_is class.Plus) (operand_over false j p) (operand_land j land p base) x.1 e) (λ m f. read _ refl f)))
      (read x refl e))

-- where the first may read nothing
none_bound : begins_bound [] ≡ false
unfolding begins_bound next_is
none_bound = refl

-- more room lets reading go on where it lay too deep
deep_lasts : (strict : Bool) (room : ℕ) (p : Standing) (ts : List ParserToken) → begins_bound ts ≡ true → Later strict LeavesLast (too_deep ts) (bound_over false (bound_within false room) p ts)
deep_lasts true room p ts begun = bound_land (bound_within false room) (bounds_land room) p ts ts (all_last ts)
deep_lasts false room p [] begun = let none = none_bound in absurd cc
deep_lasts false room p (t ∷ us) begun = (t, us, refl, bound_beyond t us (bound_within false room) (bounds_land room) p begun)

bounds_last : (strict deeper : Bool) (m n : ℕ) → Room deeper m n → BoundLasting strict deeper (bound_within strict m) (bound_within false n)
unfolding bound_within
bounds_last strict true zero zero room p ts round = absurd (omega (arith, room))
bounds_last strict false zero zero room p ts round = same refl (λ e. absurd cc)
bounds_last strict deeper zero (suc n) room p ts round =
    elim (either (begins_bound ts)) [
      | inl begun ↦ rw begun (later (too_deep ts) refl (deep_lasts strict n p ts begun))
      | inr none ↦ rw none (same (sym (bound_refuses false (bound_within false n) p ts none)) (λ e. calm refl))
    ]
bounds_last strict deeper (suc m) zero room p ts round = no_room deeper m room
bounds_last strict deeper (suc m) (suc n) room p ts round =
    bound_lasts strict deeper (bound_within strict m) (bound_within false n) (bounds_last strict deeper m n (less_room deeper m n room)) (bounds_land n) (bounds_mark n) p ts round

pub whole_lasts : (strict deeper : Bool) (m n : ℕ) → Room deeper m n → Lasting strict deeper (bound_within strict m whole) (bound_within false n whole)
unfolding word_round
whole_lasts strict deeper m n room ts = bounds_last strict deeper m n room whole ts (none_precedes ts)
