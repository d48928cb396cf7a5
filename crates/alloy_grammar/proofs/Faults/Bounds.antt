-- Bounds of fields under two readers.
use Rattle.std.proofs.Common.{◌≡◌, inl, inr, ℕ, zero, suc, Bool, true, false, not, IsTrue, ◌&&◌, if◌then◌else◌, List, Option, Some, None, Result, Ok, Err, refl, sym, ap, arith}
use Rattle.alloy_syntax.specs.declared.class.Class.TheVariants as class
use Rattle.alloy_syntax.specs.declared.parser_token.ParserToken.{ParserToken}
use Rattle.std.proofs.lemmas.Bool.{or_parts}
use Rattle.alloy_syntax.specs.Readers.{ParseStopView, refused, next_is, after, expect, after_mark}
use Rattle.alloy_syntax.specs.Bounds.{Standing, BoundReader, is_whole, word_round, operand_in, standing_beside, word_beside, refuse_word, side_over, begins_bound_arrow, bound_arrow_over, more_bound_arrows, bound_arrows_over, operand_over, bound_over, begins_bound, bound_within}
use Rattle.alloy_grammar.proofs.Results.{either}
use Rattle.alloy_grammar.proofs.Faults.Follows.{Follows, same, excused, Relaxed, as_strict, relaxed, Roomier, less_room, onward, bind, choice, many_follows}
use Rattle.alloy_grammar.proofs.Faults.Nodes.{Alike}
use Rattle.alloy_grammar.proofs.Faults.Rooms.{name_refuses}

abbrev pub BoundBelow : Bool → Bool → BoundReader → BoundReader → Type 0
BoundBelow deep forms i j = (s : Standing) → Alike deep forms (i s) (j s)

relaxed_word : {deep forms : Bool} → IsTrue forms → (w : Option (List ParserToken)) → Follows deep forms (refuse_word true w) (refuse_word false w)
relaxed_word f None = same refl
relaxed_word f (Some word) = excused _ refl f

word_follows : {deep forms : Bool} (s t : Bool) → Relaxed forms s t → (w : Option (List ParserToken)) → Follows deep forms (refuse_word s w) (refuse_word t w)
word_follows s t (as_strict e) w = same (ap (λ (b : Bool). refuse_word b w) e)
word_follows s t (relaxed e f g) w = rw (e, f) (relaxed_word g w)

abbrev word_here : Bool → Standing → Bool → List ParserToken → Result (Unit {0}) ParseStopView
word_here strict standing has_arrow ts = if is_whole standing && not has_arrow then Ok tt else refuse_word strict (word_beside ts)

module _ (deep forms s t : Bool) (r : Relaxed forms s t) (i j : BoundReader) (below : BoundBelow deep forms i j) where
  side_follows : BoundBelow deep forms (side_over i) (side_over j)
  unfolding side_over
  side_follows standing ts = choice (next_is class.LeftParen ts) (bind (below standing (after ts)) (λ x. same refl)) (same refl)

  here_follows : (standing : Standing) (b : Bool) (ts : List ParserToken) → Follows deep forms (word_here s standing b ts) (word_here t standing b ts)
  here_follows standing b ts = choice (is_whole standing && not b) (same refl) (word_follows s t r (word_beside ts))

  arrow_follows : (standing : Standing) (w : Option (List ParserToken)) (b : Bool) → Alike deep forms (bound_arrow_over s i standing w b) (bound_arrow_over t j standing w b)
  unfolding bound_arrow_over
  arrow_follows standing w b ts =
      onward (expect class.Arrow (after_mark ts)) (λ a. bind (word_follows s t r (word_round standing)) (λ _. bind (word_follows s t r w) (λ _.
      bind (here_follows standing b ts) (λ _.
      bind (side_follows (standing_beside (word_beside ts)) (after_mark a.1)) (λ x. same refl)))))

  arrows_follow : BoundBelow deep forms (bound_arrows_over s i) (bound_arrows_over t j)
  unfolding bound_arrows_over more_bound_arrows
  arrows_follow standing ts = bind (side_follows standing ts) (λ x. choice (begins_bound_arrow x.1)
      (bind (arrow_follows standing x.0.marked x.0.has_arrow x.1) (λ a.
      bind (bind (many_follows begins_bound_arrow (bound_arrow_over s i standing (word_beside x.1) true) (bound_arrow_over t j standing (word_beside x.1) true) (arrow_follows standing (word_beside x.1) true) a.1) (λ as'. same refl)) (λ m. same refl)))
      (same refl))

  operand_follows : (standing : Standing) → Alike deep forms (operand_over s i standing) (operand_over t j standing)
  unfolding operand_over
  operand_follows standing ts = bind (arrows_follow (operand_in standing) (after ts)) (λ x. same refl)

  pub bound_follows : BoundBelow deep forms (bound_over s i) (bound_over t j)
  unfolding bound_over
  bound_follows standing ts = bind (arrows_follow standing ts) (λ x. choice (next_is class.Plus x.1)
      (bind (word_follows s t r x.0.marked) (λ _. bind (many_follows (next_is class.Plus) (operand_over s i standing) (operand_over t j standing) (operand_follows standing) x.1) (λ m. same refl)))
      (same refl))

pub bound_refuses : (t : Bool) (j : BoundReader) (standing : Standing) (ts : List ParserToken) → begins_bound ts ≡ false → bound_over t j standing ts ≡ Err (refused ts)
unfolding begins_bound bound_over bound_arrows_over side_over
bound_refuses t j standing ts e = let p = or_parts (next_is class.LeftParen ts) (next_is class.Name ts) e in rw (p.0, name_refuses ts p.1) refl

pub bound_within_follows : (deep forms s t : Bool) → Relaxed forms s t → (m n : ℕ) → Roomier deep m n → BoundBelow deep forms (bound_within s m) (bound_within t n)
unfolding bound_within
bound_within_follows deep forms s t r zero zero room standing ts = same refl
bound_within_follows deep forms s t r zero (suc n) room standing ts =
    elim room.1 [
      | inr e ↦ absurd (omega (arith, e))
      | inl deeper ↦ elim (either (begins_bound ts)) [
        | inl begun ↦ rw begun (excused _ refl deeper)
        | inr none ↦ rw none (same (sym (bound_refuses t (bound_within t n) standing ts none)))
      ]
    ]
bound_within_follows deep forms s t r (suc m) zero room standing ts = absurd (omega (arith, room.0))
bound_within_follows deep forms s t r (suc m) (suc n) room standing ts =
    bound_follows deep forms s t r (bound_within s m) (bound_within t n) (bound_within_follows deep forms s t r m n (less_room deep m n room)) standing ts
