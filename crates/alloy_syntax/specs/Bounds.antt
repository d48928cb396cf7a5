-- How a field's bound is read. Multiplicity words may stand beside one arrow, which is the whole bound and whose sides
-- have no arrow.
use Rattle.std.specs.Prelude.{ℕ, zero, suc, List, [], ◌∷◌, Bool, true, false, not, ◌&&◌, ◌||◌, map, if◌then◌else◌, Option, Some, None, Result, Ok, Err}
use Rattle.std.specs.List.{list_any}
use Rattle.alloy_lex.specs.declared.token.Place.{Place}
use Rattle.alloy_syntax.specs.declared.class.Class.TheVariants as class
use Rattle.alloy_syntax.specs.declared.reading.Form.TheVariants as form
use Rattle.alloy_syntax.specs.declared.parser_token.ParserToken.{ParserToken}
use Rattle.alloy_syntax.specs.Tree.{BoundTree, bound_named, bound_bracketed, bound_union, bound_arrows, BoundArrowTree, unions_of, arrows_of}
use Rattle.alloy_syntax.specs.Readers.{ParseStopView, refused, too_deep, unsupported, Parser, ◌>>=◌, next_is, after, place_at, expect, name_at, is_mark, mark_at, after_mark, many, with_front}

-- what was read of a bound: its tree, the tokens from its first multiplicity word, and whether it has an arrow
pub record Bounded : Type 0 where
  pub bound : BoundTree
  pub marked : Option (List ParserToken)
  pub has_arrow : Bool

-- where a bound stands: it may yet be the whole one; it is a part; or it is a side of an arrow with words, the first of which these tokens begin with
pub data Standing : Type 0 where
  whole : Standing
  part : Standing
  beside : List ParserToken → Standing

-- a reader of what stands in brackets
abbrev pub BoundReader : Type 0
BoundReader = Standing → Parser Bounded

unfoldable pub is_whole : Standing → Bool
is_whole whole = true
is_whole part = false
is_whole (beside word) = false

-- the word of the arrow round a bound
unfoldable pub word_round : Standing → Option (List ParserToken)
word_round whole = None
word_round part = None
word_round (beside word) = Some word

-- where an operand of `+` stands
unfoldable pub operand_in : Standing → Standing
operand_in whole = part
operand_in part = part
operand_in (beside word) = beside word

-- where the right side of an arrow stands, the first of whose words these tokens begin with
unfoldable pub standing_beside : Option (List ParserToken) → Standing
standing_beside None = part
standing_beside (Some word) = beside word

-- the first multiplicity word beside an arrow: before it, or behind it
unfoldable pub word_beside : List ParserToken → Option (List ParserToken)
word_beside ts = if is_mark ts then Some ts else (if is_mark (after ts) then Some (after ts) else None)

-- a word that may not stand there, where reading is strict, as it is but in proofs
abbrev pub refuse_word : Bool → Option (List ParserToken) → Result (Unit {0}) ParseStopView
refuse_word strict None = Ok tt
refuse_word strict (Some word) = if strict then Err (unsupported form.ArrowMultiplicity word) else Ok tt

-- side = name | "(" bound ")"
unfoldable pub side_over : BoundReader → BoundReader
side_over j standing ts =
    if next_is class.LeftParen ts then j standing (after ts) >>= (λ x. expect class.RightParen x.1 >>= λ c. Ok (record { bound = bound_bracketed (place_at ts) x.0.bound; marked = x.0.marked; has_arrow = x.0.has_arrow }, c.1))
    else name_at ts >>= (λ x. Ok (record { bound = bound_named x.0; marked = None; has_arrow = false }, x.1))

-- an arrow, or a multiplicity word before one
unfoldable pub begins_bound_arrow : List ParserToken → Bool
begins_bound_arrow ts = next_is class.Arrow ts || is_mark ts

-- [ mult ] "->" [ mult ] side, behind a side with a word, or with an arrow
unfoldable pub bound_arrow_over : Bool → BoundReader → Standing → Option (List ParserToken) → Bool → Parser BoundArrowTree
bound_arrow_over strict j standing marked has_arrow ts = do
  arrow ← expect class.Arrow (after_mark ts)
  outside ← refuse_word strict (word_round standing)
  before ← refuse_word strict marked
  here ← if is_whole standing && not has_arrow then Ok tt else refuse_word strict (word_beside ts)
  side ← side_over j (standing_beside (word_beside ts)) (after_mark arrow.1)
  Ok (record { left = mark_at ts; place = arrow.0; right = mark_at arrow.1; side = side.0.bound }, side.1)

-- the first arrow and the others, behind which none may have a word; the first may have none either, if there are others
unfoldable pub more_bound_arrows : Bool → BoundReader → Standing → Option (List ParserToken) → BoundArrowTree → Parser (List BoundArrowTree)
more_bound_arrows strict j standing marked first ts = with_front (first ∷ []) (many begins_bound_arrow (bound_arrow_over strict j standing marked true) ts)

-- arrows = side { [ mult ] "->" [ mult ] side }
unfoldable pub bound_arrows_over : Bool → BoundReader → BoundReader
bound_arrows_over strict j standing ts = side_over j standing ts >>= λ first.
    if begins_bound_arrow first.1 then (do
      arrow ← bound_arrow_over strict j standing first.0.marked first.0.has_arrow first.1
      more ← more_bound_arrows strict j standing (word_beside first.1) arrow.0 arrow.1
      Ok (record { bound = bound_arrows first.0.bound (arrows_of more.0); marked = word_beside first.1; has_arrow = true }, more.1))
    else Ok first

unfoldable pub operand_over : Bool → BoundReader → Standing → Parser (Place × Bounded)
operand_over strict j standing ts = bound_arrows_over strict j (operand_in standing) (after ts) >>= λ x. Ok ((place_at ts, x.0), x.1)

-- bound = arrows { "+" arrows }
unfoldable pub bound_over : Bool → BoundReader → BoundReader
bound_over strict j standing ts = bound_arrows_over strict j standing ts >>= λ first.
    if next_is class.Plus first.1 then (do
      before ← refuse_word strict first.0.marked
      more ← many (next_is class.Plus) (operand_over strict j standing) first.1
      Ok (record { bound = bound_union first.0.bound (unions_of (map (λ x. (x.0, x.1.bound)) more.0)); marked = None; has_arrow = first.0.has_arrow || list_any (λ x. x.1.has_arrow) more.0 }, more.1))
    else Ok first

unfoldable pub begins_bound : List ParserToken → Bool
begins_bound ts = next_is class.LeftParen ts || next_is class.Name ts

-- what stands in brackets, where so many more tokens deep may be read; at 0 it lies too deep
unfoldable pub bound_within : Bool → ℕ → BoundReader
bound_within strict zero standing ts = if begins_bound ts then Err (too_deep ts) else Err (refused ts)
bound_within strict (suc room) standing ts = bound_over strict (bound_within strict room) standing ts
