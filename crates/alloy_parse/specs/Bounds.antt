-- What contracts see of a bound that was read, and of its operands.
use Rattle.std.specs.Prelude.{◌<◌, ℕ, true, false, List, Bool, length, map, Option, None, option_map, Result, Ok, IfOk}
use Rattle.std.specs.declared.alloc.Global.{Global}
use Rattle.std.specs.List.{list_any}
use Rattle.alloy_lex.specs.declared.token.Place.{Place}
use Rattle.alloy_syntax.specs.declared.class.Class.TheVariants as class
use Rattle.alloy_syntax.specs.declared.tree.Bound.{Bound}
use Rattle.alloy_syntax.specs.Tree.{BoundTree, bound_named}
use Rattle.alloy_syntax.specs.View.{bound_view}
use Rattle.alloy_syntax.specs.Readers.{Parser, ◌>>=◌, next_is, name_at, many}
use Rattle.alloy_syntax.specs.declared.parser_token.ParserToken.{ParserToken}
use Rattle.alloy_syntax.specs.declared.parse_stop.ParseStop.{ParseStop}
use Rattle.alloy_syntax.specs.declared.parse_stop.Tokens.{Tokens}
use Rattle.alloy_syntax.specs.Gives.{Gives}
use Rattle.alloy_syntax.specs.Bounds.{Standing, whole, part, beside, Bounded, BoundReader, operand_over, bound_within}
use Rattle.alloy_parse.specs.declared.bounds.ReadBound.{ReadBound}
use Rattle.alloy_parse.specs.declared.bounds.Standing.{Standing as Stands}
use Rattle.alloy_parse.specs.declared.bounds.Standing.TheVariants as stands

-- where a bound stands
abbrev pub standing_view : Stands → Standing
standing_view stands.Whole = whole
standing_view stands.Part = part
standing_view (stands.Beside word) = beside word.left.now

-- the tokens from a word on
abbrev pub word_view : Option Tokens → Option (List ParserToken)
word_view = option_map (λ word. word.left.now)

-- a bound that was read
abbrev pub bounded : ReadBound → Bounded
bounded b = record { bound = bound_view b.bound; marked = word_view b.marked; has_arrow = b.has_arrow }

-- an operand, with the place of the `+` before it
abbrev pub operand_view : Place × Bound → Place × BoundTree
operand_view x = (x.0, bound_view x.1)

-- the trees of operands, with the places of the `+` before them
abbrev pub trees_at : List (Place × Bounded) → List (Place × BoundTree)
trees_at = map (λ x. (x.0, x.1.bound))

abbrev pub any_arrow : List (Place × Bounded) → Bool
any_arrow = list_any (λ x. x.1.has_arrow)

-- the operands behind the first, and whether one of them has an arrow
unfoldable pub operands_over : BoundReader → Standing → Parser (List (Place × BoundTree) × Bool)
operands_over j standing ts = many (next_is class.Plus) (operand_over true j standing) ts >>= λ xs. Ok ((trees_at xs.0, any_arrow xs.0), xs.1)

-- a name that is a side
abbrev pub named_over : Parser Bounded
named_over ts = name_at ts >>= λ x. Ok (record { bound = bound_named x.0; marked = None; has_arrow = false }, x.1)

-- what a function value reads: it may be called for what stands in brackets, and reads it as the grammar says where so many may nest
pub record ReadsBound (room : ℕ) (pre : Global → Tokens → ℕ → Stands → Type 0) (post : Global → Tokens → ℕ → Stands → Result (ReadBound × Tokens) ParseStop → Type 0) : Type 0 where
  pub callable : (alloc : Global) (tokens : Tokens) (standing : Stands) → pre alloc tokens room standing
  pub reads : (alloc : Global) (tokens : Tokens) (standing : Stands) (read : Result (ReadBound × Tokens) ParseStop) → post alloc tokens room standing read
      → Gives (λ x. (bounded x.0, x.1.left.now)) read (bound_within true room (standing_view standing) tokens.left.now)
  pub shorter : (alloc : Global) (tokens : Tokens) (standing : Stands) (read : Result (ReadBound × Tokens) ParseStop) → post alloc tokens room standing read
      → IfOk read (λ x. length x.1.left.now < length tokens.left.now)
