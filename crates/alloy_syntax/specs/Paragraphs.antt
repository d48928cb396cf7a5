-- How a model is read: its paragraphs, one after the other.
use Rattle.std.specs.Prelude.{ℕ, ◌-◌, List, [], ◌∷◌, Bool, true, false, not, ◌&&◌, if◌then◌else◌, Option, Some, None, Result, Ok, Err, codes, bytes_eq}
use Rattle.alloy_lex.specs.declared.token.Place.{Place}
use Rattle.alloy_syntax.specs.declared.class.Class.{Class}
use Rattle.alloy_syntax.specs.declared.class.Class.TheVariants as class
use Rattle.alloy_syntax.specs.declared.reading.Form.TheVariants as form
use Rattle.alloy_syntax.specs.declared.reading.Around.TheVariants as around
use Rattle.alloy_syntax.specs.declared.tree.Name.{Name}
use Rattle.alloy_syntax.specs.declared.tree.Number.{Number}
use Rattle.alloy_syntax.specs.declared.tree.MultiplicityWord.{MultiplicityWord}
use Rattle.alloy_syntax.specs.declared.tree.Parent.{Parent}
use Rattle.alloy_syntax.specs.declared.tree.Manner.TheVariants as manner
use Rattle.alloy_syntax.specs.declared.tree.Entry.{Entry}
use Rattle.alloy_syntax.specs.declared.tree.CommandKind.{CommandKind}
use Rattle.alloy_syntax.specs.declared.tree.CommandKind.TheVariants as kind
use Rattle.alloy_syntax.specs.declared.tree.Open.{Open}
use Rattle.alloy_syntax.specs.declared.parser_token.ParserToken.{ParserToken}
use Rattle.alloy_syntax.specs.Tree.{DeclarationTree, FieldTree, BlockTree, TargetTree, at_name, at_block, ScopeTree, ParagraphTree, signatures, fact, predicate, function, assertion, command, ModelTree}
use Rattle.alloy_syntax.specs.Readers.{ParseStopView, unsupported, Parser, ◌>>=◌, next_is, after, place_at, expect, name_at, path_at, number_at, is_mark, mark_at, after_mark, many, listed, names_at}
use Rattle.alloy_syntax.specs.Nodes.{within, block_over, sum_over, braced_over, declarations_over}
use Rattle.alloy_syntax.specs.Bounds.{whole, bound_within}

-- So many constructs may nest, from the paragraph on: the brackets of its own are the first. Reading is strict, and refuses the
-- forms that the language doesn't take though the grammar goes on with them; in proofs it may let them pass.

-- a paragraph's own block
abbrev pub own_block : Bool → ℕ → Parser BlockTree
own_block strict limit = block_over (within strict limit)

-- ---- signatures

-- field = names ":" [ mult ] bound
unfoldable pub field_at : Bool → ℕ → Parser FieldTree
field_at strict limit ts = do
  names ← names_at ts
  colon ← expect class.Colon names.1
  read ← bound_within strict limit whole (after_mark colon.1)
  Ok (record { names = names.0; mark = mark_at colon.1; bound = read.0.bound }, read.1)

unfoldable pub fields_at : Bool → ℕ → Parser (List FieldTree)
fields_at strict limit ts = if next_is class.RightBrace ts then Ok ([], ts) else listed (field_at strict limit) ts

unfoldable pub parent_at : Parser (Option Parent)
parent_at ts =
    if next_is class.Extends ts then name_at (after ts) >>= (λ x. Ok (Some (record { manner = manner.Extends; name = x.0 }), x.1))
    else (if next_is class.In ts then name_at (after ts) >>= (λ x. Ok (Some (record { manner = manner.In; name = x.0 }), x.1))
    else Ok (None, ts))

-- `one`, `lone` or `some`
unfoldable pub is_qualifier : List ParserToken → Bool
is_qualifier ts = is_mark ts && not (next_is class.Set ts)

unfoldable pub qualifier_at : List ParserToken → Option MultiplicityWord
qualifier_at ts = if is_qualifier ts then mark_at ts else None

abbrev pub after_qualifier : List ParserToken → List ParserToken
after_qualifier ts = if is_qualifier ts then after ts else ts

abbrev pub after_abstract : List ParserToken → List ParserToken
after_abstract ts = if next_is class.Abstract ts then after ts else ts

-- whether `abstract` is among the qualifiers, which of the others is, and what stands behind them: each may stand once, in any order
pub record Qualified : Type 0 where
  pub is_abstract : Bool
  pub mark : Option MultiplicityWord
  pub behind : List ParserToken

unfoldable pub qualified : List ParserToken → Qualified
qualified ts =
    if next_is class.Abstract ts then record { is_abstract = true; mark = qualifier_at (after ts); behind = after_qualifier (after ts) }
    else record { is_abstract = next_is class.Abstract (after_qualifier ts); mark = qualifier_at ts; behind = after_abstract (after_qualifier ts) }

-- a block directly behind a signature is refused
unfoldable pub signatures_at : Bool → ℕ → Parser ParagraphTree
signatures_at strict limit ts = do
  word ← expect class.Sig (qualified ts).behind
  names ← names_at word.1
  parent ← parent_at names.1
  opened ← expect class.LeftBrace parent.1
  fields ← fields_at strict limit opened.1
  closed ← expect class.RightBrace fields.1
  if next_is class.LeftBrace closed.1 then Err (unsupported form.Appended closed.1) else Ok (signatures (qualified ts).is_abstract (qualified ts).mark names.0 parent.0 fields.0, closed.1)

-- ---- facts, predicates, functions and assertions, behind their first word

-- [ name ]
unfoldable pub label_at : Parser (Option Name)
label_at ts = if next_is class.Name ts then name_at ts >>= (λ x. Ok (Some x.0, x.1)) else Ok (None, ts)

unfoldable pub fact_at : Bool → ℕ → Parser ParagraphTree
fact_at strict limit ts = label_at ts >>= λ label. own_block strict limit label.1 >>= λ b. Ok (fact label.0 b.0, b.1)

-- [ decls ] and the closing bracket, in the list's own brackets
abbrev pub parameters_to : Bool → ℕ → Class → Parser (List DeclarationTree)
parameters_to strict limit closing ts =
    if next_is closing ts then Ok ([], after ts)
    else declarations_over (within strict (limit - 1)) false ts >>= (λ x. expect closing x.1 >>= λ c. Ok (x.0, c.1))

unfoldable pub parameter_list : Bool → ℕ → Parser (List DeclarationTree)
parameter_list strict limit ts =
    if next_is class.LeftBracket ts then parameters_to strict limit class.RightBracket (after ts)
    else (if next_is class.LeftParen ts then parameters_to strict limit class.RightParen (after ts)
    else Ok ([], ts))

unfoldable pub predicate_at : Bool → ℕ → Parser ParagraphTree
predicate_at strict limit ts = do
  name ← name_at ts
  parameters ← parameter_list strict limit name.1
  body ← own_block strict limit parameters.1
  Ok (predicate name.0 parameters.0 body.0, body.1)

-- name [ parameters ] ":" [ mult ] sum "{" sum "}"
unfoldable pub function_at : Bool → ℕ → Parser ParagraphTree
function_at strict limit ts = do
  name ← name_at ts
  parameters ← parameter_list strict limit name.1
  colon ← expect class.Colon parameters.1
  range ← sum_over (within strict limit) around.Parens (after_mark colon.1)
  body ← braced_over (within strict limit) range.1
  Ok (function name.0 parameters.0 (mark_at colon.1) range.0 body.0, body.1)

unfoldable pub assertion_at : Bool → ℕ → Parser ParagraphTree
assertion_at strict limit ts = do
  name ← name_at ts
  body ← own_block strict limit name.1
  Ok (assertion name.0 body.0, body.1)

-- ---- commands, behind their first word

-- entry = [ "exactly" ] number name
unfoldable pub entry_at : Parser Entry
entry_at ts = do
  number ← number_at (if next_is class.Exactly ts then after ts else ts)
  name ← name_at number.1
  Ok (record { exactly = next_is class.Exactly ts; number = number.0; name = name.0 }, name.1)

unfoldable pub entries_at : Parser (List Entry)
entries_at = listed entry_at

-- [ "but" entries ]
unfoldable pub exceptions_at : Parser (List Entry)
exceptions_at ts = if next_is class.But ts then entries_at (after ts) else Ok ([], ts)

-- a number that no name follows is the default
unfoldable pub has_default : List ParserToken → Bool
has_default ts = next_is class.Number ts && not (next_is class.Name (after ts))

-- scope = "for" ( number [ "but" entries ] | entries )
unfoldable pub scope_at : Parser (Option ScopeTree)
scope_at ts =
    if next_is class.For ts then
    (if has_default (after ts) then (number_at (after ts) >>= λ n. exceptions_at n.1 >>= λ es. Ok (Some (record { default = Some n.0; entries = es.0 }), es.1))
    else (entries_at (after ts) >>= λ es. Ok (Some (record { default = None; entries = es.0 }), es.1)))
    else Ok (None, ts)

-- [ "expect" number ]
unfoldable pub expected_at : Parser (Option Number)
expected_at ts = if next_is class.Expect ts then number_at (after ts) >>= (λ n. Ok (Some n.0, n.1)) else Ok (None, ts)

-- a name, or a block, which may have a label
unfoldable pub target_at : Bool → ℕ → Parser TargetTree
target_at strict limit ts =
    if next_is class.Name ts && not (next_is class.LeftBrace (after ts)) then name_at ts >>= (λ x. Ok (at_name x.0, x.1))
    else label_at ts >>= (λ label. own_block strict limit label.1 >>= λ b. Ok (at_block label.0 b.0, b.1))

unfoldable pub command_at : Bool → ℕ → CommandKind → Place → Parser ParagraphTree
command_at strict limit k p ts = do
  target ← target_at strict limit ts
  scope ← scope_at target.1
  expected ← expected_at scope.1
  Ok (command k p target.0 scope.0 expected.0, expected.1)

-- ---- a model

unfoldable pub paragraph_at : Bool → ℕ → Parser ParagraphTree
paragraph_at strict limit ts =
    if next_is class.Fact ts then fact_at strict limit (after ts)
    else (if next_is class.Pred ts then predicate_at strict limit (after ts)
    else (if next_is class.Fun ts then function_at strict limit (after ts)
    else (if next_is class.Assert ts then assertion_at strict limit (after ts)
    else (if next_is class.Run ts then command_at strict limit kind.Run (place_at ts) (after ts)
    else (if next_is class.Check ts then command_at strict limit kind.Check (place_at ts) (after ts)
    else signatures_at strict limit ts)))))

unfoldable pub is_left : List ParserToken → Bool
is_left [] = false
is_left (t ∷ ts) = true

-- [ "module" name ]
unfoldable pub heading_at : Parser (Option Name)
heading_at ts = if next_is class.Module ts then name_at (after ts) >>= (λ x. Ok (Some x.0, x.1)) else Ok (None, ts)

-- the module whose paths an `open` gives; any other is refused
unfoldable pub ordering_at : Parser Name
ordering_at ts = path_at ts >>= λ x. if bytes_eq x.0.text (codes "util/ordering") then Ok x else Err (unsupported form.Open ts)

-- "open" path "[" name "]" "as" name
unfoldable pub open_at : Parser Open
open_at ts = do
  path ← ordering_at (after ts)
  opened ← expect class.LeftBracket path.1
  signature ← name_at opened.1
  closed ← expect class.RightBracket signature.1
  word ← expect class.As closed.1
  alias ← name_at word.1
  Ok (record { signature = signature.0; alias = alias.0 }, alias.1)

-- the model that the tokens are, or where reading stops, if so many constructs may nest, with forms refused or not
unfoldable pub model_at : Bool → ℕ → List ParserToken → Result ModelTree ParseStopView
model_at strict limit ts = do
  heading ← heading_at ts
  opens ← many (next_is class.Open) open_at heading.1
  paragraphs ← many is_left (paragraph_at strict limit) opens.1
  Ok (record { heading = heading.0; opens = opens.0; paragraphs = paragraphs.0 })

-- so many constructs may nest in a model
abbrev pub depth_limit : ℕ
depth_limit = 200

abbrev pub model_of : List ParserToken → Result ModelTree ParseStopView
model_of = model_at true depth_limit
