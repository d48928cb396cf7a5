-- What is still to be read behind the parts that have been read.
use Rattle.std.specs.Prelude.{true, List, Bool, if◌then◌else◌, Option, Some, None, Ok, Err}
use Rattle.alloy_lex.specs.declared.token.Place.{Place}
use Rattle.alloy_syntax.specs.declared.class.Class.TheVariants as class
use Rattle.alloy_syntax.specs.declared.reading.Form.TheVariants as form
use Rattle.alloy_syntax.specs.declared.reading.Around.{Around}
use Rattle.alloy_syntax.specs.declared.reading.Around.TheVariants as around
use Rattle.alloy_syntax.specs.declared.reading.Inside.TheVariants as inside
use Rattle.alloy_syntax.specs.declared.reading.Level.{Level}
use Rattle.alloy_syntax.specs.declared.tree.Name.{Name}
use Rattle.alloy_syntax.specs.declared.tree.MultiplicityWord.{MultiplicityWord}
use Rattle.alloy_syntax.specs.declared.tree.Parent.{Parent}
use Rattle.alloy_syntax.specs.declared.tree.Comparing.{Comparing}
use Rattle.alloy_syntax.specs.declared.tree.Open.{Open}
use Rattle.alloy_syntax.specs.Tree.{Tree, chain, path, compared, implies_else, links_of, steps_of, DeclarationTree, ScopeTree, ParagraphTree, signatures, function}
use Rattle.alloy_syntax.specs.Readers.{unsupported, Parser, ◌>>=◌, next_is, expect, name_at, number_at, mark_at, after_mark, many}
use Rattle.alloy_syntax.specs.Nodes.{Reader, within, begins_link, link_over, begins_arrow, arrow_over, begins_step, step_over, comparing_at, counted_over, sum_over, braced_over}
use Rattle.alloy_syntax.specs.Paragraphs.{depth_limit, fields_at, has_default, entries_at, exceptions_at}

-- the operators of a level and the operands behind them
abbrev pub linked : Level → Parser Tree → Tree → Parser Tree
linked l item first ts = many (begins_link l) (link_over l item) ts >>= λ xs. Ok (chain first (links_of xs.0), xs.1)

-- the arrows and the operands behind them
abbrev pub arrowed : Reader → Around → Tree → Parser Tree
arrowed i a first ts = many begins_arrow (arrow_over i a) ts >>= λ xs. Ok (chain first (links_of xs.0), xs.1)

-- the joins and brackets
abbrev pub stepped : Reader → Around → Tree → Parser Tree
stepped i a first ts = many begins_step (step_over i a) ts >>= λ xs. Ok (path first (steps_of xs.0), xs.1)

-- the comparison and its right side
abbrev pub compared_with : Reader → Around → Tree → Parser Tree
compared_with i a left ts = comparing_at ts >>= λ c. counted_over i a c.1 >>= λ y. Ok (compared left c.0 y.0, y.1)

-- the right side of a comparison
abbrev pub right_side : Reader → Around → Tree → Comparing → Parser Tree
right_side i a left comparing ts = counted_over i a ts >>= λ y. Ok (compared left comparing y.0, y.1)

-- what stands behind `else`
abbrev pub otherwise : Reader → Around → Tree → Place → Tree → Parser Tree
otherwise i a left p then_part ts = i a inside.Implied ts >>= λ y. Ok (implies_else left p then_part y.0, y.1)

-- "{" fields "}" of signatures, behind which a block is refused
abbrev pub with_fields : Bool → Option MultiplicityWord → List Name → Option Parent → Parser ParagraphTree
with_fields is_abstract mark names parent ts = do
  opened ← expect class.LeftBrace ts
  fields ← fields_at true depth_limit opened.1
  closed ← expect class.RightBrace fields.1
  if next_is class.LeftBrace closed.1 then Err (unsupported form.Appended closed.1) else Ok (signatures is_abstract mark names parent fields.0, closed.1)

-- ":" [ mult ] sum "{" sum "}" of a function
abbrev pub with_body : Name → List DeclarationTree → Parser ParagraphTree
with_body name parameters ts = do
  colon ← expect class.Colon ts
  range ← sum_over (within true depth_limit) around.Parens (after_mark colon.1)
  body ← braced_over (within true depth_limit) range.1
  Ok (function name parameters (mark_at colon.1) range.0 body.0, body.1)

-- "]" "as" name of an `open`
abbrev pub with_alias : Name → Parser Open
with_alias signature ts = do
  closed ← expect class.RightBracket ts
  word ← expect class.As closed.1
  alias ← name_at word.1
  Ok (record { signature = signature; alias = alias.0 }, alias.1)

-- the scope, behind `for`
abbrev pub scope_behind : Parser (Option ScopeTree)
scope_behind ts =
    if has_default ts then (number_at ts >>= λ n. exceptions_at n.1 >>= λ es. Ok (Some (record { default = Some n.0; entries = es.0 }), es.1))
    else (entries_at ts >>= λ es. Ok (Some (record { default = None; entries = es.0 }), es.1))
