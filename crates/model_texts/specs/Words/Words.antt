-- What is told of a fault: where it has a place, that place stands first.
use Rattle.std.specs.Prelude.{◌++◌, ℕ, List, [], codes, decimal}
use Rattle.alloy_lex.specs.declared.token.Place.{Place}
use Rattle.alloy_lex.specs.declared.token.LexFault.{LexFault}
use Rattle.alloy_lex.specs.declared.token.LexFault.TheVariants as lex
use Rattle.alloy_parse.specs.declared.fault.ParseFault.{ParseFault}
use Rattle.alloy_parse.specs.declared.fault.ParseFault.TheVariants as parse
use Rattle.order_lib.specs.declared.fault.OrderFault.{OrderFault}
use Rattle.order_lib.specs.declared.fault.OrderFault.TheVariants as order
use Rattle.named_model.specs.declared.fault.NameFault.{NameFault}
use Rattle.named_model.specs.declared.fault.NameFault.TheVariants as name
use Rattle.model_types.specs.declared.fault.TypeFault.{TypeFault}
use Rattle.model_types.specs.declared.fault.TypeFault.TheVariants as typing
use Rattle.lowering_rules.specs.declared.fault.LowerFault.{LowerFault}
use Rattle.lowering_rules.specs.declared.fault.LowerFault.TheVariants as lower

-- a place: its line, a colon and its column
abbrev pub place_text : Place → List ℕ
place_text p = decimal p.line ++ codes ":" ++ decimal p.column

-- a place, a space and what is wrong there
abbrev pub placed : Place → List ℕ → List ℕ
placed p kind = place_text p ++ codes " " ++ kind

-- ---- faults of a text; want of memory is none of them, nor of those below

abbrev pub lex_words : LexFault → List ℕ
lex_words (lex.BadCharacter p) = placed p (codes "bad_character")
lex_words (lex.OpenComment p) = placed p (codes "open_comment")
lex_words (lex.NumberTooLarge p) = placed p (codes "number_too_large")
lex_words lex.Memory = []

abbrev pub parse_words : ParseFault → List ℕ
parse_words (parse.Unexpected p) = placed p (codes "unexpected")
parse_words (parse.EndOfText p) = placed p (codes "end_of_text")
parse_words (parse.Unsupported p word) = placed p (codes "unsupported " ++ word)
parse_words (parse.TooDeep p) = placed p (codes "too_deep")
parse_words parse.Memory = []

-- ---- faults of orderings

abbrev pub order_words : OrderFault → List ℕ
order_words (order.Unknown p) = placed p (codes "unknown")
order_words (order.NotPlain p) = placed p (codes "not_plain")
order_words (order.Twice p) = placed p (codes "twice")
order_words order.Memory = []

-- ---- faults of names, of a scope and of types

-- the word of a fault, without its place
abbrev pub name_kind : NameFault → List ℕ
name_kind (name.Unknown p) = codes "unknown"
name_kind (name.Twice p) = codes "twice"
name_kind (name.Cycle p) = codes "cycle"
name_kind (name.Recursive p) = codes "recursive"
name_kind name.UnknownScope = codes "unknown_scope"
name_kind name.NoScope = codes "no_scope"
name_kind name.ScopeTooLarge = codes "scope_too_large"
name_kind name.TooManyAtoms = codes "too_many_atoms"
name_kind (name.Arguments p) = codes "arguments"
name_kind (name.HigherOrder p) = codes "higher_order"
name_kind name.Memory = []

-- its place stands before the word; faults of a scope have none
abbrev pub name_words : NameFault → List ℕ
name_words (name.Unknown p) = placed p (codes "unknown")
name_words (name.Twice p) = placed p (codes "twice")
name_words (name.Cycle p) = placed p (codes "cycle")
name_words (name.Recursive p) = placed p (codes "recursive")
name_words (name.Arguments p) = placed p (codes "arguments")
name_words (name.HigherOrder p) = placed p (codes "higher_order")
name_words f = name_kind f

abbrev pub type_words : TypeFault → List ℕ
type_words (typing.Arity p) = placed p (codes "arity")
type_words (typing.NotUnary p) = placed p (codes "not_unary")
type_words (typing.NotBinary p) = placed p (codes "not_binary")
type_words (typing.ArityTooLarge p) = placed p (codes "arity_too_large")
type_words (typing.Sort p) = placed p (codes "sort")
type_words (typing.Ambiguous p) = placed p (codes "ambiguous")
type_words typing.Memory = []

-- ---- faults of a command

abbrev pub lower_kind : LowerFault → List ℕ
lower_kind lower.NoCommand = codes "no_command"
lower_kind (lower.Scope f) = name_kind f
lower_kind lower.TooManyRelations = codes "too_many_relations"
lower_kind lower.TooManyCells = codes "too_many_cells"
lower_kind lower.TooManyTerms = codes "too_many_terms"
lower_kind lower.TooLarge = []
lower_kind lower.Memory = []

-- the command's number stands before what is wrong with it
abbrev pub command_words : ℕ → LowerFault → List ℕ
command_words number f = codes "command " ++ decimal number ++ codes " " ++ lower_kind f
