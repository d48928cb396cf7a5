-- Which tokens begin a text, and where forms stand that are refused.
use Rattle.std.specs.Prelude.{◌≡◌, ◌⊎◌, List, [], ◌∷◌, ◌++◌, Bool, true, false, bytes_eq, codes}
use Rattle.alloy_syntax.specs.declared.class.Class.TheVariants as class
use Rattle.alloy_syntax.specs.declared.reading.Form.{Form}
use Rattle.alloy_syntax.specs.declared.reading.Form.TheVariants as form
use Rattle.alloy_syntax.specs.declared.parser_token.ParserToken.{ParserToken}
use Rattle.alloy_syntax.specs.Tree.{ParagraphTree, signatures, fact, predicate, function, assertion, command, ModelTree}
use Rattle.alloy_syntax.specs.Readers.{next_is, after, is_mark}
use Rattle.alloy_syntax.specs.Nodes.{is_comprehension}
use Rattle.alloy_grammar.specs.Models.{IsTextOf}

-- a text of the grammar that begins with the tokens
pub record Begins (before : List ParserToken) : Type 0 where
  pub tail : List ParserToken
  pub model : ModelTree
  pub text : IsTextOf (before ++ tail) model

-- The grammar has a text with a token of that terminal where the form is refused: with a block in place of a comprehension, a second
-- variable, another path. In place of a word beside an arrow it may have none, and of a block behind a signature it never has.
abbrev pub may_stand : Form → Bool
may_stand form.Comprehension = true
may_stand form.Appended = false
may_stand form.ArrowMultiplicity = false
may_stand form.Several = true
may_stand form.Open = true

abbrev pub is_signature : ParagraphTree → Bool
is_signature (signatures is_abstract m ns p fs) = true
is_signature (fact n b) = false
is_signature (predicate n ds b) = false
is_signature (function n ds m range result) = false
is_signature (assertion n b) = false
is_signature (command k p t s e) = false

-- a text of the grammar whose last paragraph is a signature
pub record EndsWithSignature (before : List ParserToken) : Type 0 where
  pub model : ModelTree
  pub text : IsTextOf before model
  pub others : List ParagraphTree
  pub last : ParagraphTree
  pub all : model.paragraphs ≡ others ++ (last ∷ [])
  pub signature : is_signature last ≡ true

-- an arrow stands behind the first of the last tokens, or before it
abbrev pub IsBesideArrow : List ParserToken → List ParserToken → Type 0
IsBesideArrow before rest = (next_is class.Arrow (after rest) ≡ true) ⊎ ((front : List ParserToken) × (arrow : ParserToken) × (before ≡ front ++ (arrow ∷ [])) × (arrow.class ≡ class.Arrow))

-- a comma stands before, or a comma and a `disj`
abbrev pub IsBehindComma : List ParserToken → Type 0
IsBehindComma before = (front : List ParserToken) × (comma : ParserToken) × (between : List ParserToken) × (before ≡ front ++ (comma ∷ between)) × (comma.class ≡ class.Comma) × ((between ≡ []) ⊎ ((disj : ParserToken) × (between ≡ disj ∷ []) × (disj.class ≡ class.Disj)))

-- the form stands at the first of the last tokens: a brace, names with commas, and a colon; a brace behind a signature; a multiplicity
-- word beside an arrow; a name behind a comma, as one more variable is; a path of another module
abbrev pub HasForm : Form → List ParserToken → List ParserToken → Type 0
HasForm form.Comprehension before rest = is_comprehension rest ≡ true
HasForm form.Appended before rest = (next_is class.LeftBrace rest ≡ true) × EndsWithSignature before
HasForm form.ArrowMultiplicity before rest = (is_mark rest ≡ true) × IsBesideArrow before rest
HasForm form.Several before rest = (next_is class.Name rest ≡ true) × IsBehindComma before
HasForm form.Open before rest = (path : ParserToken) × (behind : List ParserToken) × (rest ≡ path ∷ behind) × (path.class ≡ class.Path) × (bytes_eq path.text (codes "util/ordering") ≡ false)
