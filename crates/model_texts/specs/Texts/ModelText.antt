-- What the text of a model is, and what is told of it where it is none.
use Rattle.std.specs.Prelude.{◌≡◌, ◌⊎◌, ℕ, List, [], Some, Ok, Err}
use Rattle.alloy_lex.specs.declared.token.Token.{Token}
use Rattle.alloy_lex.specs.declared.token.LexFault.{LexFault}
use Rattle.alloy_lex.specs.Tokens.{tokens_of}
use Rattle.alloy_syntax.specs.Tree.{ModelTree}
use Rattle.alloy_syntax.specs.ParserTokens.{seen_all}
use Rattle.alloy_syntax.specs.Readers.{ParseStopView}
use Rattle.alloy_syntax.specs.Paragraphs.{model_of}
use Rattle.alloy_parse.specs.Faults.{fault_of}
use Rattle.order_lib.specs.declared.fault.OrderFault.{OrderFault}
use Rattle.order_lib.specs.Expanded.{expanded}
use Rattle.named_model.specs.declared.fault.NameFault.{NameFault}
use Rattle.named_model.specs.Answers.{first_in}
use Rattle.named_model.specs.Declarations.{named_of}
use Rattle.named_model.specs.Faults.{faults_in}
use Rattle.named_model.specs.Model.{NamedTree}
use Rattle.named_model.specs.View.{named_view}
use Rattle.model_types.specs.declared.fault.TypeFault.{TypeFault}
use Rattle.model_types.specs.Models.{types_checked}
use Rattle.rel_lower.specs.Lowered.{IsTyped}
use Rattle.model_texts.specs.Words.Words.{lex_words, parse_words, order_words, name_words, type_words}
use Rattle.model_texts.specs.declared.typed_texts.reading.ModelText.{ModelText}
use Rattle.model_texts.specs.declared.typed_texts.reading.ModelText.TheVariants as reading

-- the tree that the tokens of a text are
abbrev pub IsTreeOf : List ℕ → ModelTree → Type 0
IsTreeOf text tree = (ts : List Token) × (tokens_of text ≡ Ok ts) × (model_of (seen_all ts) ≡ Ok tree)

-- a text is this tree once its orderings are expanded
pub record IsWhole (text : List ℕ) (tree : ModelTree) : Type 0 where
  pub written : ModelTree
  pub reading : IsTreeOf text written
  pub expansion : expanded written ≡ Ok tree

-- a text says this model: its names stand for one thing each, its types fit, and each shared name is one field
pub record SaysModel (text : List ℕ) (m : NamedTree) : Type 0 where
  pub typed : IsTyped m
  pub whole : IsWhole text typed.tree

-- ---- why a text is no model

abbrev pub HasNoTokens : List ℕ → List ℕ → Type 0
HasNoTokens text words = (e : LexFault) × (tokens_of text ≡ Err e) × (words ≡ lex_words e)

abbrev pub HasNoTree : List ℕ → List ℕ → Type 0
HasNoTree text words = (ts : List Token) × (s : ParseStopView) × (tokens_of text ≡ Ok ts) × (model_of (seen_all ts) ≡ Err s) × (words ≡ parse_words (fault_of ts s))

abbrev pub HasBadOrder : List ℕ → List ℕ → Type 0
HasBadOrder text words = (tree : ModelTree) × IsTreeOf text tree × ((e : OrderFault) × (expanded tree ≡ Err e) × (words ≡ order_words e))

abbrev pub HasBadName : List ℕ → List ℕ → Type 0
HasBadName text words = (tree : ModelTree) × IsWhole text tree × ((e : NameFault) × (first_in (faults_in tree) ≡ Some e) × (words ≡ name_words e))

abbrev pub HasBadType : List ℕ → List ℕ → Type 0
HasBadType text words =
    (tree : ModelTree) × IsWhole text tree × (faults_in tree ≡ []) × ((e : TypeFault) × (types_checked (named_of tree) ≡ Err e) × (words ≡ type_words e))

-- these words tell the first fault of a text
abbrev pub IsFaulty : List ℕ → List ℕ → Type 0
IsFaulty text words = HasNoTokens text words ⊎ HasNoTree text words ⊎ HasBadOrder text words ⊎ HasBadName text words ⊎ HasBadType text words

-- a text is what was read of it
abbrev pub IsReading : List ℕ → ModelText → Type 0
IsReading text (reading.Typed model) = SaysModel text (named_view model)
IsReading text (reading.Faulty words) = IsFaulty text words.items
