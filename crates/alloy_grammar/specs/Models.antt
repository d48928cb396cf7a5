-- How models are spelled: a rule of the grammar for each form of a paragraph.
use Rattle.std.specs.Prelude.{◌≡◌, ℕ, suc, max, List, [], ◌∷◌, Bool, true, false, Option, Some, None, codes, bytes_eq}
use Rattle.std.specs.List.{AllByRecursion}
use Rattle.alloy_syntax.specs.declared.class.Class.{Class}
use Rattle.alloy_syntax.specs.declared.class.Class.TheVariants as class
use Rattle.alloy_syntax.specs.declared.tree.Name.{Name}
use Rattle.alloy_syntax.specs.declared.tree.Number.{Number}
use Rattle.alloy_syntax.specs.declared.tree.MultiplicityWord.{MultiplicityWord}
use Rattle.alloy_syntax.specs.declared.tree.Multiplicity.{Multiplicity}
use Rattle.alloy_syntax.specs.declared.tree.Multiplicity.TheVariants as multiplicity
use Rattle.alloy_syntax.specs.declared.tree.Parent.{Parent}
use Rattle.alloy_syntax.specs.declared.tree.Manner.{Manner}
use Rattle.alloy_syntax.specs.declared.tree.Manner.TheVariants as manner
use Rattle.alloy_syntax.specs.declared.tree.Entry.{Entry}
use Rattle.alloy_syntax.specs.declared.tree.CommandKind.{CommandKind}
use Rattle.alloy_syntax.specs.declared.tree.CommandKind.TheVariants as kind
use Rattle.alloy_syntax.specs.declared.tree.Open.{Open}
use Rattle.alloy_syntax.specs.declared.parser_token.ParserToken.{ParserToken}
use Rattle.alloy_syntax.specs.Tree.{Tree, block, trees_of, DeclarationTree, declarations_of, FieldTree, BlockTree, TargetTree, at_name, at_block, ScopeTree, ParagraphTree, signatures, fact, predicate, function, assertion, command, ModelTree}
use Rattle.alloy_grammar.specs.Fronts.{Front, ◌before◌, ◌or◌, nothing, only, sign, mark_of, flag, name, number, mark, names, each, listed, listed_if_any, class_of_multiplicity}
use Rattle.alloy_grammar.specs.Levels.{sum_level}
use Rattle.alloy_grammar.specs.Nodes.{at_level, spells, spells_declarations}
use Rattle.alloy_grammar.specs.Bounds.{spells_bound, depth_of_bound, is_plain_bound}
use Rattle.alloy_grammar.specs.Depths.{depth_of, depth_of_declarations}
use Rattle.alloy_grammar.specs.Forms.{IsPlain, ArePlainDeclarations}

-- [ item ]
abbrev pub optional : {A : Type 0} → (A → Front) → Option A → Front
optional item None = nothing
optional item (Some x) = item x

-- the tree of a block
abbrev pub tree_of_block : BlockTree → Tree
tree_of_block b = block b.place (trees_of b.formulas)

abbrev pub block_text : BlockTree → Front
block_text b = spells (tree_of_block b)

-- ---- signatures

-- "one" | "lone" | "some"
abbrev pub is_qualifier : Multiplicity → Bool
is_qualifier multiplicity.Set = false
is_qualifier multiplicity.One = true
is_qualifier multiplicity.Lone = true
is_qualifier multiplicity.Some = true

abbrev pub qualifier : MultiplicityWord → Front
qualifier m = only (is_qualifier m.multiplicity) (sign (class_of_multiplicity m.multiplicity) m.place)

-- `abstract`, and one of the others: each may stand once, in any order
abbrev pub qualifiers : Bool → Option MultiplicityWord → Front
qualifiers is_abstract m = flag class.Abstract is_abstract before optional qualifier m or optional qualifier m before flag class.Abstract is_abstract

abbrev pub class_of_manner : Manner → Class
class_of_manner manner.Extends = class.Extends
class_of_manner manner.In = class.In

abbrev pub parent : Parent → Front
parent p = mark_of (class_of_manner p.manner) before name p.name

-- field = names ":" [ mult ] bound
abbrev pub field : FieldTree → Front
field f = names f.names before mark_of class.Colon before mark f.mark before spells_bound f.bound

-- ---- predicates and functions

abbrev pub is_empty : {A : Type 0} → List A → Bool
is_empty [] = true
is_empty (x ∷ xs) = false

-- [ decls ] in such brackets
abbrev pub parameters_in : Class → Class → List DeclarationTree → Front
parameters_in opening closing ds = mark_of opening before spells_declarations nothing (declarations_of ds) before mark_of closing

-- [ "[" [ decls ] "]" | "(" [ decls ] ")" ]
abbrev pub parameters : List DeclarationTree → Front
parameters ds = only (is_empty ds) nothing or parameters_in class.LeftBracket class.RightBracket ds or parameters_in class.LeftParen class.RightParen ds

-- ---- commands

abbrev pub class_of_kind : CommandKind → Class
class_of_kind kind.Run = class.Run
class_of_kind kind.Check = class.Check

-- name | [ name ] block
abbrev pub target : TargetTree → Front
target (at_name n) = name n
target (at_block label b) = optional name label before block_text b

-- entry = [ "exactly" ] number name
abbrev pub entry : Entry → Front
entry e = flag class.Exactly e.exactly before number e.number before name e.name

-- [ "but" entries ]
abbrev pub exceptions : List Entry → Front
exceptions [] = nothing
exceptions (e ∷ es) = mark_of class.But before listed entry (e ∷ es)

abbrev pub sizes : Option Number → List Entry → Front
sizes (Some n) es = number n before exceptions es
sizes None es = listed entry es

-- scope = "for" ( number [ "but" entries ] | entries )
abbrev pub scope : ScopeTree → Front
scope s = mark_of class.For before sizes s.default s.entries

abbrev pub expected : Number → Front
expected n = mark_of class.Expect before number n

-- ---- paragraphs

abbrev pub paragraph : ParagraphTree → Front
paragraph (signatures is_abstract m ns p fs) =
    qualifiers is_abstract m before mark_of class.Sig before names ns before optional parent p before mark_of class.LeftBrace before listed_if_any field fs before mark_of class.RightBrace
paragraph (fact n b) = mark_of class.Fact before optional name n before block_text b
paragraph (predicate n ds b) = mark_of class.Pred before name n before parameters ds before block_text b
paragraph (function n ds m range result) =
    mark_of class.Fun before name n before parameters ds before mark_of class.Colon before mark m before at_level sum_level range (spells range)
    before mark_of class.LeftBrace before at_level sum_level result (spells result) before mark_of class.RightBrace
paragraph (assertion n b) = mark_of class.Assert before name n before block_text b
paragraph (command k p t s e) = sign (class_of_kind k) p before target t before optional scope s before optional expected e

-- ---- a model

abbrev pub ordering_path : Front
ordering_path ts rest = (t : ParserToken) × (ts ≡ t ∷ rest) × (t.class ≡ class.Path) × (bytes_eq t.text (codes "util/ordering") ≡ true)

-- "open" path "[" name "]" "as" name, where the path is `util/ordering`
abbrev pub opened : Open → Front
opened o = mark_of class.Open before ordering_path before mark_of class.LeftBracket before name o.signature before mark_of class.RightBracket before mark_of class.As before name o.alias

abbrev pub heading : Name → Front
heading n = mark_of class.Module before name n

-- model = [ "module" name ] { open } { sig | fact | pred | fun | assert | command }
abbrev pub spells_model : ModelTree → Front
spells_model m = optional heading m.heading before each opened m.opens before each paragraph m.paragraphs

-- the tokens are a text of the model, all of them
abbrev pub IsTextOf : List ParserToken → ModelTree → Type 0
IsTextOf ts m = spells_model m ts []

-- ---- how deep constructs nest, from the paragraph on

abbrev pub depth_of_fields : List FieldTree → ℕ
depth_of_fields [] = 0
depth_of_fields (f ∷ fs) = max (suc (depth_of_bound f.bound)) (depth_of_fields fs)

abbrev pub depth_of_parameters : List DeclarationTree → ℕ
depth_of_parameters [] = 0
depth_of_parameters (d ∷ ds) = suc (depth_of_declarations (declarations_of (d ∷ ds)))

abbrev pub depth_of_target : TargetTree → ℕ
depth_of_target (at_name n) = 0
depth_of_target (at_block label b) = depth_of (tree_of_block b)

abbrev pub depth_of_paragraph : ParagraphTree → ℕ
depth_of_paragraph (signatures is_abstract m ns p fs) = depth_of_fields fs
depth_of_paragraph (fact n b) = depth_of (tree_of_block b)
depth_of_paragraph (predicate n ds b) = max (depth_of_parameters ds) (depth_of (tree_of_block b))
depth_of_paragraph (function n ds m range result) = max (depth_of_parameters ds) (max (depth_of range) (suc (depth_of result)))
depth_of_paragraph (assertion n b) = depth_of (tree_of_block b)
depth_of_paragraph (command k p t s e) = depth_of_target t

abbrev pub depth_of_paragraphs : List ParagraphTree → ℕ
depth_of_paragraphs [] = 0
depth_of_paragraphs (p ∷ ps) = max (depth_of_paragraph p) (depth_of_paragraphs ps)

abbrev pub depth_of_model : ModelTree → ℕ
depth_of_model m = depth_of_paragraphs m.paragraphs

-- ---- forms that the language refuses

abbrev pub ArePlainFields : List FieldTree → Type 0
ArePlainFields = AllByRecursion (λ (f : FieldTree). is_plain_bound f.bound ≡ true)

abbrev pub IsPlainTarget : TargetTree → Type 0
IsPlainTarget (at_name n) = Unit {0}
IsPlainTarget (at_block label b) = IsPlain (tree_of_block b)

abbrev pub IsPlainParagraph : ParagraphTree → Type 0
IsPlainParagraph (signatures is_abstract m ns p fs) = ArePlainFields fs
IsPlainParagraph (fact n b) = IsPlain (tree_of_block b)
IsPlainParagraph (predicate n ds b) = ArePlainDeclarations (declarations_of ds) × IsPlain (tree_of_block b)
IsPlainParagraph (function n ds m range result) = ArePlainDeclarations (declarations_of ds) × IsPlain range × IsPlain result
IsPlainParagraph (assertion n b) = IsPlain (tree_of_block b)
IsPlainParagraph (command k p t s e) = IsPlainTarget t

-- a model has no form that the language refuses though the grammar has it
abbrev pub IsPlainModel : ModelTree → Type 0
IsPlainModel m = AllByRecursion IsPlainParagraph m.paragraphs
