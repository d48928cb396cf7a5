-- How expressions and formulas are spelled: a rule of the grammar for each form of a tree.
use Rattle.std.specs.Prelude.{◌≡◌, ◌≤◌, ℕ, suc, List, Bool, true, false, ◌||◌}
use Rattle.alloy_lex.specs.declared.token.Place.{Place}
use Rattle.alloy_syntax.specs.declared.class.Class.{Class}
use Rattle.alloy_syntax.specs.declared.class.Class.TheVariants as class
use Rattle.alloy_syntax.specs.declared.tree.Quantifier.{Quantifier}
use Rattle.alloy_syntax.specs.declared.tree.Quantifier.TheVariants as quantifier
use Rattle.alloy_syntax.specs.declared.tree.Constant.{Constant}
use Rattle.alloy_syntax.specs.declared.tree.Constant.TheVariants as constants
use Rattle.alloy_syntax.specs.declared.tree.Prefix.{Prefix}
use Rattle.alloy_syntax.specs.declared.tree.Prefix.TheVariants as prefix
use Rattle.alloy_syntax.specs.declared.tree.Operator.{Operator}
use Rattle.alloy_syntax.specs.declared.tree.Operator.TheVariants as operator
use Rattle.alloy_syntax.specs.declared.tree.Comparison.{Comparison}
use Rattle.alloy_syntax.specs.declared.tree.Comparison.TheVariants as comparison
use Rattle.alloy_syntax.specs.declared.tree.Comparing.{Comparing}
use Rattle.alloy_syntax.specs.declared.parser_token.ParserToken.{ParserToken}
use Rattle.alloy_syntax.specs.Readers.{next_is}
use Rattle.alloy_syntax.specs.Tree.{Tree, named, numbered, constant, bracketed, block, prefixed, chain, path, compared, implies, implies_else, quantified, bound_by_let, Trees, no_trees, more_trees, Links, no_links, more_links, Steps, no_steps, join_first, brackets_first, Declarations, no_declarations, more_declarations, Bindings, no_bindings, more_bindings}
use Rattle.alloy_grammar.specs.Fronts.{Front, ◌before◌, ◌or◌, nothing, only, unless_next, sign, mark_of, flag, spelled_as, name, number, mark, names}
use Rattle.alloy_grammar.specs.Levels.{and_level, implication_level, counted_level, sum_level, tight_level, level_of_operator, level_behind, level_of_links, level_of}

-- ---- the terminals of words and operators

abbrev pub class_of_constant : Constant → Class
class_of_constant constants.None = class.None
class_of_constant constants.Univ = class.Univ
class_of_constant constants.Iden = class.Iden

abbrev pub class_of_prefix : Prefix → Class
class_of_prefix prefix.Not = class.Not
class_of_prefix prefix.No = class.No
class_of_prefix prefix.Some = class.Some
class_of_prefix prefix.Lone = class.Lone
class_of_prefix prefix.One = class.One
class_of_prefix prefix.Size = class.Hash
class_of_prefix prefix.Transpose = class.Tilde
class_of_prefix prefix.Closure = class.Caret
class_of_prefix prefix.ReflexiveClosure = class.Star

abbrev pub class_of_operator : Operator → Class
class_of_operator operator.Or = class.Or
class_of_operator operator.Iff = class.Iff
class_of_operator operator.And = class.And
class_of_operator operator.Union = class.Plus
class_of_operator operator.Minus = class.Minus
class_of_operator operator.Override = class.PlusPlus
class_of_operator operator.Meet = class.Ampersand
class_of_operator operator.Product = class.Arrow
class_of_operator operator.Domain = class.DomainArrow
class_of_operator operator.Range = class.RangeArrow

abbrev pub class_of_quantifier : Quantifier → Class
class_of_quantifier quantifier.All = class.All
class_of_quantifier quantifier.Some = class.Some
class_of_quantifier quantifier.No = class.No
class_of_quantifier quantifier.Lone = class.Lone
class_of_quantifier quantifier.One = class.One

abbrev pub class_of_comparison : Comparison → Class
class_of_comparison comparison.In = class.In
class_of_comparison comparison.Equal = class.Equal
class_of_comparison comparison.Less = class.Less
class_of_comparison comparison.Greater = class.Greater
class_of_comparison comparison.AtMost = class.AtMost
class_of_comparison comparison.AtLeast = class.AtLeast

-- ( "!" | "not" ) ( "in" | "=" ) | "!="
abbrev pub negated_comparison : Comparison → Place → Front
negated_comparison comparison.In p = sign class.Not p before mark_of class.In
negated_comparison comparison.Equal p = sign class.Not p before mark_of class.Equal or sign class.NotEqual p
negated_comparison comparison.Less p = λ ts rest. ⊥
negated_comparison comparison.Greater p = λ ts rest. ⊥
negated_comparison comparison.AtMost p = λ ts rest. ⊥
negated_comparison comparison.AtLeast p = λ ts rest. ⊥

abbrev pub comparing_over : Comparison → Bool → Place → Front
comparing_over c false p = sign (class_of_comparison c) p
comparing_over c true p = negated_comparison c p

-- comparing = [ "!" | "not" ] ( "in" | "=" ) | "!=" | "<" | ">" | "=<" | "<=" | ">="
abbrev pub comparing : Comparing → Front
comparing c = comparing_over c.comparison c.negated c.place

-- ---- parts

-- a part that binds at least so tightly
abbrev pub at_level : ℕ → Tree → Front → Front
at_level l x P ts rest = (l ≤ level_of x) × P ts rest

-- an operator of that level
abbrev pub operator_at : ℕ → Operator → Place → Front
operator_at l o p ts rest = (level_of_operator o ≡ l) × sign (class_of_operator o) p ts rest

-- an operator of formulas
unfoldable pub begins_operator : List ParserToken → Bool
begins_operator ts = next_is class.Or ts || (next_is class.Iff ts || (next_is class.Implies ts || next_is class.And ts))

-- no token, where no operator of formulas follows
abbrev pub unless_operator : Front
unless_operator ts rest = (ts ≡ rest) × (begins_operator rest ≡ false)

abbrev pub is_block : Tree → Bool
is_block (block p xs) = true
is_block _ = false

abbrev pub has_links : Links → Bool
has_links no_links = false
has_links (more_links o p x ls) = true

abbrev pub has_steps : Steps → Bool
has_steps no_steps = false
has_steps (join_first p x ss) = true
has_steps (brackets_first p xs ss) = true

abbrev pub has_declarations : Declarations → Bool
has_declarations no_declarations = false
has_declarations (more_declarations d ns m x ds) = true

abbrev pub has_bindings : Bindings → Bool
has_bindings no_bindings = false
has_bindings (more_bindings n x bs) = true

-- Body = "|" node | block. One that begins with a bar reaches as far to the right as it can: no operator of formulas stands behind it.
abbrev pub body : Tree → Front → Front
body x P = (mark_of class.Bar before P before unless_operator) or only (is_block x) P

-- what stands before each of a list but the first
abbrev pub comma : Front
comma = mark_of class.Comma

-- ---- trees

unfoldable mutual
  pub spells : Tree → Front
  spells (named n) = name n or spelled_as class.Path n
  spells (numbered n) = number n
  spells (constant c p) = sign (class_of_constant c) p
  spells (bracketed p x) = sign class.LeftParen p before spells x before mark_of class.RightParen
  spells (block p xs) = sign class.LeftBrace p before spells_trees nothing nothing xs before mark_of class.RightBrace
  spells (prefixed f p x) = sign (class_of_prefix f) p before at_level (level_behind f) x (spells x)
  spells (chain x ls) = only (has_links ls) (at_level (suc (level_of_links ls)) x (spells x) before spells_links (level_of_links ls) ls)
  spells (path x ss) = only (has_steps ss) (at_level tight_level x (spells x) before spells_steps ss)
  spells (compared x c y) = at_level counted_level x (spells x) before comparing c before at_level counted_level y (spells y)
  spells (implies x p y) = at_level and_level x (spells x) before sign class.Implies p before at_level implication_level y (spells y) before unless_next class.Else
  spells (implies_else x p y z) = at_level and_level x (spells x) before sign class.Implies p before at_level implication_level y (spells y) before mark_of class.Else before at_level implication_level z (spells z)
  spells (quantified q p ds x) = sign (class_of_quantifier q) p before only (has_declarations ds) (spells_declarations nothing ds) before body x (spells x)
  spells (bound_by_let p bs x) = sign class.Let p before only (has_bindings bs) (spells_bindings nothing bs) before body x (spells x)

  -- nodes, the first behind the one text, and the others behind the other
  pub spells_trees : Front → Front → Trees → Front
  spells_trees first next no_trees = nothing
  spells_trees first next (more_trees x xs) = first before spells x before spells_trees next next xs

  -- operators of one level, each with its operand
  pub spells_links : ℕ → Links → Front
  spells_links l no_links = nothing
  spells_links l (more_links o p x ls) = operator_at l o p before at_level (suc l) x (spells x) before spells_links l ls

  -- { "." tight | "[" [ node { "," node } ] "]" }
  pub spells_steps : Steps → Front
  spells_steps no_steps = nothing
  spells_steps (join_first p x ss) = sign class.Dot p before at_level tight_level x (spells x) before spells_steps ss
  spells_steps (brackets_first p xs ss) = sign class.LeftBracket p before spells_trees nothing comma xs before mark_of class.RightBracket before spells_steps ss

  -- decl { "," decl }, decl = [ "disj" ] names ":" [ mult ] sum
  pub spells_declarations : Front → Declarations → Front
  spells_declarations first no_declarations = nothing
  spells_declarations first (more_declarations d ns m x ds) = first before flag class.Disj d before names ns before mark_of class.Colon before mark m before at_level sum_level x (spells x) before spells_declarations comma ds

  -- name "=" sum { "," name "=" sum }
  pub spells_bindings : Front → Bindings → Front
  spells_bindings first no_bindings = nothing
  spells_bindings first (more_bindings n x bs) = first before name n before mark_of class.Equal before at_level sum_level x (spells x) before spells_bindings comma bs
