-- How nodes are read: each rule of the grammar over the parts that stand under one construct more.
use Rattle.std.specs.Prelude.{ℕ, zero, suc, List, [], ◌∷◌, Bool, true, false, not, ◌&&◌, ◌||◌, if◌then◌else◌, Result, Ok, Err}
use Rattle.alloy_lex.specs.declared.token.Place.{Place}
use Rattle.alloy_syntax.specs.declared.class.Class.TheVariants as class
use Rattle.alloy_syntax.specs.declared.reading.Form.TheVariants as form
use Rattle.alloy_syntax.specs.declared.reading.Around.{Around}
use Rattle.alloy_syntax.specs.declared.reading.Around.TheVariants as around
use Rattle.alloy_syntax.specs.declared.reading.Level.{Level}
use Rattle.alloy_syntax.specs.declared.reading.Level.TheVariants as level
use Rattle.alloy_syntax.specs.declared.reading.Inside.{Inside}
use Rattle.alloy_syntax.specs.declared.reading.Inside.TheVariants as inside
use Rattle.alloy_syntax.specs.declared.tree.Name.{Name}
use Rattle.alloy_syntax.specs.declared.tree.Quantifier.{Quantifier}
use Rattle.alloy_syntax.specs.declared.tree.Quantifier.TheVariants as quantifier
use Rattle.alloy_syntax.specs.declared.tree.Constant.{Constant}
use Rattle.alloy_syntax.specs.declared.tree.Constant.TheVariants as constants
use Rattle.alloy_syntax.specs.declared.tree.Prefix.{Prefix}
use Rattle.alloy_syntax.specs.declared.tree.Prefix.TheVariants as prefix
use Rattle.alloy_syntax.specs.declared.tree.Operator.{Operator}
use Rattle.alloy_syntax.specs.declared.tree.Operator.TheVariants as operator
use Rattle.alloy_syntax.specs.declared.tree.Comparison.{Comparison}
use Rattle.alloy_syntax.specs.declared.tree.Comparison.TheVariants as comparison
use Rattle.alloy_syntax.specs.declared.tree.Comparing.{Comparing}
use Rattle.alloy_syntax.specs.declared.parser_token.ParserToken.{ParserToken}
use Rattle.alloy_syntax.specs.Tree.{Tree, named, numbered, constant, bracketed, block, prefixed, chain, path, compared, implies, implies_else, quantified, bound_by_let, LinkTree, StepTree, joined, in_brackets, DeclarationTree, BindingTree, BlockTree, trees_of, links_of, steps_of, declarations_of, bindings_of}
use Rattle.alloy_syntax.specs.Readers.{ParseStopView, refused, too_deep, unsupported, Parser, ◌>>=◌, next_is, after, place_at, expect, name_at, path_at, number_at, is_mark, mark_at, after_mark, many, with_front, listed, names_at, colon_after_names}

-- a reader of what stands under one construct more, in these brackets
abbrev pub Reader : Type 0
Reader = Around → Inside → Parser Tree

unfoldable pub in_braces : Around → Bool
in_braces around.Braces = true
in_braces around.Brackets = false
in_braces around.Parens = false

unfoldable pub in_brackets_too : Around → Bool
in_brackets_too around.Braces = false
in_brackets_too around.Brackets = true
in_brackets_too around.Parens = false

-- ---- which token may begin what

unfoldable pub begins_primary : List ParserToken → Bool
begins_primary ts =
    next_is class.Name ts || next_is class.Path ts || next_is class.Number ts || next_is class.None ts || next_is class.Univ ts || next_is class.Iden ts
    || next_is class.LeftParen ts || next_is class.LeftBrace ts

unfoldable pub is_tightening : List ParserToken → Bool
is_tightening ts = next_is class.Tilde ts || next_is class.Caret ts || next_is class.Star ts

unfoldable pub begins_tight : List ParserToken → Bool
begins_tight ts = is_tightening ts || begins_primary ts

unfoldable pub begins_sum : List ParserToken → Bool
begins_sum ts = next_is class.Hash ts || begins_tight ts

-- `some`, `no`, `lone` and `one`
unfoldable pub is_counting : List ParserToken → Bool
is_counting ts = next_is class.Some ts || next_is class.No ts || next_is class.Lone ts || next_is class.One ts

unfoldable pub begins_node : List ParserToken → Bool
begins_node ts = next_is class.Not ts || next_is class.All ts || next_is class.Let ts || is_counting ts || begins_sum ts

unfoldable pub begins : Inside → List ParserToken → Bool
begins inside.Node = begins_node
begins inside.Negation = begins_node
begins inside.Implied = begins_node
begins inside.Sum = begins_sum
begins inside.Size = begins_sum
begins inside.Tight = begins_tight
begins (inside.Quantified q p) = λ ts. next_is class.Disj ts || next_is class.Name ts
begins (inside.Let p) = next_is class.Name

unfoldable pub may_be_block : Inside → Bool
may_be_block inside.Node = true
may_be_block inside.Negation = true
may_be_block inside.Implied = true
may_be_block inside.Sum = true
may_be_block inside.Size = true
may_be_block inside.Tight = true
may_be_block (inside.Quantified q p) = false
may_be_block (inside.Let p) = false

-- a brace, names with commas, and a colon
unfoldable pub is_comprehension : List ParserToken → Bool
is_comprehension ts = next_is class.LeftBrace ts && colon_after_names (after ts)

-- where one construct more would be one too many
unfoldable pub stop_at : {A : Type 0} → Inside → Parser A
stop_at part ts =
    if may_be_block part && is_comprehension ts then Err (unsupported form.Comprehension ts)
    else (if begins part ts then Err (too_deep ts)
    else Err (refused ts))

-- ---- blocks, brackets and names

-- not the end of a block
unfoldable pub is_inner : List ParserToken → Bool
is_inner ts = not (next_is class.RightBrace ts)

unfoldable pub block_over : Reader → Parser BlockTree
block_over i ts =
    if is_comprehension ts then Err (unsupported form.Comprehension ts)
    else (do
      opened ← expect class.LeftBrace ts
      xs ← many is_inner (i around.Braces inside.Node) opened.1
      closed ← expect class.RightBrace xs.1
      Ok (record { place = opened.0; formulas = xs.0 }, closed.1))

unfoldable pub block_tree : Reader → Parser Tree
block_tree i ts = block_over i ts >>= λ x. Ok (block x.0.place (trees_of x.0.formulas), x.1)

unfoldable pub paren_over : Reader → Parser Tree
paren_over i ts = do
  opened ← expect class.LeftParen ts
  x ← i around.Parens inside.Node opened.1
  closed ← expect class.RightParen x.1
  Ok (bracketed opened.0 x.0, closed.1)

unfoldable pub is_constant : List ParserToken → Bool
is_constant ts = next_is class.None ts || next_is class.Univ ts || next_is class.Iden ts

unfoldable pub constant_of : List ParserToken → Constant
constant_of ts = if next_is class.None ts then constants.None else (if next_is class.Univ ts then constants.Univ else constants.Iden)

-- primary = name | path | number | "none" | "univ" | "iden" | "(" node ")" | block
unfoldable pub primary_over : Reader → Parser Tree
primary_over i ts =
    if next_is class.Name ts then name_at ts >>= (λ x. Ok (named x.0, x.1))
    else (if next_is class.Path ts then path_at ts >>= (λ x. Ok (named x.0, x.1))
    else (if next_is class.Number ts then number_at ts >>= (λ x. Ok (numbered x.0, x.1))
    else (if is_constant ts then Ok (constant (constant_of ts) (place_at ts), after ts)
    else (if next_is class.LeftParen ts then paren_over i ts
    else block_tree i ts))))

-- ---- expressions

unfoldable pub tightening_of : List ParserToken → Prefix
tightening_of ts = if next_is class.Tilde ts then prefix.Transpose else (if next_is class.Caret ts then prefix.Closure else prefix.ReflexiveClosure)

-- what stands behind a prefix, with the place of the prefix
unfoldable pub behind_prefix : Prefix → Parser Tree → Parser Tree
behind_prefix p item ts = item (after ts) >>= λ x. Ok (prefixed p (place_at ts) x.0, x.1)

-- tight = ( "~" | "^" | "*" ) tight | primary
unfoldable pub tight_over : Reader → Around → Parser Tree
tight_over i a ts = if is_tightening ts then behind_prefix (tightening_of ts) (i a inside.Tight) ts else primary_over i ts

unfoldable pub arguments_over : Reader → Parser (List Tree)
arguments_over i ts = if next_is class.RightBracket ts then Ok ([], ts) else listed (i around.Brackets inside.Node) ts

unfoldable pub brackets_over : Reader → Parser StepTree
brackets_over i ts = do
  opened ← expect class.LeftBracket ts
  xs ← arguments_over i opened.1
  closed ← expect class.RightBracket xs.1
  Ok (in_brackets opened.0 xs.0, closed.1)

unfoldable pub begins_step : List ParserToken → Bool
begins_step ts = next_is class.Dot ts || next_is class.LeftBracket ts

unfoldable pub step_over : Reader → Around → Parser StepTree
step_over i a ts = if next_is class.Dot ts then tight_over i a (after ts) >>= (λ x. Ok (joined (place_at ts) x.0, x.1)) else brackets_over i ts

-- path = tight { "." tight | "[" [ node { "," node } ] "]" }
unfoldable pub path_over : Reader → Around → Parser Tree
path_over i a ts = tight_over i a ts >>= λ x.
    if begins_step x.1 then many begins_step (step_over i a) x.1 >>= (λ xs. Ok (path x.0 (steps_of xs.0), xs.1)) else Ok x

-- which token goes on with a chain of that level
unfoldable pub begins_link : Level → List ParserToken → Bool
begins_link level.Or ts = next_is class.Or ts
begins_link level.Iff ts = next_is class.Iff ts
begins_link level.And ts = next_is class.And ts
begins_link level.Sum ts = next_is class.Plus ts || next_is class.Minus ts
begins_link level.Override ts = next_is class.PlusPlus ts
begins_link level.Meet ts = next_is class.Ampersand ts
begins_link level.Restrict ts = next_is class.DomainArrow ts || next_is class.RangeArrow ts

unfoldable pub operator_of : Level → List ParserToken → Operator
operator_of level.Or ts = operator.Or
operator_of level.Iff ts = operator.Iff
operator_of level.And ts = operator.And
operator_of level.Sum ts = if next_is class.Plus ts then operator.Union else operator.Minus
operator_of level.Override ts = operator.Override
operator_of level.Meet ts = operator.Meet
operator_of level.Restrict ts = if next_is class.DomainArrow ts then operator.Domain else operator.Range

unfoldable pub link_over : Level → Parser Tree → Parser LinkTree
link_over l item ts = item (after ts) >>= λ x. Ok (record { operator = operator_of l ts; place = place_at ts; operand = x.0 }, x.1)

-- operands with that level's operators between them; one alone stands for itself
unfoldable pub chained : Level → Parser Tree → Parser Tree
chained l item ts = item ts >>= λ x.
    if begins_link l x.1 then many (begins_link l) (link_over l item) x.1 >>= (λ xs. Ok (chain x.0 (links_of xs.0), xs.1)) else Ok x

unfoldable pub restrict_over : Reader → Around → Parser Tree
restrict_over i a = chained level.Restrict (path_over i a)

-- an arrow, or a multiplicity word and an arrow
unfoldable pub begins_arrow : List ParserToken → Bool
begins_arrow ts = next_is class.Arrow ts || (is_mark ts && next_is class.Arrow (after ts))

unfoldable pub arrow_over : Reader → Around → Parser LinkTree
arrow_over i a ts =
    if is_mark ts then Err (unsupported form.ArrowMultiplicity ts)
    else (if is_mark (after ts) then Err (unsupported form.ArrowMultiplicity (after ts))
    else restrict_over i a (after ts) >>= (λ x. Ok (record { operator = operator.Product; place = place_at ts; operand = x.0 }, x.1)))

-- arrows = restrict { "->" restrict }
unfoldable pub arrows_over : Reader → Around → Parser Tree
arrows_over i a ts = restrict_over i a ts >>= λ x.
    if begins_arrow x.1 then many begins_arrow (arrow_over i a) x.1 >>= (λ xs. Ok (chain x.0 (links_of xs.0), xs.1)) else Ok x

unfoldable pub meet_over : Reader → Around → Parser Tree
meet_over i a = chained level.Meet (arrows_over i a)

unfoldable pub override_over : Reader → Around → Parser Tree
override_over i a = chained level.Override (meet_over i a)

-- size = "#" size | override
unfoldable pub size_over : Reader → Around → Parser Tree
size_over i a ts = if next_is class.Hash ts then behind_prefix prefix.Size (i a inside.Size) ts else override_over i a ts

unfoldable pub sum_over : Reader → Around → Parser Tree
sum_over i a = chained level.Sum (size_over i a)

-- an expression in braces
unfoldable pub braced_over : Reader → Parser Tree
braced_over i ts = do
  opened ← expect class.LeftBrace ts
  x ← i around.Parens inside.Sum opened.1
  closed ← expect class.RightBrace x.1
  Ok (x.0, closed.1)

-- ---- formulas

unfoldable pub counting_of : List ParserToken → Prefix
counting_of ts =
    if next_is class.Some ts then prefix.Some else (if next_is class.No ts then prefix.No else (if next_is class.Lone ts then prefix.Lone else prefix.One))

-- counted = [ "no" | "some" | "lone" | "one" ] sum
unfoldable pub counted_over : Reader → Around → Parser Tree
counted_over i a ts = if is_counting ts then behind_prefix (counting_of ts) (i a inside.Sum) ts else sum_over i a ts

unfoldable pub is_plain_comparison : List ParserToken → Bool
is_plain_comparison ts =
    next_is class.In ts || next_is class.Equal ts || next_is class.NotEqual ts || next_is class.Less ts || next_is class.Greater ts
    || next_is class.AtMost ts || next_is class.AtLeast ts

-- A comparison goes on. In braces a `!` that neither `in` nor `=` follows begins the next node.
unfoldable pub begins_comparison : Around → List ParserToken → Bool
begins_comparison a ts =
    is_plain_comparison ts || (next_is class.Not ts && (next_is class.In (after ts) || next_is class.Equal (after ts) || not (in_braces a)))

unfoldable pub comparison_of : List ParserToken → Comparison
comparison_of ts =
    if next_is class.In ts then comparison.In
    else (if next_is class.Less ts then comparison.Less
    else (if next_is class.Greater ts then comparison.Greater
    else (if next_is class.AtMost ts then comparison.AtMost
    else (if next_is class.AtLeast ts then comparison.AtLeast
    else comparison.Equal))))

-- `!` or `not`, and then `in` or `=`
unfoldable pub negated_comparing : Parser Comparing
negated_comparing ts =
    if next_is class.In (after ts) || next_is class.Equal (after ts) then Ok (record { comparison = comparison_of (after ts); negated = true; place = place_at ts }, after (after ts))
    else Err (refused (after ts))

-- a comparison, which may be negated
unfoldable pub comparing_at : Parser Comparing
comparing_at ts =
    if next_is class.Not ts then negated_comparing ts
    else Ok (record { comparison = comparison_of ts; negated = next_is class.NotEqual ts; place = place_at ts }, after ts)

-- comparison = counted [ comparing counted ]
unfoldable pub comparison_over : Reader → Around → Parser Tree
comparison_over i a ts = counted_over i a ts >>= λ x.
    if begins_comparison a x.1 then comparing_at x.1 >>= (λ c. counted_over i a c.1 >>= λ y. Ok (compared x.0 c.0 y.0, y.1)) else Ok x

-- what follows a word that may begin a quantifier: `disj`, or names with commas and then a colon
unfoldable pub begins_declaration : Around → List ParserToken → Bool
begins_declaration a ts =
    next_is class.Disj ts
    || (if in_brackets_too a then colon_after_names ts else next_is class.Name ts && (next_is class.Comma (after ts) || next_is class.Colon (after ts)))

unfoldable pub quantifier_of : List ParserToken → Quantifier
quantifier_of ts =
    if next_is class.Some ts then quantifier.Some else (if next_is class.No ts then quantifier.No else (if next_is class.Lone ts then quantifier.Lone else quantifier.One))

-- negation = ( "!" | "not" ) negation | quantified | let | comparison
unfoldable pub negation_over : Reader → Around → Parser Tree
negation_over i a ts =
    if next_is class.Not ts then behind_prefix prefix.Not (i a inside.Negation) ts
    else (if next_is class.All ts then i a (inside.Quantified quantifier.All (place_at ts)) (after ts)
    else (if next_is class.Let ts then i a (inside.Let (place_at ts)) (after ts)
    else (if is_counting ts && begins_declaration a (after ts) then i a (inside.Quantified (quantifier_of ts) (place_at ts)) (after ts)
    else comparison_over i a ts)))

unfoldable pub and_over : Reader → Around → Parser Tree
and_over i a = chained level.And (negation_over i a)

-- what stands behind `=>`, where a nearer `else` belongs to a nearer `=>`
unfoldable pub implied_over : Reader → Around → Tree → Place → Parser Tree
implied_over i a left p ts = i a inside.Implied ts >>= λ x.
    if next_is class.Else x.1 then i a inside.Implied (after x.1) >>= (λ y. Ok (implies_else left p x.0 y.0, y.1)) else Ok (implies left p x.0, x.1)

-- implication = and [ "=>" implication [ "else" implication ] ]
unfoldable pub implication_over : Reader → Around → Parser Tree
implication_over i a ts = and_over i a ts >>= λ x.
    if next_is class.Implies x.1 then implied_over i a x.0 (place_at x.1) (after x.1) else Ok x

unfoldable pub iff_over : Reader → Around → Parser Tree
iff_over i a = chained level.Iff (implication_over i a)

-- node = iff { "||" iff }
unfoldable pub node_over : Reader → Around → Parser Tree
node_over i a = chained level.Or (iff_over i a)

-- ---- quantifiers and lets

-- `lone` and `one` bind one variable
unfoldable pub is_single : Quantifier → Bool
is_single quantifier.All = false
is_single quantifier.Some = false
is_single quantifier.No = false
is_single quantifier.Lone = true
is_single quantifier.One = true

abbrev pub after_disj : List ParserToken → List ParserToken
after_disj ts = if next_is class.Disj ts then after ts else ts

-- a second variable where only one may be bound
abbrev pub second_is_refused : {A : Type 0} → Parser A
second_is_refused ts = name_at ts >>= λ x. Err (unsupported form.Several ts)

-- behind `disj`: one name alone
unfoldable pub one_name : Parser (List Name)
one_name ts = name_at ts >>= λ x. if next_is class.Comma x.1 then second_is_refused (after x.1) else Ok (x.0 ∷ [], x.1)

abbrev pub are_several : List Name → Bool
are_several [] = false
are_several (first ∷ []) = false
are_several (first ∷ second ∷ more) = true

-- the names that were read from ts, of which there is one where only one may be bound; the second stands behind the first comma
abbrev pub one_alone : Bool → List ParserToken → List Name → List ParserToken → Result (List Name × List ParserToken) ParseStopView
one_alone single ts names rest = if single && are_several names then Err (unsupported form.Several (after (after ts))) else Ok (names, rest)

-- the names that variables have
unfoldable pub variable_names : Bool → Parser (List Name)
variable_names single ts = if single && next_is class.Disj ts then one_name (after ts) else names_at (after_disj ts)

unfoldable pub variables_over : Bool → Parser (List Name)
variables_over single ts = do
  names ← variable_names single ts
  colon ← expect class.Colon names.1
  one_alone single ts names.0 colon.1

-- declaration = [ "disj" ] names ":" [ mult ] sum
unfoldable pub declaration_over : Reader → Bool → Parser DeclarationTree
declaration_over i single ts = do
  names ← variables_over single ts
  domain ← sum_over i around.Parens (after_mark names.1)
  Ok (record { disjoint = next_is class.Disj ts; names = names.0; mark = mark_at names.1; domain = domain.0 }, domain.1)

unfoldable pub another_declaration : Reader → Bool → Parser DeclarationTree
another_declaration i single ts = if single then second_is_refused (after_disj (after ts)) else declaration_over i false (after ts)

unfoldable pub more_declarations : Reader → Bool → DeclarationTree → Parser (List DeclarationTree)
more_declarations i single first ts = with_front (first ∷ []) (many (next_is class.Comma) (another_declaration i single) ts)

unfoldable pub declarations_over : Reader → Bool → Parser (List DeclarationTree)
declarations_over i single ts = declaration_over i single ts >>= λ first. more_declarations i single first.0 first.1

-- body = "|" node | block
unfoldable pub body_over : Reader → Around → Parser Tree
body_over i a ts = if next_is class.Bar ts then node_over i a (after ts) else block_tree i ts

-- with forms refused or not
unfoldable pub quantified_over : Bool → Reader → Around → Quantifier → Place → Parser Tree
quantified_over strict i a q p ts = do
  declared ← declarations_over i (strict && is_single q) ts
  body ← body_over i a declared.1
  Ok (quantified q p (declarations_of declared.0) body.0, body.1)

unfoldable pub binding_over : Reader → Parser BindingTree
binding_over i ts = do
  name ← name_at ts
  equal ← expect class.Equal name.1
  value ← sum_over i around.Parens equal.1
  Ok (record { name = name.0; value = value.0 }, value.1)

unfoldable pub bindings_over : Reader → Parser (List BindingTree)
bindings_over i = listed (binding_over i)

-- let = name "=" sum { "," name "=" sum } body
unfoldable pub let_over : Reader → Around → Place → Parser Tree
let_over i a p ts = do
  bound ← bindings_over i ts
  body ← body_over i a bound.1
  Ok (bound_by_let p (bindings_of bound.0) body.0, body.1)

-- ---- how deep constructs nest

unfoldable pub inside_over : Bool → Reader → Reader
inside_over strict i a inside.Node = node_over i a
inside_over strict i a inside.Negation = negation_over i a
inside_over strict i a inside.Implied = implication_over i a
inside_over strict i a inside.Sum = sum_over i a
inside_over strict i a inside.Size = size_over i a
inside_over strict i a inside.Tight = tight_over i a
inside_over strict i a (inside.Quantified q p) = quantified_over strict i a q p
inside_over strict i a (inside.Let p) = let_over i a p

-- What stands under constructs, where so many more may nest; at 0 it lies too deep. Several variables of `lone` and `one`
-- are refused where reading is strict, as it is but in proofs.
unfoldable pub within : Bool → ℕ → Reader
within strict zero a part = stop_at part
within strict (suc room) a part = inside_over strict (within strict room) a part
