-- Shortest texts that begin with a given token.
use Rattle.std.proofs.Common.{◌≡◌, ℕ, ◌≤◌, true, List, Some, refl, sym, ◌∙◌, arith}
use Rattle.alloy_syntax.specs.declared.class.Class.{Class}
use Rattle.alloy_syntax.specs.declared.class.Class.TheVariants as class
use Rattle.alloy_syntax.specs.declared.reading.Inside.{Inside}
use Rattle.alloy_syntax.specs.declared.reading.Inside.TheVariants as inside
use Rattle.alloy_syntax.specs.declared.tree.Prefix.TheVariants as prefix
use Rattle.alloy_syntax.specs.declared.tree.Quantifier.TheVariants as quantifier
use Rattle.alloy_syntax.specs.declared.tree.Constant.TheVariants as constants
use Rattle.alloy_syntax.specs.declared.parser_token.ParserToken.{ParserToken}
use Rattle.alloy_syntax.specs.Readers.{next_is}
use Rattle.alloy_syntax.specs.Nodes.{begins_primary, is_tightening, begins_tight, begins_sum, is_counting, begins_node, is_comprehension, may_be_block, begins}
use Rattle.alloy_grammar.specs.Fronts.{Front}
use Rattle.alloy_grammar.specs.Levels.{implication_level, negation_level, sum_level, size_level, tight_level, primary_level}
use Rattle.alloy_grammar.proofs.Tokens.{and_left}
use Rattle.alloy_grammar.specs.Refusals.Texts.{next_terminal}
use Rattle.alloy_grammar.proofs.Prefixes.CompletedReadings.{Token, some, that, Closing, either_of, terminal_is, close_none, close_maybe, close_token, close_then, close_map, close_name, close_listed, close_names}
use Rattle.alloy_grammar.proofs.Prefixes.Texts.{Node, Braces, lower, named_text, path_text, number_text, constant_text, paren_text, braces_text, block_text, prefix_text, Word, Variables, Domain, Declaration, Body, Quantified, Let, quantified_text, let_text, Part}

-- ---- shortest texts

abbrev pub close_primary : Closing (Node primary_level)
close_primary = close_map named_text close_name

abbrev pub close_node : (l : ℕ) → l ≤ primary_level → Closing (Node l)
close_node l less = close_map (lower l less) close_primary

abbrev pub close_sum : Closing (Node sum_level)
close_sum = close_node sum_level (omega arith)

abbrev pub close_braces : Closing Braces
close_braces = close_map braces_text (close_then (close_token class.LeftBrace refl) (close_then (close_none (Node 0)) (close_token class.RightBrace refl)))

abbrev pub close_body : Closing Body
close_body = close_map (λ us vs b. that b) close_braces

abbrev pub close_domain : Closing Domain
close_domain = close_then (close_maybe Word) close_sum

abbrev pub close_variables : Closing Variables
close_variables = close_then (close_maybe (Token class.Disj)) (close_then close_names (close_token class.Colon refl))

abbrev pub close_declaration : Closing Declaration
close_declaration = close_then close_variables close_domain

abbrev pub close_quantified : Closing Quantified
close_quantified = close_then (close_listed close_declaration) close_body

abbrev pub close_let : Closing Let
close_let = close_then (close_listed (close_then close_name (close_then (close_token class.Equal refl) close_sum))) close_body

abbrev pub close_part : (part : Inside) → Closing (Part part)
close_part inside.Node = close_node 0 (omega arith)
close_part inside.Negation = close_node negation_level (omega arith)
close_part inside.Implied = close_node implication_level (omega arith)
close_part inside.Sum = close_sum
close_part inside.Size = close_node 8 (omega arith)
close_part inside.Tight = close_node tight_level (omega arith)
close_part (inside.Quantified q p) = close_quantified
close_part (inside.Let p) = close_let

-- ---- such that begin alike

pub record Opens (F : Front) (ts : List ParserToken) : Type 0 where
  pub close : Closing F
  pub alike : (rest : List ParserToken) → next_terminal (close.tokens rest) ≡ next_terminal ts

pub opens : {F : Front} {ts : List ParserToken} (c : Class) (close : Closing F) → ((rest : List ParserToken) → next_terminal (close.tokens rest) ≡ Some c) → next_is c ts ≡ true → Opens F ts
opens {F} {ts} c close first is = record { close = close; alike = λ rest. first rest ∙ sym (terminal_is c ts is) }

opens_map : {F G : Front} {ts : List ParserToken} → ((us vs : List ParserToken) → F us vs → G us vs) → Opens F ts → Opens G ts
opens_map to o = record { close = close_map to o.close; alike = o.alike }

opens_primary : (ts : List ParserToken) → begins_primary ts ≡ true → Opens (Node primary_level) ts
unfolding begins_primary
opens_primary ts e =
    either_of e (λ e1. either_of e1 (λ e2. either_of e2 (λ e3. either_of e3 (λ e4. either_of e4 (λ e5. either_of e5 (λ e6. either_of e6
    (opens class.Name close_primary (λ rest. refl))
    (opens class.Path (close_map path_text (close_token class.Path refl)) (λ rest. refl)))
    (opens class.Number (close_map number_text (close_token class.Number refl)) (λ rest. refl)))
    (opens class.None (close_map (constant_text constants.None) (close_token class.None refl)) (λ rest. refl)))
    (opens class.Univ (close_map (constant_text constants.Univ) (close_token class.Univ refl)) (λ rest. refl)))
    (opens class.Iden (close_map (constant_text constants.Iden) (close_token class.Iden refl)) (λ rest. refl)))
    (opens class.LeftParen (close_map paren_text (close_then (close_token class.LeftParen refl) (close_then (close_node 0 (omega arith)) (close_token class.RightParen refl)))) (λ rest. refl)))
    (opens class.LeftBrace (close_map block_text close_braces) (λ rest. refl))

opens_tight : (ts : List ParserToken) → begins_tight ts ≡ true → Opens (Node tight_level) ts
unfolding begins_tight is_tightening
opens_tight ts e =
    let inner = close_node tight_level (omega arith) in
    either_of e (λ e1. either_of e1 (λ e2. either_of e2
    (opens class.Tilde (close_map (prefix_text prefix.Transpose) (close_then (close_token class.Tilde refl) inner)) (λ rest. refl))
    (opens class.Caret (close_map (prefix_text prefix.Closure) (close_then (close_token class.Caret refl) inner)) (λ rest. refl)))
    (opens class.Star (close_map (prefix_text prefix.ReflexiveClosure) (close_then (close_token class.Star refl) inner)) (λ rest. refl)))
    (λ p. opens_map (lower tight_level (omega arith)) (opens_primary ts p))

opens_size : (ts : List ParserToken) → begins_sum ts ≡ true → Opens (Node size_level) ts
unfolding begins_sum
opens_size ts e =
    either_of e (opens class.Hash (close_map (prefix_text prefix.Size) (close_then (close_token class.Hash refl) (close_node size_level (omega arith)))) (λ rest. refl))
    (λ t. opens_map (lower size_level (omega arith)) (opens_tight ts t))

opens_node : (ts : List ParserToken) → begins_node ts ≡ true → Opens (Node negation_level) ts
unfolding begins_node is_counting
opens_node ts e =
    let down = lower {k = 6} negation_level (omega arith) in
    either_of e (λ e1. either_of e1 (λ e2. either_of e2 (λ e3. either_of e3
    (opens class.Not (close_map (prefix_text prefix.Not) (close_then (close_token class.Not refl) (close_node negation_level (omega arith)))) (λ rest. refl))
    (opens class.All (close_map (quantified_text quantifier.All) (close_then (close_token class.All refl) close_quantified)) (λ rest. refl)))
    (opens class.Let (close_map let_text (close_then (close_token class.Let refl) close_let)) (λ rest. refl)))
    (λ c1. either_of c1 (λ c2. either_of c2 (λ c3. either_of c3
    (opens class.Some (close_map down (close_map (prefix_text prefix.Some) (close_then (close_token class.Some refl) close_sum))) (λ rest. refl))
    (opens class.No (close_map down (close_map (prefix_text prefix.No) (close_then (close_token class.No refl) close_sum))) (λ rest. refl)))
    (opens class.Lone (close_map down (close_map (prefix_text prefix.Lone) (close_then (close_token class.Lone refl) close_sum))) (λ rest. refl)))
    (opens class.One (close_map down (close_map (prefix_text prefix.One) (close_then (close_token class.One refl) close_sum))) (λ rest. refl))))
    (λ s. opens_map (lower negation_level (omega arith)) (opens_size ts s))

abbrev with_disj : Closing Quantified
with_disj = close_then (close_listed (close_then (close_then (close_map (λ us vs t. some t) (close_token class.Disj refl)) (close_then close_names (close_token class.Colon refl))) close_domain)) close_body

-- a shortest text of a part under one construct more, where the next token may begin it
pub opens_part : (part : Inside) (ts : List ParserToken) → begins part ts ≡ true → Opens (Part part) ts
unfolding begins
opens_part inside.Node ts e = opens_map (lower 0 (omega arith)) (opens_node ts e)
opens_part inside.Negation ts e = opens_node ts e
opens_part inside.Implied ts e = opens_map (lower implication_level (omega arith)) (opens_node ts e)
opens_part inside.Sum ts e = opens_map (lower sum_level (omega arith)) (opens_size ts e)
opens_part inside.Size ts e = opens_size ts e
opens_part inside.Tight ts e = opens_tight ts e
opens_part (inside.Quantified q p) ts e = either_of e (opens class.Disj with_disj (λ rest. refl)) (opens class.Name close_quantified (λ rest. refl))
opens_part (inside.Let p) ts e = opens class.Name close_let (λ rest. refl) e

-- a block, where one may stand
pub opens_block : (part : Inside) (ts : List ParserToken) → may_be_block part ≡ true → is_comprehension ts ≡ true → Opens (Part part) ts
unfolding may_be_block is_comprehension
opens_block inside.Node ts e is = opens class.LeftBrace (close_map (lower 0 (omega arith)) (close_map block_text close_braces)) (λ rest. refl) (and_left _ _ is)
opens_block inside.Negation ts e is = opens class.LeftBrace (close_map (lower negation_level (omega arith)) (close_map block_text close_braces)) (λ rest. refl) (and_left _ _ is)
opens_block inside.Implied ts e is = opens class.LeftBrace (close_map (lower implication_level (omega arith)) (close_map block_text close_braces)) (λ rest. refl) (and_left _ _ is)
opens_block inside.Sum ts e is = opens class.LeftBrace (close_map (lower sum_level (omega arith)) (close_map block_text close_braces)) (λ rest. refl) (and_left _ _ is)
opens_block inside.Size ts e is = opens class.LeftBrace (close_map (lower size_level (omega arith)) (close_map block_text close_braces)) (λ rest. refl) (and_left _ _ is)
opens_block inside.Tight ts e is = opens class.LeftBrace (close_map (lower tight_level (omega arith)) (close_map block_text close_braces)) (λ rest. refl) (and_left _ _ is)
opens_block (inside.Quantified q p) ts e is = absurd cc
opens_block (inside.Let p) ts e is = absurd cc
