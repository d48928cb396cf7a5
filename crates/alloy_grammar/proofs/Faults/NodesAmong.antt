-- Nodes leave the last of the tokens, and reading them stops among the tokens.
use Rattle.std.proofs.Common.{zero, suc, ℕ, Bool, false, ◌&&◌, ◌||◌, List, refl}
use Rattle.alloy_lex.specs.declared.token.Place.{Place}
use Rattle.alloy_syntax.specs.declared.class.Class.TheVariants as class
use Rattle.alloy_syntax.specs.declared.reading.Form.TheVariants as form
use Rattle.alloy_syntax.specs.declared.reading.Around.{Around}
use Rattle.alloy_syntax.specs.declared.reading.Around.TheVariants as around
use Rattle.alloy_syntax.specs.declared.reading.Level.{Level}
use Rattle.alloy_syntax.specs.declared.reading.Level.TheVariants as level
use Rattle.alloy_syntax.specs.declared.reading.Inside.{Inside}
use Rattle.alloy_syntax.specs.declared.reading.Inside.TheVariants as inside
use Rattle.alloy_syntax.specs.declared.tree.Quantifier.{Quantifier}
use Rattle.alloy_syntax.specs.declared.tree.Quantifier.TheVariants as quantifier
use Rattle.alloy_syntax.specs.declared.tree.Prefix.{Prefix}
use Rattle.alloy_syntax.specs.declared.tree.Prefix.TheVariants as prefix
use Rattle.alloy_syntax.specs.declared.parser_token.ParserToken.{ParserToken}
use Rattle.alloy_syntax.specs.Tree.{Tree}
use Rattle.alloy_syntax.specs.Readers.{refused, too_deep, unsupported, Parser, next_is, after, place_at, is_mark, after_mark}
use Rattle.alloy_syntax.specs.Nodes.{Reader, begins, may_be_block, stop_at, is_comprehension, block_over, block_tree, is_inner, paren_over, is_constant, primary_over, behind_prefix, is_tightening, tightening_of, tight_over, arguments_over, brackets_over, begins_step, step_over, path_over, begins_link, link_over, chained, restrict_over, begins_arrow, arrow_over, arrows_over, meet_over, override_over, size_over, sum_over, braced_over, counting_of, is_counting, counted_over, begins_comparison, negated_comparing, comparing_at, comparison_over, begins_declaration, quantifier_of, negation_over, and_over, implied_over, implication_over, iff_over, node_over, is_single, after_disj, second_is_refused, one_name, are_several, variable_names, variables_over, declaration_over, another_declaration, more_declarations, declarations_over, body_over, quantified_over, binding_over, bindings_over, let_over, inside_over, within}
use Rattle.alloy_grammar.specs.Faults.Stops.{AreLast}
use Rattle.alloy_grammar.proofs.Faults.LastTokens.{Keeps, read, stops, after_last, choice_last, after_mark_last, among_then, among_choice, expect_lands, spelled_lands, number_lands, many_lands, listed_lands, names_land}

abbrev pub Below : List ParserToken → Reader → Type 0
Below base i = (a : Around) (part : Inside) → Keeps base (i a part)

module _ (base : List ParserToken) where
  pub link_lands : (l : Level) (p : Parser Tree) → Keeps base p → Keeps base (link_over l p)
  unfolding link_over
  link_lands l p h ts e = among_then (h (after ts) (after_last base ts e)) (λ x f. read _ refl f)

  pub chained_lands : (l : Level) (p : Parser Tree) → Keeps base p → Keeps base (chained l p)
  unfolding chained
  chained_lands l p h ts e = among_then (h ts e) (λ x f. among_choice (begins_link l x.1) (among_then (many_lands base (begins_link l) (link_over l p) (link_lands l p h) x.1 f) (λ xs g. read _ refl g)) (read _ refl f))

  pub prefix_lands : (k : Prefix) (p : Parser Tree) → Keeps base p → Keeps base (behind_prefix k p)
  unfolding behind_prefix
  prefix_lands k p h ts e = among_then (h (after ts) (after_last base ts e)) (λ x f. read _ refl f)

  pub comparing_lands : Keeps base comparing_at
  unfolding comparing_at negated_comparing
  comparing_lands ts e =
      among_choice (next_is class.Not ts)
      (among_choice (next_is class.In (after ts) || next_is class.Equal (after ts)) (read _ refl (after_last base (after ts) (after_last base ts e))) (stops (refused (after ts)) refl (after_last base ts e)))
      (read _ refl (after_last base ts e))

  pub stop_lands : (part : Inside) → Keeps base (stop_at {A = Tree} part)
  unfolding stop_at
  stop_lands part ts e = among_choice (may_be_block part && is_comprehension ts) (stops (unsupported form.Comprehension ts) refl e) (among_choice (begins part ts) (stops (too_deep ts) refl e) (stops (refused ts) refl e))

  pub second_lands : {A : Type 0} → Keeps base (second_is_refused {A = A})
  second_lands ts e = among_then (spelled_lands base class.Name ts e) (λ x f. stops (unsupported form.Several ts) refl e)

  pub one_name_lands : Keeps base one_name
  unfolding one_name
  one_name_lands ts e = among_then (spelled_lands base class.Name ts e) (λ x f. among_choice (next_is class.Comma x.1) (second_lands (after x.1) (after_last base x.1 f)) (read _ refl f))

  pub after_disj_last : (ts : List ParserToken) → AreLast base ts → AreLast base (after_disj ts)
  after_disj_last ts e = choice_last base (next_is class.Disj ts) (after ts) ts (after_last base ts e) e

  pub variables_land : (single : Bool) → Keeps base (variables_over single)
  unfolding variables_over variable_names
  variables_land single ts e =
      among_then (among_choice (single && next_is class.Disj ts) (one_name_lands (after ts) (after_last base ts e)) (names_land base (after_disj ts) (after_disj_last ts e))) (λ ns f.
      among_then (expect_lands base class.Colon ns.1 f) (λ c g.
      among_choice (single && are_several ns.0) (stops (unsupported form.Several (after (after ts))) refl (after_last base (after ts) (after_last base ts e))) (read _ refl g)))

  module _ (i : Reader) (below : Below base i) where
    pub block_lands : Keeps base (block_over i)
    unfolding block_over
    block_lands ts e = among_choice (is_comprehension ts) (stops (unsupported form.Comprehension ts) refl e)
        (among_then (expect_lands base class.LeftBrace ts e) (λ o f. among_then (many_lands base is_inner (i around.Braces inside.Node) (below around.Braces inside.Node) o.1 f) (λ xs g. among_then (expect_lands base class.RightBrace xs.1 g) (λ c h. read _ refl h))))

    pub block_tree_lands : Keeps base (block_tree i)
    unfolding block_tree
    block_tree_lands ts e = among_then (block_lands ts e) (λ x f. read _ refl f)

    pub paren_lands : Keeps base (paren_over i)
    unfolding paren_over
    paren_lands ts e = among_then (expect_lands base class.LeftParen ts e) (λ o f. among_then (below around.Parens inside.Node o.1 f) (λ x g. among_then (expect_lands base class.RightParen x.1 g) (λ c h. read _ refl h)))

    pub primary_lands : Keeps base (primary_over i)
    unfolding primary_over
    primary_lands ts e =
        among_choice (next_is class.Name ts) (among_then (spelled_lands base class.Name ts e) (λ x f. read _ refl f))
        (among_choice (next_is class.Path ts) (among_then (spelled_lands base class.Path ts e) (λ x f. read _ refl f))
        (among_choice (next_is class.Number ts) (among_then (number_lands base ts e) (λ x f. read _ refl f))
        (among_choice (is_constant ts) (read _ refl (after_last base ts e))
        (among_choice (next_is class.LeftParen ts) (paren_lands ts e) (block_tree_lands ts e)))))

    pub tight_lands : (a : Around) → Keeps base (tight_over i a)
    unfolding tight_over
    tight_lands a ts e = among_choice (is_tightening ts) (prefix_lands (tightening_of ts) (i a inside.Tight) (below a inside.Tight) ts e) (primary_lands ts e)

    pub arguments_land : Keeps base (arguments_over i)
    unfolding arguments_over
    arguments_land ts e = among_choice (next_is class.RightBracket ts) (read _ refl e) (listed_lands base (i around.Brackets inside.Node) (below around.Brackets inside.Node) ts e)

    pub brackets_land : Keeps base (brackets_over i)
    unfolding brackets_over
    brackets_land ts e = among_then (expect_lands base class.LeftBracket ts e) (λ o f. among_then (arguments_land o.1 f) (λ xs g. among_then (expect_lands base class.RightBracket xs.1 g) (λ c h. read _ refl h)))

    pub step_lands : (a : Around) → Keeps base (step_over i a)
    unfolding step_over
    step_lands a ts e = among_choice (next_is class.Dot ts) (among_then (tight_lands a (after ts) (after_last base ts e)) (λ x f. read _ refl f)) (brackets_land ts e)

    pub path_lands : (a : Around) → Keeps base (path_over i a)
    unfolding path_over
    path_lands a ts e = among_then (tight_lands a ts e) (λ x f. among_choice (begins_step x.1) (among_then (many_lands base begins_step (step_over i a) (step_lands a) x.1 f) (λ xs g. read _ refl g)) (read _ refl f))

    pub restrict_lands : (a : Around) → Keeps base (restrict_over i a)
    unfolding restrict_over
    restrict_lands a = chained_lands level.Restrict (path_over i a) (path_lands a)

    pub arrow_lands : (a : Around) → Keeps base (arrow_over i a)
    unfolding arrow_over
    arrow_lands a ts e =
        among_choice (is_mark ts) (stops (unsupported form.ArrowMultiplicity ts) refl e)
        (among_choice (is_mark (after ts)) (stops (unsupported form.ArrowMultiplicity (after ts)) refl (after_last base ts e))
        (among_then (restrict_lands a (after ts) (after_last base ts e)) (λ x f. read _ refl f)))

    pub arrows_land : (a : Around) → Keeps base (arrows_over i a)
    unfolding arrows_over
    arrows_land a ts e = among_then (restrict_lands a ts e) (λ x f. among_choice (begins_arrow x.1) (among_then (many_lands base begins_arrow (arrow_over i a) (arrow_lands a) x.1 f) (λ xs g. read _ refl g)) (read _ refl f))

    pub meet_lands : (a : Around) → Keeps base (meet_over i a)
    unfolding meet_over
    meet_lands a = chained_lands level.Meet (arrows_over i a) (arrows_land a)

    pub override_lands : (a : Around) → Keeps base (override_over i a)
    unfolding override_over
    override_lands a = chained_lands level.Override (meet_over i a) (meet_lands a)

    pub size_lands : (a : Around) → Keeps base (size_over i a)
    unfolding size_over
    size_lands a ts e = among_choice (next_is class.Hash ts) (prefix_lands prefix.Size (i a inside.Size) (below a inside.Size) ts e) (override_lands a ts e)

    pub sum_lands : (a : Around) → Keeps base (sum_over i a)
    unfolding sum_over
    sum_lands a = chained_lands level.Sum (size_over i a) (size_lands a)

    pub braced_lands : Keeps base (braced_over i)
    unfolding braced_over
    braced_lands ts e = among_then (expect_lands base class.LeftBrace ts e) (λ o f. among_then (below around.Parens inside.Sum o.1 f) (λ x g. among_then (expect_lands base class.RightBrace x.1 g) (λ c h. read _ refl h)))

    pub counted_lands : (a : Around) → Keeps base (counted_over i a)
    unfolding counted_over
    counted_lands a ts e = among_choice (is_counting ts) (prefix_lands (counting_of ts) (i a inside.Sum) (below a inside.Sum) ts e) (sum_lands a ts e)

    pub comparison_lands : (a : Around) → Keeps base (comparison_over i a)
    unfolding comparison_over
    comparison_lands a ts e = among_then (counted_lands a ts e) (λ x f. among_choice (begins_comparison a x.1) (among_then (comparing_lands x.1 f) (λ c g. among_then (counted_lands a c.1 g) (λ y h. read _ refl h))) (read _ refl f))

    pub negation_lands : (a : Around) → Keeps base (negation_over i a)
    unfolding negation_over
    negation_lands a ts e =
        among_choice (next_is class.Not ts) (prefix_lands prefix.Not (i a inside.Negation) (below a inside.Negation) ts e)
        (among_choice (next_is class.All ts) (below a (inside.Quantified quantifier.All (place_at ts)) (after ts) (after_last base ts e))
        (among_choice (next_is class.Let ts) (below a (inside.Let (place_at ts)) (after ts) (after_last base ts e))
        (among_choice (is_counting ts && begins_declaration a (after ts)) (below a (inside.Quantified (quantifier_of ts) (place_at ts)) (after ts) (after_last base ts e))
        (comparison_lands a ts e))))

    pub and_lands : (a : Around) → Keeps base (and_over i a)
    unfolding and_over
    and_lands a = chained_lands level.And (negation_over i a) (negation_lands a)

    pub implied_lands : (a : Around) (left : Tree) (p : Place) → Keeps base (implied_over i a left p)
    unfolding implied_over
    implied_lands a left p ts e = among_then (below a inside.Implied ts e) (λ x f. among_choice (next_is class.Else x.1) (among_then (below a inside.Implied (after x.1) (after_last base x.1 f)) (λ y g. read _ refl g)) (read _ refl f))

    pub implication_lands : (a : Around) → Keeps base (implication_over i a)
    unfolding implication_over
    implication_lands a ts e = among_then (and_lands a ts e) (λ x f. among_choice (next_is class.Implies x.1) (implied_lands a x.0 (place_at x.1) (after x.1) (after_last base x.1 f)) (read _ refl f))

    pub iff_lands : (a : Around) → Keeps base (iff_over i a)
    unfolding iff_over
    iff_lands a = chained_lands level.Iff (implication_over i a) (implication_lands a)

    pub node_lands : (a : Around) → Keeps base (node_over i a)
    unfolding node_over
    node_lands a = chained_lands level.Or (iff_over i a) (iff_lands a)

    pub body_lands : (a : Around) → Keeps base (body_over i a)
    unfolding body_over
    body_lands a ts e = among_choice (next_is class.Bar ts) (node_lands a (after ts) (after_last base ts e)) (block_tree_lands ts e)

    pub binding_lands : Keeps base (binding_over i)
    unfolding binding_over
    binding_lands ts e = among_then (spelled_lands base class.Name ts e) (λ n f. among_then (expect_lands base class.Equal n.1 f) (λ q g. among_then (sum_lands around.Parens q.1 g) (λ x h. read _ refl h)))

    pub let_lands : (a : Around) (p : Place) → Keeps base (let_over i a p)
    unfolding let_over bindings_over
    let_lands a p ts e = among_then (listed_lands base (binding_over i) binding_lands ts e) (λ bs f. among_then (body_lands a bs.1 f) (λ x g. read _ refl g))

    pub declaration_lands : (single : Bool) → Keeps base (declaration_over i single)
    unfolding declaration_over
    declaration_lands single ts e = among_then (variables_land single ts e) (λ ns f. among_then (sum_lands around.Parens (after_mark ns.1) (after_mark_last base ns.1 f)) (λ x g. read _ refl g))

    pub another_lands : (single : Bool) → Keeps base (another_declaration i single)
    unfolding another_declaration
    another_lands single ts e =
        among_choice single (second_lands (after_disj (after ts)) (after_disj_last (after ts) (after_last base ts e))) (declaration_lands false (after ts) (after_last base ts e))

    pub declarations_land : (single : Bool) → Keeps base (declarations_over i single)
    unfolding declarations_over more_declarations
    declarations_land single ts e = among_then (declaration_lands single ts e) (λ d f. among_then (many_lands base (next_is class.Comma) (another_declaration i single) (another_lands single) d.1 f) (λ ds g. read _ refl g))

    pub quantified_lands : (strict : Bool) (a : Around) (q : Quantifier) (p : Place) → Keeps base (quantified_over strict i a q p)
    unfolding quantified_over
    quantified_lands strict a q p ts e = among_then (declarations_land (strict && is_single q) ts e) (λ ds f. among_then (body_lands a ds.1 f) (λ x g. read _ refl g))

    pub inside_lands : (strict : Bool) → Below base (inside_over strict i)
    unfolding inside_over
    inside_lands strict a inside.Node = node_lands a
    inside_lands strict a inside.Negation = negation_lands a
    inside_lands strict a inside.Implied = implication_lands a
    inside_lands strict a inside.Sum = sum_lands a
    inside_lands strict a inside.Size = size_lands a
    inside_lands strict a inside.Tight = tight_lands a
    inside_lands strict a (inside.Quantified q p) = quantified_lands strict a q p
    inside_lands strict a (inside.Let p) = let_lands a p

  pub within_lands : (strict : Bool) (room : ℕ) → Below base (within strict room)
  unfolding within
  within_lands strict zero a part = stop_lands part
  within_lands strict (suc room) a part = inside_lands (within strict room) (within_lands strict room) strict a part
