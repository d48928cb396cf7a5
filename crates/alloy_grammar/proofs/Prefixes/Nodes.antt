-- What reading gives of nodes.
use Rattle.std.proofs.Common.{◌≡◌, suc, inl, inr, true, ◌||◌, ◌&&◌, List, [], refl, sym, subst, ◌∙◌, arith}
use Rattle.alloy_lex.specs.declared.token.Place.{Place}
use Rattle.alloy_syntax.specs.declared.class.Class.TheVariants as class
use Rattle.alloy_syntax.specs.declared.reading.Form.TheVariants as form
use Rattle.alloy_syntax.specs.declared.reading.Around.{Around}
use Rattle.alloy_syntax.specs.declared.reading.Around.TheVariants as around
use Rattle.alloy_syntax.specs.declared.reading.Level.{Level}
use Rattle.alloy_syntax.specs.declared.reading.Level.TheVariants as level
use Rattle.alloy_syntax.specs.declared.reading.Inside.{Inside}
use Rattle.alloy_syntax.specs.declared.reading.Inside.TheVariants as inside
use Rattle.alloy_syntax.specs.declared.tree.Quantifier.TheVariants as quantifier
use Rattle.alloy_syntax.specs.declared.tree.Prefix.{Prefix}
use Rattle.alloy_syntax.specs.declared.tree.Prefix.TheVariants as prefix
use Rattle.alloy_syntax.specs.declared.tree.Operator.TheVariants as operator
use Rattle.alloy_syntax.specs.declared.tree.Comparison.TheVariants as comparison
use Rattle.alloy_syntax.specs.declared.parser_token.ParserToken.{ParserToken}
use Rattle.alloy_syntax.specs.Tree.{Tree}
use Rattle.alloy_syntax.specs.Readers.{refused, unsupported, Parser, next_is, after, place_at, is_mark}
use Rattle.alloy_syntax.specs.Nodes.{Reader, block_over, block_tree, is_comprehension, is_inner, paren_over, is_constant, constant_of, primary_over, behind_prefix, is_tightening, tightening_of, tight_over, arguments_over, brackets_over, begins_step, step_over, path_over, begins_link, operator_of, link_over, chained, restrict_over, begins_arrow, arrow_over, arrows_over, meet_over, override_over, size_over, sum_over, braced_over, counting_of, is_counting, counted_over, is_plain_comparison, begins_comparison, negated_comparing, comparing_at, comparison_over, begins_declaration, quantifier_of, negation_over, and_over, implied_over, implication_over, iff_over, node_over}
use Rattle.alloy_grammar.specs.Levels.{implication_level, and_level, negation_level, comparison_level, counted_level, sum_level, size_level, product_level, restrict_level, path_level, tight_level, primary_level, level_of_prefix, level_behind}
use Rattle.alloy_grammar.specs.Fronts.{unless_next}
use Rattle.alloy_grammar.specs.Nodes.{class_of_prefix}
use Rattle.alloy_grammar.proofs.Results.{true_not_false}
use Rattle.alloy_grammar.proofs.Tokens.{and_left, and_right, or_no, other, counting_sign, counting_levels, quantifier_sign, tightening_sign, tightening_levels, constant_sign, number_of, link_sign, link_level}
use Rattle.alloy_syntax.specs.Class.{is_class}
use Rattle.alloy_grammar.proofs.Faults.LastTokens.{all_last}
use Rattle.alloy_grammar.proofs.Prefixes.CompletedReadings.{Then, Token, some, Or, this, that, Listed, Moved, Closing, Gives, gone, ended, Goes, either_of, terminal_is, close_none, close_maybe, close_token, close_then, close_map, moved_map, moved_sign, moved_token, moved_unless_else, stopped_map, stopped_here, stopped_after, not_there, gives_none, gives_no_more, gives_map, gives_behind, gives_then, gives_last, gives_choice, expect_gives, spelled_gives, number_gives, gives_many, gives_listed}
use Rattle.alloy_grammar.proofs.Prefixes.Texts.{Node, Braces, lower, named_text, path_text, number_text, constant_text, paren_text, Arguments, braces_text, block_text, prefix_text, Step, steps_node, Link, link_text, chain_text, Compare, plain, unequal, negated, comparison_text, Otherwise, Implied, implication_text, quantified_text, let_text, Part}
use Rattle.alloy_grammar.proofs.Prefixes.Openings.{close_node, close_sum, close_braces}

-- ---- operators and comparisons

link_gives : (l : Level) (p : Parser Tree) → Goes p (Node (suc (number_of l))) → (ts : List ParserToken) → begins_link l ts ≡ true → Gives (Link (number_of l)) ts (link_over l p ts)
unfolding link_over
link_gives l p h ts is = gives_map (link_text (number_of l) (operator_of l ts) (link_level l ts)) (gives_behind (moved_sign (link_sign l ts is)) (gives_last _ (h (after ts))))

chained_gives : (l : Level) (p : Parser Tree) → Goes p (Node (suc (number_of l))) → Goes (chained l p) (Node (number_of l))
unfolding chained
chained_gives l p h ts =
    gives_map (chain_text (number_of l)) (gives_then (h ts) (close_none (Link (number_of l))) (λ x.
    gives_choice (begins_link l x.1) (λ _. gives_last _ (gives_many (begins_link l) (link_over l p) (link_gives l p h) x.1)) (λ _. gives_no_more (Link (number_of l)) x.0 x.1)))

prefix_gives : (f : Prefix) (p : Parser Tree) (ts : List ParserToken) → Moved (Token (class_of_prefix f)) ts (after ts) → Goes p (Node (level_behind f)) → Gives (Node (level_of_prefix f)) ts (behind_prefix f p ts)
unfolding behind_prefix
prefix_gives f p ts m h = gives_map (prefix_text f) (gives_behind m (gives_last _ (h (after ts))))

plain_compare : (ts : List ParserToken) → is_plain_comparison ts ≡ true → Moved Compare ts (after ts)
unfolding is_plain_comparison
plain_compare ts e =
    either_of e (λ e1. either_of e1 (λ e2. either_of e2 (λ e3. either_of e3 (λ e4. either_of e4 (λ e5. either_of e5
    (λ is. moved_map (λ us vs t. plain comparison.In t) (moved_token class.In ts is))
    (λ is. moved_map (λ us vs t. plain comparison.Equal t) (moved_token class.Equal ts is)))
    (λ is. moved_map (λ us vs t. unequal t) (moved_token class.NotEqual ts is)))
    (λ is. moved_map (λ us vs t. plain comparison.Less t) (moved_token class.Less ts is)))
    (λ is. moved_map (λ us vs t. plain comparison.Greater t) (moved_token class.Greater ts is)))
    (λ is. moved_map (λ us vs t. plain comparison.AtMost t) (moved_token class.AtMost ts is)))
    (λ is. moved_map (λ us vs t. plain comparison.AtLeast t) (moved_token class.AtLeast ts is))

abbrev In_or_equal : List ParserToken → List ParserToken → Type 0
In_or_equal = Or (Token class.In) (Token class.Equal)

compare_gives : (a : Around) (ts : List ParserToken) → begins_comparison a ts ≡ true → Gives Compare ts (comparing_at ts)
unfolding comparing_at negated_comparing begins_comparison
compare_gives a ts goes =
    gives_choice (next_is class.Not ts)
    (λ is. gives_map (λ us vs t. negated t) (gives_behind (moved_token class.Not ts is) (
    gives_choice {F = In_or_equal} (next_is class.In (after ts) || next_is class.Equal (after ts))
    (λ e. gone _ refl (either_of e (λ i. moved_map (λ us vs t. this t) (moved_token class.In (after ts) i)) (λ i. moved_map (λ us vs t. that t) (moved_token class.Equal (after ts) i))))
    (λ _. ended (refused (after ts)) refl (stopped_here (refused (after ts)) (close_map (λ us vs t. this t) (close_token class.In refl)) (λ s. not_there s) tt)))))
    (λ fails. gone _ refl (plain_compare ts (or_no (is_plain_comparison ts) (rw fails at goes))))

-- an arrow stands behind the word
behind_mark : (ts : List ParserToken) → begins_arrow ts ≡ true → is_mark ts ≡ true → next_is class.Arrow (after ts) ≡ true
unfolding begins_arrow is_mark is_class
behind_mark ts goes is =
    either_of goes
    (λ arrow. true_not_false (sym is ∙ rw (other class.Arrow class.Set ts arrow refl, other class.Arrow class.One ts arrow refl, other class.Arrow class.Lone ts arrow refl, other class.Arrow class.Some ts arrow refl) refl))
    (λ both. and_right _ _ both)

module _ (i : Reader) (below : (a : Around) (part : Inside) → Goes (i a part) (Part part)) where
  -- ---- blocks and brackets

  pub block_gives : Goes (block_over i) Braces
  unfolding block_over is_comprehension
  block_gives ts =
      gives_choice (is_comprehension ts)
      (λ is. ended (unsupported form.Comprehension ts) refl (stopped_here (unsupported form.Comprehension ts) close_braces (λ _ rest. sym (terminal_is class.LeftBrace ts (and_left _ _ is))) is))
      (λ _. gives_map braces_text (gives_then (expect_gives class.LeftBrace refl ts) (close_then (close_none (Node 0)) (close_token class.RightBrace refl)) (λ o.
      gives_then (gives_many is_inner (i around.Braces inside.Node) (λ us _. below around.Braces inside.Node us) o.1) (close_token class.RightBrace refl) (λ xs. gives_last _ (expect_gives class.RightBrace refl xs.1)))))

  pub block_tree_gives : Goes (block_tree i) Braces
  unfolding block_tree
  block_tree_gives ts = gives_last _ (block_gives ts)

  paren_gives : Goes (paren_over i) (Node primary_level)
  unfolding paren_over
  paren_gives ts =
      gives_map paren_text (gives_then (expect_gives class.LeftParen refl ts) (close_then (close_node 0 (omega arith)) (close_token class.RightParen refl)) (λ o.
      gives_then (below around.Parens inside.Node o.1) (close_token class.RightParen refl) (λ x. gives_last _ (expect_gives class.RightParen refl x.1))))

  primary_gives : Goes (primary_over i) (Node primary_level)
  unfolding primary_over
  primary_gives ts =
      gives_choice (next_is class.Name ts) (λ _. gives_map named_text (gives_last _ (spelled_gives class.Name refl ts)))
      (λ _. gives_choice (next_is class.Path ts) (λ _. gives_map path_text (gives_last _ (spelled_gives class.Path refl ts)))
      (λ _. gives_choice (next_is class.Number ts) (λ _. gives_map number_text (gives_last _ (number_gives ts)))
      (λ _. gives_choice (is_constant ts) (λ is. gone _ refl (moved_map (constant_text (constant_of ts)) (moved_sign (constant_sign ts is))))
      (λ _. gives_choice (next_is class.LeftParen ts) (λ _. paren_gives ts) (λ _. gives_map block_text (block_tree_gives ts))))))

  pub tight_gives : (a : Around) → Goes (tight_over i a) (Node tight_level)
  unfolding tight_over
  tight_gives a ts =
      gives_choice (is_tightening ts)
      (λ is. let levels = tightening_levels ts in
      subst (λ l. Gives (Node l) ts (behind_prefix (tightening_of ts) (i a inside.Tight) ts)) levels.0
      (prefix_gives (tightening_of ts) (i a inside.Tight) ts (moved_sign (tightening_sign ts is)) (subst (λ l. Goes (i a inside.Tight) (Node l)) (sym levels.1) (below a inside.Tight))))
      (λ _. gives_map (lower tight_level (omega arith)) (primary_gives ts))

  arguments_give : Goes (arguments_over i) Arguments
  unfolding arguments_over
  arguments_give ts =
      gives_choice (next_is class.RightBracket ts) (λ _. gives_none (Listed (Node 0)) [] ts)
      (λ _. gives_map (λ us vs t. some t) (gives_listed (i around.Brackets inside.Node) (below around.Brackets inside.Node) ts))

  step_gives : (a : Around) → Goes (step_over i a) Step
  unfolding step_over brackets_over
  step_gives a ts =
      gives_choice (next_is class.Dot ts) (λ is. gives_map (λ us vs t. this t) (gives_behind (moved_token class.Dot ts is) (gives_last _ (tight_gives a (after ts)))))
      (λ _. gives_map (λ us vs t. that t) (gives_then (expect_gives class.LeftBracket refl ts) (close_then (close_maybe (Listed (Node 0))) (close_token class.RightBracket refl)) (λ o.
      gives_then (arguments_give o.1) (close_token class.RightBracket refl) (λ xs. gives_last _ (expect_gives class.RightBracket refl xs.1)))))

  path_gives : (a : Around) → Goes (path_over i a) (Node path_level)
  unfolding path_over
  path_gives a ts =
      gives_map steps_node (gives_then (tight_gives a ts) (close_none Step) (λ x.
      gives_choice (begins_step x.1) (λ _. gives_last _ (gives_many begins_step (step_over i a) (λ us _. step_gives a us) x.1)) (λ _. gives_no_more Step x.0 x.1)))

  -- ---- expressions

  restrict_gives : (a : Around) → Goes (restrict_over i a) (Node restrict_level)
  unfolding restrict_over
  restrict_gives a = chained_gives level.Restrict (path_over i a) (path_gives a)

  arrow_gives : (a : Around) (ts : List ParserToken) → begins_arrow ts ≡ true → Gives (Link product_level) ts (arrow_over i a ts)
  unfolding arrow_over begins_arrow
  arrow_gives a ts goes =
      let close : Closing (Node restrict_level) = close_node restrict_level (omega arith) in
      let here = link_text product_level operator.Product refl in
      gives_choice (is_mark ts)
      (λ is. ended (unsupported form.ArrowMultiplicity ts) refl (stopped_here (unsupported form.ArrowMultiplicity ts) (close_map here (close_then (close_token class.Arrow refl) close)) (λ s. not_there s) (is, inl (behind_mark ts goes is))))
      (λ fails. let arrow = or_no (next_is class.Arrow ts) (rw fails at goes) in
      let m = moved_token class.Arrow ts arrow in
      gives_choice (is_mark (after ts))
      (λ is. ended (unsupported form.ArrowMultiplicity (after ts)) refl (stopped_map here (stopped_after m (unsupported form.ArrowMultiplicity (after ts)) close refl (λ s. not_there s) (is, inr (ts, all_last ts, arrow, refl)))))
      (λ _. gives_map here (gives_behind m (gives_last _ (restrict_gives a (after ts))))))

  arrows_give : (a : Around) → Goes (arrows_over i a) (Node product_level)
  unfolding arrows_over
  arrows_give a ts =
      gives_map (chain_text product_level) (gives_then (restrict_gives a ts) (close_none (Link product_level)) (λ x.
      gives_choice (begins_arrow x.1) (λ _. gives_last _ (gives_many begins_arrow (arrow_over i a) (arrow_gives a) x.1)) (λ _. gives_no_more (Link product_level) x.0 x.1)))

  meet_gives : (a : Around) → Goes (meet_over i a) (Node 10)
  unfolding meet_over
  meet_gives a = chained_gives level.Meet (arrows_over i a) (arrows_give a)

  override_gives : (a : Around) → Goes (override_over i a) (Node 9)
  unfolding override_over
  override_gives a = chained_gives level.Override (meet_over i a) (meet_gives a)

  pub size_gives : (a : Around) → Goes (size_over i a) (Node size_level)
  unfolding size_over
  size_gives a ts =
      gives_choice (next_is class.Hash ts) (λ is. prefix_gives prefix.Size (i a inside.Size) ts (moved_token class.Hash ts is) (below a inside.Size))
      (λ _. gives_map (lower size_level (omega arith)) (override_gives a ts))

  pub sum_gives : (a : Around) → Goes (sum_over i a) (Node sum_level)
  unfolding sum_over
  sum_gives a = chained_gives level.Sum (size_over i a) (size_gives a)

  pub braced_gives : Goes (braced_over i) (Then (Token class.LeftBrace) (Then (Node sum_level) (Token class.RightBrace)))
  unfolding braced_over
  braced_gives ts =
      gives_then (expect_gives class.LeftBrace refl ts) (close_then close_sum (close_token class.RightBrace refl)) (λ o.
      gives_then (below around.Parens inside.Sum o.1) (close_token class.RightBrace refl) (λ x. gives_last _ (expect_gives class.RightBrace refl x.1)))

  -- ---- formulas

  counted_gives : (a : Around) → Goes (counted_over i a) (Node counted_level)
  unfolding counted_over
  counted_gives a ts =
      gives_choice (is_counting ts)
      (λ is. let levels = counting_levels ts in
      subst (λ l. Gives (Node l) ts (behind_prefix (counting_of ts) (i a inside.Sum) ts)) levels.0
      (prefix_gives (counting_of ts) (i a inside.Sum) ts (moved_sign (counting_sign ts is)) (subst (λ l. Goes (i a inside.Sum) (Node l)) (sym levels.1) (below a inside.Sum))))
      (λ _. gives_map (lower counted_level (omega arith)) (sum_gives a ts))

  comparison_gives : (a : Around) → Goes (comparison_over i a) (Node comparison_level)
  unfolding comparison_over
  comparison_gives a ts =
      gives_map comparison_text (gives_then (counted_gives a ts) (close_maybe (Then Compare (Node counted_level))) (λ x.
      gives_choice (begins_comparison a x.1)
      (λ goes. gives_map (λ us vs t. some t) (gives_then (compare_gives a x.1 goes) (close_node counted_level (omega arith)) (λ c. gives_last _ (counted_gives a c.1))))
      (λ _. gives_none (Then Compare (Node counted_level)) x.0 x.1)))

  pub negation_gives : (a : Around) → Goes (negation_over i a) (Node negation_level)
  unfolding negation_over
  negation_gives a ts =
      gives_choice (next_is class.Not ts) (λ is. prefix_gives prefix.Not (i a inside.Negation) ts (moved_token class.Not ts is) (below a inside.Negation))
      (λ _. gives_choice (next_is class.All ts) (λ is. gives_map (quantified_text quantifier.All) (gives_behind (moved_token class.All ts is) (below a (inside.Quantified quantifier.All (place_at ts)) (after ts))))
      (λ _. gives_choice (next_is class.Let ts) (λ is. gives_map let_text (gives_behind (moved_token class.Let ts is) (below a (inside.Let (place_at ts)) (after ts))))
      (λ _. gives_choice (is_counting ts && begins_declaration a (after ts))
      (λ is. gives_map (quantified_text (quantifier_of ts)) (gives_behind (moved_sign (quantifier_sign ts (and_left (is_counting ts) (begins_declaration a (after ts)) is))) (below a (inside.Quantified (quantifier_of ts) (place_at ts)) (after ts))))
      (λ _. gives_map (lower negation_level (omega arith)) (comparison_gives a ts)))))

  and_gives : (a : Around) → Goes (and_over i a) (Node and_level)
  unfolding and_over
  and_gives a = chained_gives level.And (negation_over i a) (negation_gives a)

  abbrev close_otherwise : Closing Otherwise
  close_otherwise = record { tokens = λ rest. rest; calm = λ rest c. c; text = λ rest c. this (refl, c.no_else) }

  implied_gives : (a : Around) (left : Tree) (p : Place) → Goes (implied_over i a left p) (Then (Node implication_level) Otherwise)
  unfolding implied_over
  implied_gives a left p ts =
      gives_then (below a inside.Implied ts) close_otherwise (λ x.
      gives_choice (next_is class.Else x.1)
      (λ is. gives_map (λ us vs t. that t) (gives_behind (moved_token class.Else x.1 is) (gives_last _ (below a inside.Implied (after x.1)))))
      (λ fails. gone _ refl (moved_map {F = unless_next class.Else} (λ us vs t. this t) (moved_unless_else x.1 fails))))

  pub implication_gives : (a : Around) → Goes (implication_over i a) (Node implication_level)
  unfolding implication_over
  implication_gives a ts =
      gives_map implication_text (gives_then (and_gives a ts) (close_maybe Implied) (λ x.
      gives_choice (next_is class.Implies x.1)
      (λ is. gives_map (λ us vs t. some t) (gives_behind (moved_token class.Implies x.1 is) (implied_gives a x.0 (place_at x.1) (after x.1))))
      (λ _. gives_none Implied x.0 x.1)))

  iff_gives : (a : Around) → Goes (iff_over i a) (Node 1)
  unfolding iff_over
  iff_gives a = chained_gives level.Iff (implication_over i a) (implication_gives a)

  pub node_gives : (a : Around) → Goes (node_over i a) (Node 0)
  unfolding node_over
  node_gives a = chained_gives level.Or (iff_over i a) (iff_gives a)
