-- Nodes under two readers: where more may nest, and where forms may pass.
use Rattle.std.proofs.Common.{inl, inr, Bool, true, false, IsTrue, ◌&&◌, List, refl, ap, subst}
use Rattle.alloy_lex.specs.declared.token.Place.{Place}
use Rattle.alloy_syntax.specs.declared.class.Class.TheVariants as class
use Rattle.alloy_syntax.specs.declared.reading.Around.{Around}
use Rattle.alloy_syntax.specs.declared.reading.Around.TheVariants as around
use Rattle.alloy_syntax.specs.declared.reading.Level.{Level}
use Rattle.alloy_syntax.specs.declared.reading.Level.TheVariants as level
use Rattle.alloy_syntax.specs.declared.reading.Inside.{Inside}
use Rattle.alloy_syntax.specs.declared.reading.Inside.TheVariants as inside
use Rattle.alloy_syntax.specs.declared.tree.Name.{Name}
use Rattle.alloy_syntax.specs.declared.tree.Quantifier.{Quantifier}
use Rattle.alloy_syntax.specs.declared.tree.Quantifier.TheVariants as quantifier
use Rattle.alloy_syntax.specs.declared.tree.Prefix.{Prefix}
use Rattle.alloy_syntax.specs.declared.tree.Prefix.TheVariants as prefix
use Rattle.alloy_syntax.specs.declared.parser_token.ParserToken.{ParserToken}
use Rattle.alloy_syntax.specs.Tree.{Tree}
use Rattle.alloy_syntax.specs.Readers.{Parser, next_is, after, place_at, expect, name_at, is_mark, after_mark, repeated, listed, others, names_at}
use Rattle.alloy_syntax.specs.Nodes.{Reader, is_comprehension, block_over, block_tree, is_inner, paren_over, is_constant, primary_over, behind_prefix, is_tightening, tightening_of, tight_over, arguments_over, brackets_over, begins_step, step_over, path_over, begins_link, link_over, chained, restrict_over, begins_arrow, arrow_over, arrows_over, meet_over, override_over, size_over, sum_over, braced_over, counting_of, is_counting, counted_over, begins_comparison, comparing_at, comparison_over, begins_declaration, quantifier_of, negation_over, and_over, implied_over, implication_over, iff_over, node_over, is_single, after_disj, one_name, are_several, one_alone, variable_names, variables_over, declaration_over, another_declaration, more_declarations, declarations_over, body_over, quantified_over, binding_over, bindings_over, let_over, inside_over}
use Rattle.alloy_grammar.proofs.Faults.Follows.{Follows, same, excused, Relaxed, as_strict, relaxed, and_relaxed, onward, bind, choice, many_follows, listed_follows}
use Rattle.alloy_grammar.proofs.Results.{success, stop, known, either}

abbrev pub Alike : {A : Type 0} → Bool → Bool → Parser A → Parser A → Type 0
Alike deep forms p q = (ts : List ParserToken) → Follows deep forms (p ts) (q ts)

-- the second reader follows the first
abbrev pub Below : Bool → Bool → Reader → Reader → Type 0
Below deep forms i j = (a : Around) (part : Inside) → Alike deep forms (i a part) (j a part)

link_follows : {deep forms : Bool} (l : Level) (p q : Parser Tree) → Alike deep forms p q → Alike deep forms (link_over l p) (link_over l q)
unfolding link_over
link_follows l p q h ts = bind (h (after ts)) (λ x. same refl)

chained_follows : {deep forms : Bool} (l : Level) (p q : Parser Tree) → Alike deep forms p q → Alike deep forms (chained l p) (chained l q)
unfolding chained
chained_follows l p q h ts = bind (h ts) (λ x. choice (begins_link l x.1) (bind (many_follows (begins_link l) (link_over l p) (link_over l q) (link_follows l p q h) x.1) (λ xs. same refl)) (same refl))

prefix_follows : {deep forms : Bool} (f : Prefix) (p q : Parser Tree) → Alike deep forms p q → Alike deep forms (behind_prefix f p) (behind_prefix f q)
unfolding behind_prefix
prefix_follows f p q h ts = bind (h (after ts)) (λ x. same refl)

module _ (deep forms : Bool) (i j : Reader) (below : Below deep forms i j) where
  pub block_follows : Alike deep forms (block_over i) (block_over j)
  unfolding block_over
  block_follows ts = choice (is_comprehension ts) (same refl) (onward (expect class.LeftBrace ts) (λ o. bind (many_follows is_inner (i around.Braces inside.Node) (j around.Braces inside.Node) (below around.Braces inside.Node) o.1) (λ xs. same refl)))

  block_tree_follows : Alike deep forms (block_tree i) (block_tree j)
  unfolding block_tree
  block_tree_follows ts = bind (block_follows ts) (λ x. same refl)

  paren_follows : Alike deep forms (paren_over i) (paren_over j)
  unfolding paren_over
  paren_follows ts = onward (expect class.LeftParen ts) (λ o. bind (below around.Parens inside.Node o.1) (λ x. same refl))

  primary_follows : Alike deep forms (primary_over i) (primary_over j)
  unfolding primary_over
  primary_follows ts = choice (next_is class.Name ts) (same refl) (choice (next_is class.Path ts) (same refl) (choice (next_is class.Number ts) (same refl) (choice (is_constant ts) (same refl) (choice (next_is class.LeftParen ts) (paren_follows ts) (block_tree_follows ts)))))

  tight_follows : (a : Around) → Alike deep forms (tight_over i a) (tight_over j a)
  unfolding tight_over
  tight_follows a ts = choice (is_tightening ts) (prefix_follows (tightening_of ts) (i a inside.Tight) (j a inside.Tight) (below a inside.Tight) ts) (primary_follows ts)

  arguments_follow : Alike deep forms (arguments_over i) (arguments_over j)
  unfolding arguments_over
  arguments_follow ts = choice (next_is class.RightBracket ts) (same refl) (listed_follows (i around.Brackets inside.Node) (j around.Brackets inside.Node) (below around.Brackets inside.Node) ts)

  brackets_follow : Alike deep forms (brackets_over i) (brackets_over j)
  unfolding brackets_over
  brackets_follow ts = onward (expect class.LeftBracket ts) (λ o. bind (arguments_follow o.1) (λ xs. same refl))

  step_follows : (a : Around) → Alike deep forms (step_over i a) (step_over j a)
  unfolding step_over
  step_follows a ts = choice (next_is class.Dot ts) (bind (tight_follows a (after ts)) (λ x. same refl)) (brackets_follow ts)

  path_follows : (a : Around) → Alike deep forms (path_over i a) (path_over j a)
  unfolding path_over
  path_follows a ts = bind (tight_follows a ts) (λ x. choice (begins_step x.1) (bind (many_follows begins_step (step_over i a) (step_over j a) (step_follows a) x.1) (λ xs. same refl)) (same refl))

  restrict_follows : (a : Around) → Alike deep forms (restrict_over i a) (restrict_over j a)
  unfolding restrict_over
  restrict_follows a = chained_follows level.Restrict (path_over i a) (path_over j a) (path_follows a)

  arrow_follows : (a : Around) → Alike deep forms (arrow_over i a) (arrow_over j a)
  unfolding arrow_over
  arrow_follows a ts = choice (is_mark ts) (same refl) (choice (is_mark (after ts)) (same refl) (bind (restrict_follows a (after ts)) (λ x. same refl)))

  arrows_follow : (a : Around) → Alike deep forms (arrows_over i a) (arrows_over j a)
  unfolding arrows_over
  arrows_follow a ts = bind (restrict_follows a ts) (λ x. choice (begins_arrow x.1) (bind (many_follows begins_arrow (arrow_over i a) (arrow_over j a) (arrow_follows a) x.1) (λ xs. same refl)) (same refl))

  override_follows : (a : Around) → Alike deep forms (override_over i a) (override_over j a)
  unfolding override_over meet_over
  override_follows a = chained_follows level.Override (meet_over i a) (meet_over j a) (chained_follows level.Meet (arrows_over i a) (arrows_over j a) (arrows_follow a))

  size_follows : (a : Around) → Alike deep forms (size_over i a) (size_over j a)
  unfolding size_over
  size_follows a ts = choice (next_is class.Hash ts) (prefix_follows prefix.Size (i a inside.Size) (j a inside.Size) (below a inside.Size) ts) (override_follows a ts)

  pub sum_follows : (a : Around) → Alike deep forms (sum_over i a) (sum_over j a)
  unfolding sum_over
  sum_follows a = chained_follows level.Sum (size_over i a) (size_over j a) (size_follows a)

  pub braced_follows : Alike deep forms (braced_over i) (braced_over j)
  unfolding braced_over
  braced_follows ts = onward (expect class.LeftBrace ts) (λ o. bind (below around.Parens inside.Sum o.1) (λ x. same refl))

  counted_follows : (a : Around) → Alike deep forms (counted_over i a) (counted_over j a)
  unfolding counted_over
  counted_follows a ts = choice (is_counting ts) (prefix_follows (counting_of ts) (i a inside.Sum) (j a inside.Sum) (below a inside.Sum) ts) (sum_follows a ts)

  comparison_follows : (a : Around) → Alike deep forms (comparison_over i a) (comparison_over j a)
  unfolding comparison_over
  comparison_follows a ts = bind (counted_follows a ts) (λ x. choice (begins_comparison a x.1) (onward (comparing_at x.1) (λ c. bind (counted_follows a c.1) (λ y. same refl))) (same refl))

  negation_follows : (a : Around) → Alike deep forms (negation_over i a) (negation_over j a)
  unfolding negation_over
  negation_follows a ts =
      choice (next_is class.Not ts) (prefix_follows prefix.Not (i a inside.Negation) (j a inside.Negation) (below a inside.Negation) ts)
      (choice (next_is class.All ts) (below a (inside.Quantified quantifier.All (place_at ts)) (after ts))
      (choice (next_is class.Let ts) (below a (inside.Let (place_at ts)) (after ts))
      (choice (is_counting ts && begins_declaration a (after ts)) (below a (inside.Quantified (quantifier_of ts) (place_at ts)) (after ts))
      (comparison_follows a ts))))

  and_follows : (a : Around) → Alike deep forms (and_over i a) (and_over j a)
  unfolding and_over
  and_follows a = chained_follows level.And (negation_over i a) (negation_over j a) (negation_follows a)

  implied_follows : (a : Around) (left : Tree) (p : Place) → Alike deep forms (implied_over i a left p) (implied_over j a left p)
  unfolding implied_over
  implied_follows a left p ts = bind (below a inside.Implied ts) (λ x. choice (next_is class.Else x.1) (bind (below a inside.Implied (after x.1)) (λ y. same refl)) (same refl))

  implication_follows : (a : Around) → Alike deep forms (implication_over i a) (implication_over j a)
  unfolding implication_over
  implication_follows a ts = bind (and_follows a ts) (λ x. choice (next_is class.Implies x.1) (implied_follows a x.0 (place_at x.1) (after x.1)) (same refl))

  node_follows : (a : Around) → Alike deep forms (node_over i a) (node_over j a)
  unfolding node_over iff_over
  node_follows a = chained_follows level.Or (iff_over i a) (iff_over j a) (chained_follows level.Iff (implication_over i a) (implication_over j a) (implication_follows a))

  body_follows : (a : Around) → Alike deep forms (body_over i a) (body_over j a)
  unfolding body_over
  body_follows a ts = choice (next_is class.Bar ts) (node_follows a (after ts)) (block_tree_follows ts)

  let_follows : (a : Around) (p : Place) → Alike deep forms (let_over i a p) (let_over j a p)
  unfolding let_over bindings_over binding_over
  let_follows a p ts = bind (listed_follows (binding_over i) (binding_over j) (λ us. onward (name_at us) (λ n. onward (expect class.Equal n.1) (λ e. bind (sum_follows around.Parens e.1) (λ x. same refl)))) ts) (λ bs. bind (body_follows a bs.1) (λ x. same refl))

  -- ---- declarations, of one variable alone, or of several

  one_follows : IsTrue forms → (ts : List ParserToken) → Follows deep forms (one_name ts) (names_at ts)
  unfolding one_name names_at listed others repeated
  one_follows f ts =
      elim (known (name_at ts)) [
        | stop d is ↦ rw is (same refl)
        | success x is ↦ rw is (
            elim (either (next_is class.Comma x.1)) [
              | inr ends ↦ rw ends (same refl)
              | inl more ↦ rw more (
                  elim (known (name_at (after x.1))) [
                    | stop d fails ↦ rw fails (same refl)
                    | success y there ↦ rw there (excused _ refl f)
                  ])
            ])
      ]

  relaxed_names : IsTrue forms → (ts : List ParserToken) → Follows deep forms (variable_names true ts) (variable_names false ts)
  unfolding variable_names
  relaxed_names f ts = elim (either (next_is class.Disj ts)) [ inl is ↦ rw is (one_follows f (after ts)) | inr fails ↦ rw fails (same refl) ]

  names_follow : (s t : Bool) → Relaxed forms s t → (ts : List ParserToken) → Follows deep forms (variable_names s ts) (variable_names t ts)
  names_follow s t (as_strict e) ts = same (ap (λ (b : Bool). variable_names b ts) e)
  names_follow s t (relaxed e f g) ts = rw (e, f) (relaxed_names g ts)

  relaxed_alone : IsTrue forms → (ts : List ParserToken) (ns : List Name) (rest : List ParserToken) → Follows deep forms (one_alone true ts ns rest) (one_alone false ts ns rest)
  relaxed_alone f ts ns rest = elim (either (are_several ns)) [ inl is ↦ rw is (excused _ refl f) | inr fails ↦ rw fails (same refl) ]

  alone_follows : (s t : Bool) → Relaxed forms s t → (ts : List ParserToken) (ns : List Name) (rest : List ParserToken) → Follows deep forms (one_alone s ts ns rest) (one_alone t ts ns rest)
  alone_follows s t (as_strict e) ts ns rest = same (ap (λ (b : Bool). one_alone b ts ns rest) e)
  alone_follows s t (relaxed e f g) ts ns rest = rw (e, f) (relaxed_alone g ts ns rest)

  variables_follow : (s t : Bool) → Relaxed forms s t → (ts : List ParserToken) → Follows deep forms (variables_over s ts) (variables_over t ts)
  unfolding variables_over
  variables_follow s t r ts = bind (names_follow s t r ts) (λ ns. onward (expect class.Colon ns.1) (λ c. alone_follows s t r ts ns.0 c.1))

  declaration_follows : (s t : Bool) → Relaxed forms s t → (ts : List ParserToken) → Follows deep forms (declaration_over i s ts) (declaration_over j t ts)
  unfolding declaration_over
  declaration_follows s t r ts = bind (variables_follow s t r ts) (λ ns. bind (sum_follows around.Parens (after_mark ns.1)) (λ d. same refl))

  strict_another : (s : Bool) (ts : List ParserToken) → Follows deep forms (another_declaration i s ts) (another_declaration j s ts)
  unfolding another_declaration
  strict_another s ts = choice s (same refl) (declaration_follows false false (as_strict refl) (after ts))

  relaxed_another : IsTrue forms → (ts : List ParserToken) → Follows deep forms (another_declaration i true ts) (another_declaration j false ts)
  unfolding another_declaration declaration_over variables_over variable_names names_at listed
  relaxed_another f ts =
      elim (known (name_at (after_disj (after ts)))) [
        | stop d is ↦ rw is (same refl)
        | success x is ↦ rw is (excused _ refl f)
      ]

  another_follows : (s t : Bool) → Relaxed forms s t → (ts : List ParserToken) → Follows deep forms (another_declaration i s ts) (another_declaration j t ts)
  another_follows s t (as_strict e) ts = subst (λ (b : Bool). Follows deep forms (another_declaration i s ts) (another_declaration j b ts)) e (strict_another s ts)
  another_follows s t (relaxed e f g) ts = rw (e, f) (relaxed_another g ts)

  pub declarations_follow : (s t : Bool) → Relaxed forms s t → (ts : List ParserToken) → Follows deep forms (declarations_over i s ts) (declarations_over j t ts)
  unfolding declarations_over more_declarations
  declarations_follow s t r ts =
      bind (declaration_follows s t r ts) (λ d. bind (many_follows (next_is class.Comma) (another_declaration i s) (another_declaration j t) (another_follows s t r) d.1) (λ ds. same refl))

  quantified_follows : (s t : Bool) → Relaxed forms s t → (a : Around) (q : Quantifier) (p : Place) → Alike deep forms (quantified_over s i a q p) (quantified_over t j a q p)
  unfolding quantified_over
  quantified_follows s t r a q p ts =
      bind (declarations_follow (s && is_single q) (t && is_single q) (and_relaxed forms s t (is_single q) r) ts) (λ ds. bind (body_follows a ds.1) (λ x. same refl))

  pub inside_follows : (s t : Bool) → Relaxed forms s t → Below deep forms (inside_over s i) (inside_over t j)
  unfolding inside_over
  inside_follows s t r a inside.Node ts = node_follows a ts
  inside_follows s t r a inside.Negation ts = negation_follows a ts
  inside_follows s t r a inside.Implied ts = implication_follows a ts
  inside_follows s t r a inside.Sum ts = sum_follows a ts
  inside_follows s t r a inside.Size ts = size_follows a ts
  inside_follows s t r a inside.Tight ts = tight_follows a ts
  inside_follows s t r a (inside.Quantified q p) ts = quantified_follows s t r a q p ts
  inside_follows s t r a (inside.Let p) ts = let_follows a p ts
