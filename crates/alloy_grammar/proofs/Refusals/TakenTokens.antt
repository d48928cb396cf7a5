-- A token that begins a part is taken: what is read from it stops behind it, if it stops. A comprehension alone is refused there.
use Rattle.std.proofs.Common.{◌≡◌, inl, inr, Bool, true, false, if◌then◌else◌, ◌&&◌, ◌||◌, List, ◌∷◌, Result, refl}
use Rattle.std.proofs.lemmas.Bool.{or_parts}
use Rattle.alloy_lex.specs.declared.token.Place.{Place}
use Rattle.alloy_syntax.specs.declared.class.Class.{Class}
use Rattle.alloy_syntax.specs.declared.class.Class.TheVariants as class
use Rattle.alloy_syntax.specs.declared.reading.Around.{Around}
use Rattle.alloy_syntax.specs.declared.reading.Around.TheVariants as around
use Rattle.alloy_syntax.specs.declared.reading.Level.{Level}
use Rattle.alloy_syntax.specs.declared.reading.Level.TheVariants as level
use Rattle.alloy_syntax.specs.declared.reading.Inside.{Inside}
use Rattle.alloy_syntax.specs.declared.reading.Inside.TheVariants as inside
use Rattle.alloy_syntax.specs.declared.tree.Quantifier.{Quantifier}
use Rattle.alloy_syntax.specs.declared.tree.Quantifier.TheVariants as quantifier
use Rattle.alloy_syntax.specs.declared.tree.Prefix.{Prefix}
use Rattle.alloy_syntax.specs.declared.tree.Prefix.TheVariants as prefix
use Rattle.alloy_syntax.specs.declared.parser_token.ParserToken.{ParserToken}
use Rattle.alloy_syntax.specs.Tree.{Tree, BoundArrowTree}
use Rattle.alloy_syntax.specs.Readers.{ParseStopView, Parser, next_is, after, place_at, one, expect, spelled_at, name_at, value_from, number_at, after_mark, behind, others, listed, names_at}
use Rattle.alloy_syntax.specs.Nodes.{Reader, is_comprehension, is_inner, block_over, block_tree, paren_over, is_constant, primary_over, behind_prefix, is_tightening, tightening_of, tight_over, begins_step, step_over, path_over, begins_link, link_over, chained, restrict_over, begins_arrow, arrow_over, arrows_over, meet_over, override_over, size_over, sum_over, counting_of, is_counting, counted_over, begins_comparison, comparison_over, begins_declaration, quantifier_of, negation_over, and_over, implication_over, iff_over, node_over, variable_names, variables_over, declaration_over, another_declaration, more_declarations, declarations_over, quantified_over, binding_over, bindings_over, let_over, begins_primary, begins_tight, begins_sum, begins_node, begins, may_be_block, inside_over}
use Rattle.alloy_syntax.specs.Bounds.{Standing, BoundReader, word_beside, side_over, begins_bound, begins_bound_arrow, bound_arrow_over, more_bound_arrows, bound_arrows_over, operand_over, bound_over}
use Rattle.alloy_grammar.proofs.Results.{either}
use Rattle.alloy_grammar.proofs.Faults.LastTokens.{Among, LeavesLast, Lands, Keeps, read, all_last, after_last, after_mark_last, among_then, among_choice, expect_lands, spelled_lands, many_lands, behind_lands, names_land}
use Rattle.alloy_grammar.proofs.Faults.NodesAmong as among
use Rattle.alloy_grammar.proofs.Refusals.Bounds.{BoundsLand, arrow_land, operand_land, word_passes}

-- what is read where a test holds, and where it fails
choose : {A : Type 0} {base : List ParserToken} {P : A → Type 0} (test : Bool) {u v : Result A ParseStopView} → (test ≡ true → Among base P u) → (test ≡ false → Among base P v) → Among base P (if test then u else v)
choose true p q = p refl
choose false p q = q refl

-- of two, the second holds where the first fails
the_second : (a b : Bool) → (a || b) ≡ true → a ≡ false → b ≡ true
the_second true b e f = absurd cc
the_second false b e f = e

module _ (t : ParserToken) (us : List ParserToken) where
  abbrev here : List ParserToken
  here = t ∷ us

  one_beyond : {A : Type 0} (c : Class) (f : ParserToken → A) → next_is c here ≡ true → Lands us (one c f here)
  unfolding next_is
  one_beyond c f is = rw is (read _ refl (all_last us))

  expect_beyond : (c : Class) → next_is c here ≡ true → Lands us (expect c here)
  unfolding expect
  expect_beyond c = one_beyond c (λ x. x.place)

  spelled_beyond : (c : Class) → next_is c here ≡ true → Lands us (spelled_at c here)
  unfolding spelled_at
  spelled_beyond c = one_beyond c (λ x. record { text = x.text; place = x.place })

  number_beyond : next_is class.Number here ≡ true → Lands us (number_at here)
  unfolding number_at
  number_beyond = one_beyond class.Number (λ x. record { value = value_from 0 x.text; place = x.place })

  listed_beyond : {A : Type 0} (p : Parser A) → Keeps us p → Lands us (p here) → Lands us (listed p here)
  unfolding listed others
  listed_beyond p lands h = among_then h (λ x e. among_then (many_lands us (next_is class.Comma) (behind p) (behind_lands us p lands) x.1 e) (λ xs f. read _ refl f))

  names_beyond : next_is class.Name here ≡ true → Lands us (names_at here)
  unfolding names_at
  names_beyond is = listed_beyond name_at (spelled_lands us class.Name) (spelled_beyond class.Name is)

  prefix_beyond : (k : Prefix) (p : Parser Tree) → Keeps us p → Lands us (behind_prefix k p here)
  unfolding behind_prefix
  prefix_beyond k p lands = (among_then (lands us (all_last us)) (λ x e. read _ refl e))

  chained_beyond : (l : Level) (p : Parser Tree) → Keeps us p → Lands us (p here) → Lands us (chained l p here)
  unfolding chained
  chained_beyond l p lands h =
      among_then h (λ x e. among_choice (begins_link l x.1) (among_then (many_lands us (begins_link l) (link_over l p) (among.link_lands us l p lands) x.1 e) (λ xs f. read _ refl f)) (read x refl e))

  -- behind `disj`, or from the token
  declared_beyond : (next_is class.Disj here || next_is class.Name here) ≡ true → Lands us (variable_names false here)
  unfolding variable_names
  declared_beyond is =
      elim (either (next_is class.Disj here)) [
        | inl disj ↦ rw disj (names_land us us (all_last us))
        | inr none ↦ rw none (names_beyond (the_second (next_is class.Disj here) (next_is class.Name here) is none))
      ]

  variables_beyond : (next_is class.Disj here || next_is class.Name here) ≡ true → Lands us (variables_over false here)
  unfolding variables_over
  variables_beyond is = among_then (declared_beyond is) (λ ns e. among_then (expect_lands us class.Colon ns.1 e) (λ c f. read _ refl f))

  module _ (j : Reader) (lands : among.Below us j) where
    paren_beyond : next_is class.LeftParen here ≡ true → Lands us (paren_over j here)
    unfolding paren_over
    paren_beyond is = among_then (expect_beyond class.LeftParen is) (λ o e. among_then (lands around.Parens inside.Node o.1 e) (λ x f. among_then (expect_lands us class.RightParen x.1 f) (λ c g. read _ refl g)))

    binding_beyond : next_is class.Name here ≡ true → Lands us (binding_over j here)
    unfolding binding_over
    binding_beyond is =
        among_then (spelled_beyond class.Name is) (λ n e. among_then (expect_lands us class.Equal n.1 e) (λ q f. among_then (among.sum_lands us j lands around.Parens q.1 f) (λ x g. read _ refl g)))

    let_beyond : (a : Around) (p : Place) → next_is class.Name here ≡ true → Lands us (let_over j a p here)
    unfolding let_over bindings_over
    let_beyond a p is =
        among_then (listed_beyond (binding_over j) (among.binding_lands us j lands) (binding_beyond is)) (λ bs e. among_then (among.body_lands us j lands a bs.1 e) (λ x f. read _ refl f))

    declaration_beyond : (next_is class.Disj here || next_is class.Name here) ≡ true → Lands us (declaration_over j false here)
    unfolding declaration_over
    declaration_beyond is =
        among_then (variables_beyond is) (λ ns e. among_then (among.sum_lands us j lands around.Parens (after_mark ns.1) (after_mark_last us ns.1 e)) (λ x f. read _ refl f))

    declarations_beyond : (next_is class.Disj here || next_is class.Name here) ≡ true → Lands us (declarations_over j false here)
    unfolding declarations_over more_declarations
    declarations_beyond is =
        among_then (declaration_beyond is) (λ d e. among_then (many_lands us (next_is class.Comma) (another_declaration j false) (among.another_lands us j lands false) d.1 e) (λ ds f. read _ refl f))

    quantified_beyond : (a : Around) (q : Quantifier) (p : Place) → (next_is class.Disj here || next_is class.Name here) ≡ true → Lands us (quantified_over false j a q p here)
    unfolding quantified_over
    quantified_beyond a q p is = among_then (declarations_beyond is) (λ ds e. among_then (among.body_lands us j lands a ds.1 e) (λ x f. read _ refl f))

    -- where no comprehension stands there
    module _ (plain : is_comprehension here ≡ false) where
      block_beyond : next_is class.LeftBrace here ≡ true → Lands us (block_over j here)
      unfolding block_over
      block_beyond is =
          rw plain (among_then (expect_beyond class.LeftBrace is) (λ o e. among_then (many_lands us is_inner (j around.Braces inside.Node) (lands around.Braces inside.Node) o.1 e) (λ xs f.
          among_then (expect_lands us class.RightBrace xs.1 f) (λ c g. read _ refl g))))

      block_tree_beyond : next_is class.LeftBrace here ≡ true → Lands us (block_tree j here)
      unfolding block_tree
      block_tree_beyond is = among_then (block_beyond is) (λ x e. read _ refl e)

      -- what begins a primary is a brace, if it isn't another token
      brace_left : begins_primary here ≡ true → next_is class.Name here ≡ false → next_is class.Path here ≡ false → next_is class.Number here ≡ false → is_constant here ≡ false → next_is class.LeftParen here ≡ false → next_is class.LeftBrace here ≡ true
      unfolding begins_primary is_constant
      brace_left begun name path number constant paren =
          let iden = or_parts (next_is class.None here || next_is class.Univ here) (next_is class.Iden here) constant in
          let none = or_parts (next_is class.None here) (next_is class.Univ here) iden.0 in
          rw (name, path, number, none.0, none.1, iden.1, paren) at begun

      primary_beyond : begins_primary here ≡ true → Lands us (primary_over j here)
      unfolding primary_over
      primary_beyond begun =
          choose (next_is class.Name here) (λ is. among_then (spelled_beyond class.Name is) (λ x e. read _ refl e)) (λ name.
          choose (next_is class.Path here) (λ is. among_then (spelled_beyond class.Path is) (λ x e. read _ refl e)) (λ path.
          choose (next_is class.Number here) (λ is. among_then (number_beyond is) (λ x e. read _ refl e)) (λ number.
          choose (is_constant here) (λ is. read _ refl (all_last us)) (λ constant.
          choose (next_is class.LeftParen here) paren_beyond (λ paren. block_tree_beyond (brace_left begun name path number constant paren))))))

      tight_beyond : (a : Around) → begins_tight here ≡ true → Lands us (tight_over j a here)
      unfolding tight_over begins_tight
      tight_beyond a begun =
          choose (is_tightening here) (λ is. prefix_beyond (tightening_of here) (j a inside.Tight) (lands a inside.Tight)) (λ none. primary_beyond (the_second (is_tightening here) (begins_primary here) begun none))

      path_beyond : (a : Around) → begins_tight here ≡ true → Lands us (path_over j a here)
      unfolding path_over
      path_beyond a begun =
          among_then (tight_beyond a begun) (λ x e. among_choice (begins_step x.1) (among_then (many_lands us begins_step (step_over j a) (among.step_lands us j lands a) x.1 e) (λ xs f. read _ refl f)) (read x refl e))

      restrict_beyond : (a : Around) → begins_tight here ≡ true → Lands us (restrict_over j a here)
      unfolding restrict_over
      restrict_beyond a begun = chained_beyond level.Restrict (path_over j a) (among.path_lands us j lands a) (path_beyond a begun)

      arrows_beyond : (a : Around) → begins_tight here ≡ true → Lands us (arrows_over j a here)
      unfolding arrows_over
      arrows_beyond a begun =
          among_then (restrict_beyond a begun) (λ x e. among_choice (begins_arrow x.1) (among_then (many_lands us begins_arrow (arrow_over j a) (among.arrow_lands us j lands a) x.1 e) (λ xs f. read _ refl f)) (read x refl e))

      meet_beyond : (a : Around) → begins_tight here ≡ true → Lands us (meet_over j a here)
      unfolding meet_over
      meet_beyond a begun = chained_beyond level.Meet (arrows_over j a) (among.arrows_land us j lands a) (arrows_beyond a begun)

      override_beyond : (a : Around) → begins_tight here ≡ true → Lands us (override_over j a here)
      unfolding override_over
      override_beyond a begun = chained_beyond level.Override (meet_over j a) (among.meet_lands us j lands a) (meet_beyond a begun)

      size_beyond : (a : Around) → begins_sum here ≡ true → Lands us (size_over j a here)
      unfolding size_over begins_sum
      size_beyond a begun =
          choose (next_is class.Hash here) (λ is. prefix_beyond prefix.Size (j a inside.Size) (lands a inside.Size)) (λ none. override_beyond a (the_second (next_is class.Hash here) (begins_tight here) begun none))

      sum_beyond : (a : Around) → begins_sum here ≡ true → Lands us (sum_over j a here)
      unfolding sum_over
      sum_beyond a begun = chained_beyond level.Sum (size_over j a) (among.size_lands us j lands a) (size_beyond a begun)

      counted_beyond : (a : Around) → (is_counting here || begins_sum here) ≡ true → Lands us (counted_over j a here)
      unfolding counted_over
      counted_beyond a begun =
          choose (is_counting here) (λ is. prefix_beyond (counting_of here) (j a inside.Sum) (lands a inside.Sum)) (λ none. sum_beyond a (the_second (is_counting here) (begins_sum here) begun none))

      comparison_beyond : (a : Around) → (is_counting here || begins_sum here) ≡ true → Lands us (comparison_over j a here)
      unfolding comparison_over
      comparison_beyond a begun =
          among_then (counted_beyond a begun) (λ x e. among_choice (begins_comparison a x.1) (among_then (among.comparing_lands us x.1 e) (λ c f. among_then (among.counted_lands us j lands a c.1 f) (λ y g. read _ refl g))) (read x refl e))

      -- what begins a node begins a comparison, if it isn't another word
      comparison_left : begins_node here ≡ true → next_is class.Not here ≡ false → next_is class.All here ≡ false → next_is class.Let here ≡ false → (is_counting here || begins_sum here) ≡ true
      unfolding begins_node
      comparison_left begun negated every bound = rw (negated, every, bound) at begun

      negation_beyond : (a : Around) → begins_node here ≡ true → Lands us (negation_over j a here)
      unfolding negation_over
      negation_beyond a begun =
          choose (next_is class.Not here) (λ is. prefix_beyond prefix.Not (j a inside.Negation) (lands a inside.Negation)) (λ negated.
          choose (next_is class.All here) (λ is. lands a (inside.Quantified quantifier.All (place_at here)) us (all_last us)) (λ every.
          choose (next_is class.Let here) (λ is. lands a (inside.Let (place_at here)) us (all_last us)) (λ bound.
          among_choice (is_counting here && begins_declaration a us) (lands a (inside.Quantified (quantifier_of here) (place_at here)) us (all_last us))
          (comparison_beyond a (comparison_left begun negated every bound)))))

      implication_beyond : (a : Around) → begins_node here ≡ true → Lands us (implication_over j a here)
      unfolding implication_over and_over
      implication_beyond a begun =
          among_then (chained_beyond level.And (negation_over j a) (among.negation_lands us j lands a) (negation_beyond a begun)) (λ x e.
          among_choice (next_is class.Implies x.1) (among.implied_lands us j lands a x.0 (place_at x.1) (after x.1) (after_last us x.1 e)) (read x refl e))

      node_beyond : (a : Around) → begins_node here ≡ true → Lands us (node_over j a here)
      unfolding node_over iff_over
      node_beyond a begun =
          chained_beyond level.Or (iff_over j a) (among.iff_lands us j lands a) (chained_beyond level.Iff (implication_over j a) (among.implication_lands us j lands a) (implication_beyond a begun))

    pub inside_beyond : (a : Around) (part : Inside) → (may_be_block part && is_comprehension here) ≡ false → begins part here ≡ true → Lands us (inside_over false j a part here)
    unfolding inside_over may_be_block begins
    inside_beyond a inside.Node plain begun = node_beyond plain a begun
    inside_beyond a inside.Negation plain begun = negation_beyond plain a begun
    inside_beyond a inside.Implied plain begun = implication_beyond plain a begun
    inside_beyond a inside.Sum plain begun = sum_beyond plain a begun
    inside_beyond a inside.Size plain begun = size_beyond plain a begun
    inside_beyond a inside.Tight plain begun = tight_beyond plain a begun
    inside_beyond a (inside.Quantified q p) plain begun = quantified_beyond a q p begun
    inside_beyond a (inside.Let p) plain begun = let_beyond a p begun

  -- ---- bounds

  module _ (j : BoundReader) (land : BoundsLand j) where
    side_beyond : (p : Standing) → begins_bound here ≡ true → Lands us (side_over j p here)
    unfolding side_over begins_bound
    side_beyond p begun =
        choose (next_is class.LeftParen here) (λ is. among_then (land p us us (all_last us)) (λ x e. among_then (expect_lands us class.RightParen x.1 e) (λ c f. read _ refl f)))
        (λ none. among_then (spelled_beyond class.Name (the_second (next_is class.LeftParen here) (next_is class.Name here) begun none)) (λ x e. read _ refl e))

    bound_arrows_beyond : (p : Standing) → begins_bound here ≡ true → Lands us (bound_arrows_over false j p here)
    unfolding bound_arrows_over more_bound_arrows
    bound_arrows_beyond p begun =
        among_then (side_beyond p begun) (λ x e. among_choice (begins_bound_arrow x.1)
        (among_then (arrow_land j land p x.0.marked x.0.has_arrow us x.1 e) (λ a f.
        among_then {P = LeavesLast {A = List BoundArrowTree} us} (among_then (many_lands us begins_bound_arrow (bound_arrow_over false j p (word_beside x.1) true) (arrow_land j land p (word_beside x.1) true us) a.1 f) (λ as' g. read _ refl g)) (λ m g. read _ refl g)))
        (read x refl e))

    pub bound_beyond : (p : Standing) → begins_bound here ≡ true → Lands us (bound_over false j p here)
    unfolding bound_over
    bound_beyond p begun =
        among_then (bound_arrows_beyond p begun) (λ x e. among_choice (next_is class.Plus x.1)
        (rw (word_passes x.0.marked) (among_then (many_lands us (next_is class.Plus) (operand_over false j p) (operand_land j land p us) x.1 e) (λ m f. read _ refl f)))
        (read x refl e))
