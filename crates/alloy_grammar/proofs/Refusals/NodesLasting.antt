-- Nodes where more constructs may nest, and forms may pass: reading stops nowhere before the first fault, and behind what lay too deep.
use Rattle.std.proofs.Common.{◌≡◌, ℕ, zero, suc, inl, inr, Bool, true, false, ◌&&◌, List, [], ◌∷◌, length, Result, Ok, refl, sym, subst, arith}
use Rattle.alloy_lex.specs.declared.token.Place.{Place}
use Rattle.alloy_syntax.specs.declared.class.Class.TheVariants as class
use Rattle.alloy_syntax.specs.declared.reading.Form.TheVariants as form
use Rattle.alloy_syntax.specs.declared.reading.Around.{Around}
use Rattle.alloy_syntax.specs.declared.reading.Around.TheVariants as around
use Rattle.alloy_syntax.specs.declared.reading.Level.{Level}
use Rattle.alloy_syntax.specs.declared.reading.Level.TheVariants as level
use Rattle.alloy_syntax.specs.declared.reading.Inside.{Inside}
use Rattle.alloy_syntax.specs.declared.reading.Inside.TheVariants as inside
use Rattle.alloy_syntax.specs.Class.{is_class}
use Rattle.alloy_syntax.specs.declared.tree.Name.{Name}
use Rattle.alloy_syntax.specs.declared.tree.Quantifier.{Quantifier}
use Rattle.alloy_syntax.specs.declared.tree.Quantifier.TheVariants as quantifier
use Rattle.alloy_syntax.specs.declared.tree.Prefix.{Prefix}
use Rattle.alloy_syntax.specs.declared.tree.Prefix.TheVariants as prefix
use Rattle.alloy_syntax.specs.declared.parser_token.ParserToken.{ParserToken}
use Rattle.alloy_syntax.specs.Tree.{Tree}
use Rattle.alloy_syntax.specs.Readers.{ParseStopView, refused, too_deep, unsupported, Parser, ◌>>=◌, next_is, after, place_at, expect, spelled_at, name_at, is_mark, after_mark, repeated, behind, others, listed, names_at}
use Rattle.alloy_syntax.specs.Nodes.{Reader, may_be_block, begins_primary, begins_tight, begins_sum, begins_node, begins, stop_at, is_comprehension, block_over, block_tree, is_inner, paren_over, is_constant, primary_over, behind_prefix, is_tightening, tightening_of, tight_over, arguments_over, brackets_over, begins_step, step_over, path_over, begins_link, link_over, chained, restrict_over, begins_arrow, arrow_over, arrows_over, meet_over, override_over, size_over, sum_over, braced_over, counting_of, is_counting, counted_over, begins_comparison, comparison_over, begins_declaration, quantifier_of, negation_over, and_over, implied_over, implication_over, iff_over, node_over, is_single, after_disj, one_name, are_several, one_alone, variable_names, variables_over, declaration_over, another_declaration, more_declarations, declarations_over, body_over, quantified_over, binding_over, bindings_over, let_over, inside_over, within}
use Rattle.alloy_grammar.proofs.Results.{success, stop, known, either, done_is, no_success}
use Rattle.alloy_grammar.specs.Faults.Stops.{AreLast}
use Rattle.alloy_grammar.proofs.Faults.LastTokens.{LeavesLast, Lands, Keeps, read, all_last, after_last, after_mark_last, among_then, among_choice, expect_lands, spelled_lands, many_lands, behind_lands, names_land}
use Rattle.alloy_grammar.proofs.Faults.NodesAmong as among
use Rattle.alloy_grammar.proofs.Faults.Rooms.{comprehension_stops, part_refuses}
use Rattle.alloy_grammar.proofs.Refusals.TakenTokens.{inside_beyond}
use Rattle.alloy_grammar.proofs.Refusals.ShallowReadings.{calm, stopped_calm, expect_calm, spelled_calm, number_calm, names_calm, comparing_calm, variables_calm}
use Rattle.alloy_grammar.proofs.Refusals.Lasting.{Later, Lasts, Lasting, same, later, Room, less_room, no_room, among_read, alike, both_read, lasts_on, lasts_on_known, lasts_known, lasts_then, lasts_choice, repeated_lands, many_lasts, listed_lasts}

link_lasts : {strict deeper : Bool} (l : Level) (p q : Parser Tree) → Lasting strict deeper p q → Lasting strict deeper (link_over l p) (link_over l q)
unfolding link_over
link_lasts l p q h ts = lasts_then (h (after ts)) (λ x. both_read) (λ base x e. read _ refl e)

chained_lasts : {strict deeper : Bool} (l : Level) (p q : Parser Tree) → ((base : List ParserToken) → Keeps base q) → Lasting strict deeper p q → Lasting strict deeper (chained l p) (chained l q)
unfolding chained
chained_lasts l p q lands h ts =
    lasts_then (h ts) (λ x. lasts_choice (begins_link l x.1) (lasts_then (many_lasts (begins_link l) (link_over l p) (link_over l q) (λ base. among.link_lands base l q (lands base)) (link_lasts l p q h) x.1) (λ xs. both_read) (λ base xs e. read _ refl e)) both_read)
    (λ base x e. among_choice (begins_link l x.1) (among_then (many_lands base (begins_link l) (link_over l q) (among.link_lands base l q (lands base)) x.1 e) (λ xs f. read _ refl f)) (read x refl e))

prefix_lasts : {strict deeper : Bool} (f : Prefix) (p q : Parser Tree) → Lasting strict deeper p q → Lasting strict deeper (behind_prefix f p) (behind_prefix f q)
unfolding behind_prefix
prefix_lasts f p q h ts = lasts_then (h (after ts)) (λ x. both_read) (λ base x e. read _ refl e)

-- ---- the names of variables, of which there is one where only one may be bound

none_several : {P : Type 0} (n : Name) → are_several (n ∷ []) ≡ true → P
none_several n e = absurd cc

-- a name behind the first comma, and one more behind each other
abbrev Names : List ParserToken → Result (List Name × List ParserToken) ParseStopView
Names ts = name_at (after ts) >>= λ y. repeated (next_is class.Comma) (behind name_at) (length ts) y.1 >>= λ ys. Ok (y.0 ∷ ys.0, ys.1)

names_end : (base ts : List ParserToken) → AreLast base (after ts) → Lands base (Names ts)
names_end base ts e =
    among_then (spelled_lands base class.Name (after ts) e) (λ y f. among_then (repeated_lands base (next_is class.Comma) (behind name_at) (behind_lands base name_at (spelled_lands base class.Name)) (length ts) y.1 f) (λ ys g. read _ refl g))

-- behind `disj`, the second name is read, and refused
one_lasts : {deeper : Bool} → Lasting true deeper one_name names_at
unfolding one_name names_at listed others repeated
one_lasts ts =
    elim (known (name_at ts)) [
      | stop d is ↦ rw is (alike (stopped_calm d (spelled_calm class.Name ts) is))
      | success x is ↦ rw is (
          elim (either (next_is class.Comma x.1)) [
            | inr ends ↦ rw ends both_read
            | inl more ↦ rw more (
                elim (known (name_at (after x.1))) [
                  | stop d fails ↦ rw fails (alike (stopped_calm d (spelled_calm class.Name (after x.1)) fails))
                  | success y there ↦ later (unsupported form.Several (after x.1)) (rw there refl)
                      (among_then (names_end (after x.1) x.1 (all_last (after x.1))) (λ zs f. read _ refl f))
                ])
          ])
    ]

-- of several names the first two tokens are the first name and a comma
many_names : (base ts : List ParserToken) (x : List Name × List ParserToken) → AreLast base (after (after ts)) → names_at ts ≡ Ok x → are_several x.0 ≡ true → AreLast base x.1
unfolding names_at listed others repeated spelled_at
many_names base [] x b e several = absurd cc
many_names base (t ∷ ts) x b e several =
    elim (either (is_class t.class class.Name)) [
      | inr none ↦ no_success (refused (t ∷ ts)) x (rw none at e)
      | inl name ↦ elim (either (next_is class.Comma ts)) [
        | inr ends ↦ none_several (record { text = t.text; place = t.place }) (subst (λ (y : List Name × List ParserToken). are_several y.0 ≡ true) (sym (done_is _ x (rw (name, ends) at e))) several)
        | inl more ↦ among_read (among_then {Q = LeavesLast {A = List Name} base} (names_end base ts b) (λ zs f. read _ refl f)) (rw (name, more) at e)
      ]
    ]

disj_last : (ts : List ParserToken) → AreLast (after (after ts)) (after (after (after_disj ts)))
disj_last ts =
    elim (either (next_is class.Disj ts)) [
      | inl is ↦ rw is (after_last (after (after ts)) (after (after ts)) (all_last (after (after ts))))
      | inr fails ↦ rw fails (all_last (after (after ts)))
    ]

names_last : {deeper : Bool} (ts : List ParserToken) → Lasts true deeper (variable_names true ts) (variable_names false ts)
unfolding variable_names
names_last ts = elim (either (next_is class.Disj ts)) [ inl is ↦ rw is (one_lasts (after ts)) | inr fails ↦ rw fails (alike (names_calm ts)) ]

alone_lasts : {deeper : Bool} (ts : List ParserToken) (x : List Name × List ParserToken) (c : Place × List ParserToken) → variable_names false ts ≡ Ok x → expect class.Colon x.1 ≡ Ok c → Lasts true deeper (one_alone true ts x.0 c.1) (one_alone false ts x.0 c.1)
unfolding variable_names
alone_lasts ts x c e f =
    elim (either (are_several x.0)) [
      | inr one ↦ rw one both_read
      | inl several ↦ (
          let base = after (after ts) in
          later (unsupported form.Several base) (rw several refl) (read _ refl (among_read (expect_lands base class.Colon x.1 (many_names base (after_disj ts) x (disj_last ts) e several)) f)))
    ]

variables_last : (strict deeper single : Bool) → Lasting strict deeper (variables_over (strict && single)) (variables_over false)
unfolding variables_over
variables_last true deeper true ts =
    lasts_known (names_last ts) (λ x e. lasts_on_known (expect_calm class.Colon x.1) (λ c f. alone_lasts ts x c e f))
    (λ base x e. among_then (expect_lands base class.Colon x.1 e) (λ c f. read _ refl f))
variables_last true deeper false ts = alike (variables_calm ts)
variables_last false deeper single ts = alike (variables_calm ts)

-- the second variable is read, and refused, where only one may be bound
second_lasts : {deeper : Bool} (i j : Reader) → ((base : List ParserToken) → among.Below base j) → Lasting true deeper (another_declaration i true) (another_declaration j false)
unfolding another_declaration declaration_over variables_over variable_names names_at listed others
second_lasts i j lands ts =
    elim (known (name_at (after_disj (after ts)))) [
      | stop d is ↦ rw is (alike (stopped_calm d (spelled_calm class.Name (after_disj (after ts))) is))
      | success x is ↦ (
          let base = after_disj (after ts) in
          later (unsupported form.Several base) (rw is refl)
          (among_then (among_then (names_land base base (all_last base)) (λ ns e. among_then (expect_lands base class.Colon ns.1 e) (λ c f. read _ refl f)))
          (λ ns e. among_then (among.sum_lands base j (lands base) around.Parens (after_mark ns.1) (after_mark_last base ns.1 e)) (λ d f. read _ refl f))))
    ]

another_lasts : (strict deeper : Bool) (i j : Reader) → ((base : List ParserToken) → among.Below base j) → (single : Bool) → Lasting strict deeper (another_declaration i false) (another_declaration j false) → Lasting strict deeper (another_declaration i (strict && single)) (another_declaration j false)
another_lasts true deeper i j lands true others ts = second_lasts i j lands ts
another_lasts true deeper i j lands false others ts = others ts
another_lasts false deeper i j lands single others ts = others ts

-- the second reader outlasts the first
abbrev pub Below : Bool → Bool → Reader → Reader → Type 0
Below strict deeper i j = (a : Around) (part : Inside) → Lasting strict deeper (i a part) (j a part)

module _ (strict deeper : Bool) (i j : Reader) (below : Below strict deeper i j) (lands : (base : List ParserToken) → among.Below base j) where
  pub block_lasts : Lasting strict deeper (block_over i) (block_over j)
  unfolding block_over
  block_lasts ts =
      lasts_choice (is_comprehension ts) (alike (calm refl))
      (lasts_on (expect_calm class.LeftBrace ts) (λ o. lasts_then (many_lasts is_inner (i around.Braces inside.Node) (j around.Braces inside.Node) (λ base. lands base around.Braces inside.Node) (below around.Braces inside.Node) o.1) (λ xs. lasts_on (expect_calm class.RightBrace xs.1) (λ c. both_read))
      (λ base xs e. among_then (expect_lands base class.RightBrace xs.1 e) (λ c f. read _ refl f))))

  block_tree_lasts : Lasting strict deeper (block_tree i) (block_tree j)
  unfolding block_tree
  block_tree_lasts ts = lasts_then (block_lasts ts) (λ x. both_read) (λ base x e. read _ refl e)

  paren_lasts : Lasting strict deeper (paren_over i) (paren_over j)
  unfolding paren_over
  paren_lasts ts =
      lasts_on (expect_calm class.LeftParen ts) (λ o. lasts_then (below around.Parens inside.Node o.1) (λ x. lasts_on (expect_calm class.RightParen x.1) (λ c. both_read)) (λ base x e. among_then (expect_lands base class.RightParen x.1 e) (λ c f. read _ refl f)))

  primary_lasts : Lasting strict deeper (primary_over i) (primary_over j)
  unfolding primary_over
  primary_lasts ts =
      lasts_choice (next_is class.Name ts) (lasts_on (spelled_calm class.Name ts) (λ x. both_read)) (lasts_choice (next_is class.Path ts) (lasts_on (spelled_calm class.Path ts) (λ x. both_read)) (lasts_choice (next_is class.Number ts) (lasts_on (number_calm ts) (λ x. both_read)) (lasts_choice (is_constant ts) both_read
      (lasts_choice (next_is class.LeftParen ts) (paren_lasts ts) (block_tree_lasts ts)))))

  tight_lasts : (a : Around) → Lasting strict deeper (tight_over i a) (tight_over j a)
  unfolding tight_over
  tight_lasts a ts = lasts_choice (is_tightening ts) (prefix_lasts (tightening_of ts) (i a inside.Tight) (j a inside.Tight) (below a inside.Tight) ts) (primary_lasts ts)

  arguments_lasts : Lasting strict deeper (arguments_over i) (arguments_over j)
  unfolding arguments_over
  arguments_lasts ts = lasts_choice (next_is class.RightBracket ts) both_read (listed_lasts (i around.Brackets inside.Node) (j around.Brackets inside.Node) (λ base. lands base around.Brackets inside.Node) (below around.Brackets inside.Node) ts)

  brackets_lasts : Lasting strict deeper (brackets_over i) (brackets_over j)
  unfolding brackets_over
  brackets_lasts ts = lasts_on (expect_calm class.LeftBracket ts) (λ o. lasts_then (arguments_lasts o.1) (λ xs. lasts_on (expect_calm class.RightBracket xs.1) (λ c. both_read)) (λ base xs e. among_then (expect_lands base class.RightBracket xs.1 e) (λ c f. read _ refl f)))

  step_lasts : (a : Around) → Lasting strict deeper (step_over i a) (step_over j a)
  unfolding step_over
  step_lasts a ts = lasts_choice (next_is class.Dot ts) (lasts_then (tight_lasts a (after ts)) (λ x. both_read) (λ base x e. read _ refl e)) (brackets_lasts ts)

  path_lasts : (a : Around) → Lasting strict deeper (path_over i a) (path_over j a)
  unfolding path_over
  path_lasts a ts =
      lasts_then (tight_lasts a ts) (λ x. lasts_choice (begins_step x.1) (lasts_then (many_lasts begins_step (step_over i a) (step_over j a) (λ base. among.step_lands base j (lands base) a) (step_lasts a) x.1) (λ xs. both_read) (λ base xs e. read _ refl e)) both_read)
      (λ base x e. among_choice (begins_step x.1) (among_then (many_lands base begins_step (step_over j a) (among.step_lands base j (lands base) a) x.1 e) (λ xs f. read _ refl f)) (read x refl e))

  restrict_lasts : (a : Around) → Lasting strict deeper (restrict_over i a) (restrict_over j a)
  unfolding restrict_over
  restrict_lasts a = chained_lasts level.Restrict (path_over i a) (path_over j a) (λ base. among.path_lands base j (lands base) a) (path_lasts a)

  arrow_lasts : (a : Around) → Lasting strict deeper (arrow_over i a) (arrow_over j a)
  unfolding arrow_over
  arrow_lasts a ts = lasts_choice (is_mark ts) (alike (calm refl)) (lasts_choice (is_mark (after ts)) (alike (calm refl)) (lasts_then (restrict_lasts a (after ts)) (λ x. both_read) (λ base x e. read _ refl e)))

  arrows_lasts : (a : Around) → Lasting strict deeper (arrows_over i a) (arrows_over j a)
  unfolding arrows_over
  arrows_lasts a ts =
      lasts_then (restrict_lasts a ts) (λ x. lasts_choice (begins_arrow x.1) (lasts_then (many_lasts begins_arrow (arrow_over i a) (arrow_over j a) (λ base. among.arrow_lands base j (lands base) a) (arrow_lasts a) x.1) (λ xs. both_read) (λ base xs e. read _ refl e)) both_read)
      (λ base x e. among_choice (begins_arrow x.1) (among_then (many_lands base begins_arrow (arrow_over j a) (among.arrow_lands base j (lands base) a) x.1 e) (λ xs f. read _ refl f)) (read x refl e))

  meet_lasts : (a : Around) → Lasting strict deeper (meet_over i a) (meet_over j a)
  unfolding meet_over
  meet_lasts a = chained_lasts level.Meet (arrows_over i a) (arrows_over j a) (λ base. among.arrows_land base j (lands base) a) (arrows_lasts a)

  override_lasts : (a : Around) → Lasting strict deeper (override_over i a) (override_over j a)
  unfolding override_over
  override_lasts a = chained_lasts level.Override (meet_over i a) (meet_over j a) (λ base. among.meet_lands base j (lands base) a) (meet_lasts a)

  size_lasts : (a : Around) → Lasting strict deeper (size_over i a) (size_over j a)
  unfolding size_over
  size_lasts a ts = lasts_choice (next_is class.Hash ts) (prefix_lasts prefix.Size (i a inside.Size) (j a inside.Size) (below a inside.Size) ts) (override_lasts a ts)

  pub sum_lasts : (a : Around) → Lasting strict deeper (sum_over i a) (sum_over j a)
  unfolding sum_over
  sum_lasts a = chained_lasts level.Sum (size_over i a) (size_over j a) (λ base. among.size_lands base j (lands base) a) (size_lasts a)

  pub braced_lasts : Lasting strict deeper (braced_over i) (braced_over j)
  unfolding braced_over
  braced_lasts ts =
      lasts_on (expect_calm class.LeftBrace ts) (λ o. lasts_then (below around.Parens inside.Sum o.1) (λ x. lasts_on (expect_calm class.RightBrace x.1) (λ c. both_read)) (λ base x e. among_then (expect_lands base class.RightBrace x.1 e) (λ c f. read _ refl f)))

  counted_lasts : (a : Around) → Lasting strict deeper (counted_over i a) (counted_over j a)
  unfolding counted_over
  counted_lasts a ts = lasts_choice (is_counting ts) (prefix_lasts (counting_of ts) (i a inside.Sum) (j a inside.Sum) (below a inside.Sum) ts) (sum_lasts a ts)

  comparison_lasts : (a : Around) → Lasting strict deeper (comparison_over i a) (comparison_over j a)
  unfolding comparison_over
  comparison_lasts a ts =
      lasts_then (counted_lasts a ts) (λ x. lasts_choice (begins_comparison a x.1) (lasts_on (comparing_calm x.1) (λ c. lasts_then (counted_lasts a c.1) (λ y. both_read) (λ base y e. read _ refl e))) both_read)
      (λ base x e. among_choice (begins_comparison a x.1) (among_then (among.comparing_lands base x.1 e) (λ c f. among_then (among.counted_lands base j (lands base) a c.1 f) (λ y g. read _ refl g))) (read x refl e))

  negation_lasts : (a : Around) → Lasting strict deeper (negation_over i a) (negation_over j a)
  unfolding negation_over
  negation_lasts a ts =
      lasts_choice (next_is class.Not ts) (prefix_lasts prefix.Not (i a inside.Negation) (j a inside.Negation) (below a inside.Negation) ts)
      (lasts_choice (next_is class.All ts) (below a (inside.Quantified quantifier.All (place_at ts)) (after ts))
      (lasts_choice (next_is class.Let ts) (below a (inside.Let (place_at ts)) (after ts))
      (lasts_choice (is_counting ts && begins_declaration a (after ts)) (below a (inside.Quantified (quantifier_of ts) (place_at ts)) (after ts))
      (comparison_lasts a ts))))

  and_lasts : (a : Around) → Lasting strict deeper (and_over i a) (and_over j a)
  unfolding and_over
  and_lasts a = chained_lasts level.And (negation_over i a) (negation_over j a) (λ base. among.negation_lands base j (lands base) a) (negation_lasts a)

  implied_lasts : (a : Around) (left : Tree) (p : Place) → Lasting strict deeper (implied_over i a left p) (implied_over j a left p)
  unfolding implied_over
  implied_lasts a left p ts =
      lasts_then (below a inside.Implied ts) (λ x. lasts_choice (next_is class.Else x.1) (lasts_then (below a inside.Implied (after x.1)) (λ y. both_read) (λ base y e. read _ refl e)) both_read)
      (λ base x e. among_choice (next_is class.Else x.1) (among_then (lands base a inside.Implied (after x.1) (after_last base x.1 e)) (λ y f. read _ refl f)) (read _ refl e))

  implication_lasts : (a : Around) → Lasting strict deeper (implication_over i a) (implication_over j a)
  unfolding implication_over
  implication_lasts a ts =
      lasts_then (and_lasts a ts) (λ x. lasts_choice (next_is class.Implies x.1) (implied_lasts a x.0 (place_at x.1) (after x.1)) both_read)
      (λ base x e. among_choice (next_is class.Implies x.1) (among.implied_lands base j (lands base) a x.0 (place_at x.1) (after x.1) (after_last base x.1 e)) (read x refl e))

  iff_lasts : (a : Around) → Lasting strict deeper (iff_over i a) (iff_over j a)
  unfolding iff_over
  iff_lasts a = chained_lasts level.Iff (implication_over i a) (implication_over j a) (λ base. among.implication_lands base j (lands base) a) (implication_lasts a)

  node_lasts : (a : Around) → Lasting strict deeper (node_over i a) (node_over j a)
  unfolding node_over
  node_lasts a = chained_lasts level.Or (iff_over i a) (iff_over j a) (λ base. among.iff_lands base j (lands base) a) (iff_lasts a)

  body_lasts : (a : Around) → Lasting strict deeper (body_over i a) (body_over j a)
  unfolding body_over
  body_lasts a ts = lasts_choice (next_is class.Bar ts) (node_lasts a (after ts)) (block_tree_lasts ts)

  binding_lasts : Lasting strict deeper (binding_over i) (binding_over j)
  unfolding binding_over
  binding_lasts ts = lasts_on (spelled_calm class.Name ts) (λ n. lasts_on (expect_calm class.Equal n.1) (λ q. lasts_then (sum_lasts around.Parens q.1) (λ x. both_read) (λ base x e. read _ refl e)))

  let_lasts : (a : Around) (p : Place) → Lasting strict deeper (let_over i a p) (let_over j a p)
  unfolding let_over bindings_over
  let_lasts a p ts =
      lasts_then (listed_lasts (binding_over i) (binding_over j) (λ base. among.binding_lands base j (lands base)) binding_lasts ts) (λ bs. lasts_then (body_lasts a bs.1) (λ x. both_read) (λ base x e. read _ refl e))
      (λ base bs e. among_then (among.body_lands base j (lands base) a bs.1 e) (λ x f. read _ refl f))

  declaration_lasts : (single : Bool) → Lasting strict deeper (variables_over single) (variables_over false) → Lasting strict deeper (declaration_over i single) (declaration_over j false)
  unfolding declaration_over
  declaration_lasts single variables ts =
      lasts_then (variables ts) (λ ns. lasts_then (sum_lasts around.Parens (after_mark ns.1)) (λ x. both_read) (λ base x e. read _ refl e))
      (λ base ns e. among_then (among.sum_lands base j (lands base) around.Parens (after_mark ns.1) (after_mark_last base ns.1 e)) (λ x f. read _ refl f))

  declarations_over_last : (single : Bool) → Lasting strict deeper (variables_over single) (variables_over false) → Lasting strict deeper (another_declaration i single) (another_declaration j false) → Lasting strict deeper (declarations_over i single) (declarations_over j false)
  unfolding declarations_over more_declarations
  declarations_over_last single variables another ts =
      lasts_then (declaration_lasts single variables ts) (λ d. lasts_then (many_lasts (next_is class.Comma) (another_declaration i single) (another_declaration j false) (λ base. among.another_lands base j (lands base) false) another d.1) (λ ds. both_read) (λ base ds e. read _ refl e))
      (λ base d e. among_then (many_lands base (next_is class.Comma) (another_declaration j false) (among.another_lands base j (lands base) false) d.1 e) (λ ds f. read _ refl f))

  others_last : Lasting strict deeper (another_declaration i false) (another_declaration j false)
  unfolding another_declaration
  others_last ts = declaration_lasts false (λ us. alike (variables_calm us)) (after ts)

  -- of several variables
  pub declarations_lasts : Lasting strict deeper (declarations_over i false) (declarations_over j false)
  declarations_lasts = declarations_over_last false (λ us. alike (variables_calm us)) others_last

  quantified_lasts : (a : Around) (q : Quantifier) (p : Place) → Lasting strict deeper (quantified_over strict i a q p) (quantified_over false j a q p)
  unfolding quantified_over
  quantified_lasts a q p ts =
      lasts_then (declarations_over_last (strict && is_single q) (variables_last strict deeper (is_single q)) (another_lasts strict deeper i j lands (is_single q) others_last) ts) (λ ds. lasts_then (body_lasts a ds.1) (λ x. both_read) (λ base x e. read _ refl e))
      (λ base ds e. among_then (among.body_lands base j (lands base) a ds.1 e) (λ x f. read _ refl f))

  inside_lasts : Below strict deeper (inside_over strict i) (inside_over false j)
  unfolding inside_over
  inside_lasts a inside.Node = node_lasts a
  inside_lasts a inside.Negation = negation_lasts a
  inside_lasts a inside.Implied = implication_lasts a
  inside_lasts a inside.Sum = sum_lasts a
  inside_lasts a inside.Size = size_lasts a
  inside_lasts a inside.Tight = tight_lasts a
  inside_lasts a (inside.Quantified q p) = quantified_lasts a q p
  inside_lasts a (inside.Let p) = let_lasts a p

-- ---- where the first may nest nothing

none_begins : (part : Inside) → begins part [] ≡ false
unfolding begins begins_node begins_sum begins_tight begins_primary is_tightening is_counting next_is
none_begins inside.Node = refl
none_begins inside.Negation = refl
none_begins inside.Implied = refl
none_begins inside.Sum = refl
none_begins inside.Size = refl
none_begins inside.Tight = refl
none_begins (inside.Quantified q p) = refl
none_begins (inside.Let p) = refl

-- more room lets reading go on where it lay too deep
deep_lasts : (strict : Bool) (room : ℕ) (a : Around) (part : Inside) (ts : List ParserToken) → (may_be_block part && is_comprehension ts) ≡ false → begins part ts ≡ true → Later strict LeavesLast (too_deep ts) (inside_over false (within false room) a part ts)
deep_lasts true room a part ts plain begun = among.inside_lands ts (within false room) (among.within_lands ts false room) false a part ts (all_last ts)
deep_lasts false room a part [] plain begun = let none = none_begins part in absurd cc
deep_lasts false room a part (t ∷ us) plain begun = (t, us, refl, inside_beyond t us (within false room) (among.within_lands us false room) a part plain begun)

stop_lasts : (strict deeper : Bool) (room : ℕ) (a : Around) (part : Inside) (ts : List ParserToken) → Lasts strict deeper (stop_at part ts) (inside_over false (within false room) a part ts)
unfolding stop_at
stop_lasts strict deeper room a part ts =
    elim (either (may_be_block part && is_comprehension ts)) [
      | inl is ↦ rw is (same (sym (comprehension_stops false (within false room) a part ts is)) (λ e. calm refl))
      | inr fails ↦ rw fails (
          elim (either (begins part ts)) [
            | inl begun ↦ rw begun (later (too_deep ts) refl (deep_lasts strict room a part ts fails begun))
            | inr none ↦ rw none (same (sym (part_refuses false (within false room) a part ts none)) (λ e. calm refl))
          ])
    ]

pub within_lasts : (strict deeper : Bool) (m n : ℕ) → Room deeper m n → Below strict deeper (within strict m) (within false n)
unfolding within
within_lasts strict true zero zero room a part ts = absurd (omega (arith, room))
within_lasts strict false zero zero room a part ts = same refl (λ e. absurd cc)
within_lasts strict deeper zero (suc n) room a part ts = stop_lasts strict deeper n a part ts
within_lasts strict deeper (suc m) zero room a part ts = no_room deeper m room
within_lasts strict deeper (suc m) (suc n) room a part ts =
    inside_lasts strict deeper (within strict m) (within false n) (within_lasts strict deeper m n (less_room deeper m n room)) (λ base. among.within_lands base false n) a part ts
