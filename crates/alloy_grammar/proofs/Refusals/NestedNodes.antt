-- Nodes under each number of constructs that may nest.
use Rattle.std.proofs.Common.{◌≡◌, inl, inr, ℕ, zero, suc, ◌<◌, true, false, ◌&&◌, List, ◌∷◌, length, Ok, Err, refl, sym, ◌∙◌, arith}
use Rattle.alloy_lex.specs.declared.token.Place.{Place}
use Rattle.alloy_syntax.specs.declared.class.Class.TheVariants as class
use Rattle.alloy_syntax.specs.declared.reading.Form.TheVariants as form
use Rattle.alloy_syntax.specs.declared.reading.Around.{Around}
use Rattle.alloy_syntax.specs.declared.reading.Around.TheVariants as around
use Rattle.alloy_syntax.specs.declared.reading.Level.{Level}
use Rattle.alloy_syntax.specs.declared.reading.Level.TheVariants as level
use Rattle.alloy_syntax.specs.declared.reading.Inside.{Inside}
use Rattle.alloy_syntax.specs.declared.reading.Inside.TheVariants as inside
use Rattle.alloy_syntax.specs.declared.tree.Quantifier.{Quantifier}
use Rattle.alloy_syntax.specs.declared.parser_token.ParserToken.{ParserToken}
use Rattle.alloy_syntax.specs.Class.{is_class}
use Rattle.alloy_syntax.specs.Tree.{Tree, named}
use Rattle.alloy_syntax.specs.Readers.{ParseStopView, refused, too_deep, unsupported, Parser, next_is, after, place_at, spelled_at, name_at, after_mark, behind, others, listed, names_at}
use Rattle.alloy_syntax.specs.Nodes.{Reader, begins_primary, begins_tight, begins_sum, begins_node, begins, may_be_block, stop_at, is_comprehension, is_tightening, primary_over, tight_over, path_over, begins_step, step_over, begins_link, chained, restrict_over, arrows_over, meet_over, override_over, behind_prefix, size_over, sum_over, is_counting, counted_over, comparison_over, negation_over, and_over, implication_over, iff_over, node_over, after_disj, variable_names, variables_over, declaration_over, another_declaration, more_declarations, declarations_over, quantified_over, inside_over, within}
use Rattle.alloy_grammar.proofs.Results.{either, no_success}
use Rattle.alloy_grammar.proofs.Quantified.{within_reads}
use Rattle.alloy_grammar.proofs.Faults.LastTokens.{all_last, after_last, after_mark_last, expect_lands, spelled_lands, many_lands, behind_lands}
use Rattle.alloy_grammar.proofs.Faults.NodesAmong as among
use Rattle.alloy_grammar.proofs.Refusals.SeamedLists.{Seam, rest_of, near, past, out, of_past, IsElse, Past, went, faulty, Runs, ended, Law, landed, past_then, past_choice, class_next}
use Rattle.alloy_grammar.proofs.Refusals.Tests.{quiet_class, quiet_step, quiet_link, quiet_arrow}
use Rattle.alloy_grammar.proofs.Refusals.Nodes.{NameRead, named_so, deeper, Steady, chained_past, runs_taken, arrows_more, comma_compares_not, comparison_past, tight_law, sum_law, node_law, size_law, negation_law, implication_law, quantified_law, let_law}

-- ---- where no construct may nest more

module _ (s : Seam) where
  stops_always : (part : Inside) (ts : List ParserToken) → (d : ParseStopView) × (stop_at {A = Tree} part ts ≡ Err d)
  unfolding stop_at
  stops_always part ts =
      elim (either (may_be_block part && is_comprehension ts)) [
        | inl is ↦ (unsupported form.Comprehension ts, rw is refl)
        | inr fails ↦ elim (either (begins part ts)) [ inl is ↦ (too_deep ts, rw (fails, is) refl) | inr neither ↦ (refused ts, rw (fails, neither) refl) ]
      ]

  stop_in : (a : Around) (p q : Inside) → Law s a (stop_at {A = Tree} p) (stop_at {A = Tree} q)
  stop_in a p q ts us (near ws e f) = let d = stops_always q us in out (ended d.0 d.1)
  stop_in a p q ts us (past last) = out (landed (among.stop_lands s.later p ts last))

  -- what begins such a part lies too deep, or is a form that is refused
  deep_else : (part : Inside) (ts : List ParserToken) → begins part ts ≡ true → (d : ParseStopView) × (stop_at {A = Tree} part ts ≡ Err d) × IsElse s d
  unfolding stop_at
  deep_else part ts is =
      elim (either (may_be_block part && is_comprehension ts)) [
        | inl c ↦ (unsupported form.Comprehension ts, rw c refl, tt)
        | inr fails ↦ (too_deep ts, rw (fails, is) refl, tt)
      ]

  deep_past : (part : Inside) (ts : List ParserToken) → begins part ts ≡ true → Past s (stop_at {A = Tree} part ts)
  deep_past part ts is = let d = deep_else part ts is in faulty d.0 d.1 d.2

  deep_named : (part : Inside) (ts us : List ParserToken) → begins part ts ≡ true → NameRead s (stop_at {A = Tree} part ts) us
  deep_named part ts us is = let d = deep_else part ts is in deeper d.0 d.1 d.2

name_begins : (part : Inside) (t : ParserToken) (ts : List ParserToken) → t.class ≡ class.Name → begins part (t ∷ ts) ≡ true
unfolding begins begins_node begins_sum begins_tight begins_primary is_tightening is_counting next_is is_class
name_begins inside.Node t ts e = rw e refl
name_begins inside.Negation t ts e = rw e refl
name_begins inside.Implied t ts e = rw e refl
name_begins inside.Sum t ts e = rw e refl
name_begins inside.Size t ts e = rw e refl
name_begins inside.Tight t ts e = rw e refl
name_begins (inside.Quantified q p) t ts e = rw e refl
name_begins (inside.Let p) t ts e = rw e refl

not_begins_node : (t : ParserToken) (ts : List ParserToken) → t.class ≡ class.Not → begins inside.Node (t ∷ ts) ≡ true
unfolding begins begins_node next_is is_class
not_begins_node t ts e = rw e refl

steady_zero : (s : Seam) → Steady s (within false zero)
unfolding within
steady_zero s = record {
  parts = λ a part. stop_in s a part part;
  quantified = λ a q r p o. stop_in s a (inside.Quantified q p) (inside.Quantified r o);
  bound_by_let = λ a p o. stop_in s a (inside.Let p) (inside.Let o);
  lands = λ base a part. among.stop_lands base part;
  short = λ ts x rest e. (let d = stops_always s inside.Node ts in no_success d.0 (x, rest) (sym d.1 ∙ e));
  not_taken = λ e. deep_past s inside.Node (rest_of s) (not_begins_node s.token s.later e);
  node_taken = λ e. deep_past s inside.Node (rest_of s) (name_begins inside.Node s.token s.later e);
  sum_taken = λ a e. deep_past s inside.Sum (rest_of s) (name_begins inside.Sum s.token s.later e);
  quantified_taken = λ a q p e. deep_past s (inside.Quantified q p) (rest_of s) (name_begins (inside.Quantified q p) s.token s.later e);
  node_named = λ n c ts e f. deep_named s inside.Node (n ∷ c ∷ ts) (c ∷ ts) (name_begins inside.Node n (c ∷ ts) e);
  sum_named = λ n c ts e f. deep_named s inside.Sum (n ∷ c ∷ ts) (c ∷ ts) (name_begins inside.Sum n (c ∷ ts) e);
  names_taken = λ q p n ts e more. deep_past s (inside.Quantified q p) (n ∷ ts) (name_begins (inside.Quantified q p) n ts e);
}

-- ---- a name before a comma is read as it

chained_one : (l : Level) (item : Parser Tree) (ts : List ParserToken) (x : Tree) (rest : List ParserToken) → item ts ≡ Ok (x, rest) → begins_link l rest ≡ false → chained l item ts ≡ Ok (x, rest)
unfolding chained
chained_one l item ts x rest e ends = rw (e, ends) refl

tight_read : (i : Reader) (a : Around) (n : ParserToken) (ts : List ParserToken) → n.class ≡ class.Name → tight_over i a (n ∷ ts) ≡ Ok (named (record { text = n.text; place = n.place }), ts)
unfolding tight_over primary_over is_tightening next_is spelled_at is_class
tight_read i a n ts e = rw e refl

module _ (i : Reader) (a : Around) (n c : ParserToken) (ts : List ParserToken) (e : n.class ≡ class.Name) (f : c.class ≡ class.Comma) where
  abbrev here : List ParserToken
  here = n ∷ c ∷ ts

  abbrev rest : List ParserToken
  rest = c ∷ ts

  abbrev it : Tree
  it = named (record { text = n.text; place = n.place })

  tight_named : tight_over i a here ≡ Ok (it, rest)
  tight_named = tight_read i a n rest e

  path_named : path_over i a here ≡ Ok (it, rest)
  unfolding path_over
  path_named = rw (tight_named, quiet_step c ts (inr f)) refl

  restrict_named : restrict_over i a here ≡ Ok (it, rest)
  unfolding restrict_over
  restrict_named = chained_one level.Restrict (path_over i a) here it rest path_named (quiet_link level.Restrict c ts (inr f))

  arrows_named : arrows_over i a here ≡ Ok (it, rest)
  unfolding arrows_over
  arrows_named = rw (restrict_named, quiet_arrow c ts (inr f)) refl

  meet_named : meet_over i a here ≡ Ok (it, rest)
  unfolding meet_over
  meet_named = chained_one level.Meet (arrows_over i a) here it rest arrows_named (quiet_link level.Meet c ts (inr f))

  override_named : override_over i a here ≡ Ok (it, rest)
  unfolding override_over
  override_named = chained_one level.Override (meet_over i a) here it rest meet_named (quiet_link level.Override c ts (inr f))

  no_word : (next_is class.Hash here ≡ false) × (is_counting here ≡ false) × (next_is class.Not here ≡ false) × (next_is class.All here ≡ false) × (next_is class.Let here ≡ false) × (next_is class.Disj here ≡ false)
  unfolding is_counting next_is is_class
  no_word = rw e (refl, refl, refl, refl, refl, refl)

  size_named : size_over i a here ≡ Ok (it, rest)
  unfolding size_over
  size_named = rw no_word.0 override_named

  sum_read : sum_over i a here ≡ Ok (it, rest)
  unfolding sum_over
  sum_read = chained_one level.Sum (size_over i a) here it rest size_named (quiet_link level.Sum c ts (inr f))

  counted_named : counted_over i a here ≡ Ok (it, rest)
  unfolding counted_over
  counted_named = rw no_word.1 sum_read

node_read : (i : Reader) (n c : ParserToken) (ts : List ParserToken) → n.class ≡ class.Name → c.class ≡ class.Comma → node_over i around.Brackets (n ∷ c ∷ ts) ≡ Ok (named (record { text = n.text; place = n.place }), c ∷ ts)
unfolding node_over iff_over implication_over and_over negation_over comparison_over is_class
node_read i n c ts e f =
    let w = no_word i around.Brackets n c ts e f in
    let x = named (record { text = n.text; place = n.place }) in
    let us = n ∷ c ∷ ts in
    let compared_one : comparison_over i around.Brackets us ≡ Ok (x, c ∷ ts) = rw (counted_named i around.Brackets n c ts e f, comma_compares_not c ts f) refl in
    let negated_one : negation_over i around.Brackets us ≡ Ok (x, c ∷ ts) = rw (w.2, w.3, w.4, w.1) compared_one in
    let and_one = chained_one level.And (negation_over i around.Brackets) us x (c ∷ ts) negated_one (quiet_link level.And c ts (inr f)) in
    let implied_one : implication_over i around.Brackets us ≡ Ok (x, c ∷ ts) = rw (and_one, quiet_class class.Implies refl refl c ts (inr f)) refl in
    let iff_one = chained_one level.Iff (implication_over i around.Brackets) us x (c ∷ ts) implied_one (quiet_link level.Iff c ts (inr f)) in
    chained_one level.Or (iff_over i around.Brackets) us x (c ∷ ts) iff_one (quiet_link level.Or c ts (inr f))

-- ---- under one construct more

module _ (s : Seam) (i : Reader) (st : Steady s i) where
  path_past : (a : Around) (ts : List ParserToken) → Past s (tight_over i a ts) → Past s (path_over i a ts)
  unfolding path_over
  path_past a ts h =
      past_then h (λ x last. past_choice (begins_step x.1) (past_then (landed (many_lands s.later begins_step (step_over i a) (among.step_lands s.later i (st.lands s.later) a) x.1 last)) (λ xs end. went _ refl end)) (went x refl last))

  arrows_past : (a : Around) (ts : List ParserToken) → Past s (restrict_over i a ts) → Past s (arrows_over i a ts)
  unfolding arrows_over
  arrows_past a ts h = past_then h (λ x last. of_past (arrows_more s i st a x x (past last)))

  override_past : (a : Around) (ts : List ParserToken) → Past s (tight_over i a ts) → Past s (override_over i a ts)
  unfolding override_over meet_over restrict_over
  override_past a ts h =
      chained_past s level.Override (meet_over i a) ts (among.meet_lands s.later i (st.lands s.later) a)
      (chained_past s level.Meet (arrows_over i a) ts (among.arrows_land s.later i (st.lands s.later) a)
      (arrows_past a ts (chained_past s level.Restrict (path_over i a) ts (among.path_lands s.later i (st.lands s.later) a) (path_past a ts h))))

  tight_name : (a : Around) → s.token.class ≡ class.Name → Past s (tight_over i a (rest_of s))
  tight_name a e = went _ (tight_read i a s.token s.later e) (all_last s.later)

  no_words : s.token.class ≡ class.Name → (next_is class.Hash (rest_of s) ≡ false) × (is_counting (rest_of s) ≡ false) × (next_is class.Not (rest_of s) ≡ false) × (next_is class.All (rest_of s) ≡ false) × (next_is class.Let (rest_of s) ≡ false) × (next_is class.Disj (rest_of s) ≡ false)
  unfolding is_counting next_is is_class
  no_words e = rw e (refl, refl, refl, refl, refl, refl)

  sum_name : (a : Around) → s.token.class ≡ class.Name → Past s (sum_over i a (rest_of s))
  unfolding sum_over size_over
  sum_name a e =
      chained_past s level.Sum (size_over i a) (rest_of s) (among.size_lands s.later i (st.lands s.later) a) (rw (no_words e).0 (override_past a (rest_of s) (tight_name a e)))

  implication_past : (a : Around) (ts : List ParserToken) → Past s (and_over i a ts) → Past s (implication_over i a ts)
  unfolding implication_over
  implication_past a ts h =
      past_then h (λ x last. past_choice (next_is class.Implies x.1) (landed (among.implied_lands s.later i (st.lands s.later) a x.0 (place_at x.1) (after x.1) (after_last s.later x.1 last))) (went x refl last))

  node_past : (a : Around) (ts : List ParserToken) → Past s (negation_over i a ts) → Past s (node_over i a ts)
  unfolding node_over iff_over and_over
  node_past a ts h =
      chained_past s level.Or (iff_over i a) ts (among.iff_lands s.later i (st.lands s.later) a)
      (chained_past s level.Iff (implication_over i a) ts (among.implication_lands s.later i (st.lands s.later) a)
      (implication_past a ts (chained_past s level.And (negation_over i a) ts (among.negation_lands s.later i (st.lands s.later) a) h)))

  node_name : (a : Around) → s.token.class ≡ class.Name → Past s (node_over i a (rest_of s))
  unfolding negation_over counted_over
  node_name a e =
      let w = no_words e in
      node_past a (rest_of s) (rw (w.2, w.3, w.4, w.1) (comparison_past s i st a (rest_of s) (rw w.1 (sum_name a e))))

  node_not : s.token.class ≡ class.Not → Past s (node_over i around.Braces (rest_of s))
  unfolding negation_over behind_prefix
  node_not e =
      node_past around.Braces (rest_of s) (rw (class_next s.token s.later class.Not e) (past_then (landed (st.lands s.later around.Braces inside.Negation s.later (all_last s.later))) (λ x last. went _ refl last)))

  names_past : (a : Around) (q : Quantifier) (p : Place) (ts : List ParserToken) → next_is class.Disj ts ≡ false → Past s (names_at ts) → Past s (quantified_over false i a q p ts)
  unfolding quantified_over declarations_over more_declarations declaration_over variables_over variable_names
  names_past a q p ts d h =
      let first_names : Past s (names_at (after_disj ts)) = rw d h in
      past_then (past_then (past_then (past_then first_names (λ ns last. past_then (landed (expect_lands s.later class.Colon ns.1 last)) (λ c end. went _ refl end)))
      (λ ns last. past_then (landed (among.sum_lands s.later i (st.lands s.later) around.Parens (after_mark ns.1) (after_mark_last s.later ns.1 last))) (λ x end. went _ refl end)))
      (λ first last. past_then (landed (many_lands s.later (next_is class.Comma) (another_declaration i false) (among.another_lands s.later i (st.lands s.later) false) first.1 last)) (λ ds end. went _ refl end)))
      (λ ds last. past_then (landed (among.body_lands s.later i (st.lands s.later) a ds.1 last)) (λ x end. went _ refl end))

  name_past : s.token.class ≡ class.Name → Past s (name_at (rest_of s))
  unfolding spelled_at next_is
  name_past e = rw (class_next s.token s.later class.Name e) (went _ refl (all_last s.later))

  quantified_name : (a : Around) (q : Quantifier) (p : Place) → s.token.class ≡ class.Name → Past s (quantified_over false i a q p (rest_of s))
  unfolding names_at listed others
  quantified_name a q p e =
      names_past a q p (rest_of s) (no_words e).5 (past_then (name_past e) (λ x last. past_then (landed (many_lands s.later (next_is class.Comma) (behind name_at) (behind_lands s.later name_at (spelled_lands s.later class.Name)) x.1 last)) (λ xs end. went _ refl end)))

  name_is : (n : ParserToken) (ts : List ParserToken) → n.class ≡ class.Name → name_at (n ∷ ts) ≡ Ok (record { text = n.text; place = n.place }, ts)
  unfolding spelled_at next_is
  name_is n ts e = rw (class_next n ts class.Name e) refl

  names_run : (n : ParserToken) (ts : List ParserToken) → n.class ≡ class.Name → Runs s ts → Past s (names_at (n ∷ ts))
  unfolding names_at listed others
  names_run n ts e more =
      rw (name_is n ts e) (past_then (runs_taken s i st name_at (λ us last. landed (spelled_lands s.later class.Name us last)) name_past (λ m c us g h. inl (record { text = m.text; place = m.place }, name_is m (c ∷ us) g)) (suc (length ts)) ts (omega arith) more) (λ xs end. went _ refl end))

  no_disj : (n : ParserToken) (ts : List ParserToken) → n.class ≡ class.Name → next_is class.Disj (n ∷ ts) ≡ false
  unfolding next_is is_class
  no_disj n ts e = rw e refl

  parts_law : (a : Around) (part : Inside) → Law s a (inside_over false i a part) (inside_over false i a part)
  unfolding inside_over
  parts_law a inside.Node = node_law s i st a
  parts_law a inside.Negation = negation_law s i st a
  parts_law a inside.Implied = implication_law s i st a
  parts_law a inside.Sum = sum_law s i st a
  parts_law a inside.Size = size_law s i st a
  parts_law a inside.Tight = tight_law s i st a
  parts_law a (inside.Quantified q p) = quantified_law s i st a q q p p
  parts_law a (inside.Let p) = let_law s i st a p p

  steady_more : ((ts : List ParserToken) (x : Tree) (rest : List ParserToken) → node_over i around.Braces ts ≡ Ok (x, rest) → length rest < length ts) → Steady s (inside_over false i)
  unfolding inside_over
  steady_more short = record {
    parts = parts_law;
    quantified = quantified_law s i st;
    bound_by_let = let_law s i st;
    lands = λ base. among.inside_lands base i (st.lands base) false;
    short = short;
    not_taken = node_not;
    node_taken = node_name around.Brackets;
    sum_taken = sum_name;
    quantified_taken = quantified_name;
    node_named = λ n c ts e f. named_so (named (record { text = n.text; place = n.place })) (node_read i n c ts e f);
    sum_named = λ n c ts e f. named_so (named (record { text = n.text; place = n.place })) (sum_read i around.Brackets n c ts e f);
    names_taken = λ q p n ts e more. names_past around.Brackets q p (n ∷ ts) (no_disj n ts e) (names_run n ts e more);
  }

node_short : (room : ℕ) (ts : List ParserToken) (x : Tree) (rest : List ParserToken) → node_over (within false room) around.Braces ts ≡ Ok (x, rest) → length rest < length ts
unfolding within inside_over
node_short room ts x rest e = ((within_reads false (suc room)).node around.Braces ts x rest e).0.shorter

pub steady : (s : Seam) (room : ℕ) → Steady s (within false room)
unfolding within
steady s zero = steady_zero s
steady s (suc room) = steady_more s (within false room) (steady s room) (node_short room)
