-- Nodes of two lists that are one up to a seam.
use Rattle.std.proofs.Common.{◌≡◌, ◌⊎◌, inl, inr, ℕ, zero, suc, ◌<◌, Bool, true, false, not, ◌&&◌, ◌||◌, if◌then◌else◌, List, [], ◌∷◌, ◌++◌, length, Result, Ok, Err, refl, sym, ap, subst, ◌∙◌, arith}
use Rattle.alloy_lex.specs.declared.token.Place.{Place}
use Rattle.alloy_syntax.specs.declared.class.Class.{Class}
use Rattle.alloy_syntax.specs.declared.class.Class.TheVariants as class
use Rattle.alloy_syntax.specs.declared.reading.Form.TheVariants as form
use Rattle.alloy_syntax.specs.declared.reading.Around.{Around}
use Rattle.alloy_syntax.specs.declared.reading.Around.TheVariants as around
use Rattle.alloy_syntax.specs.declared.reading.Level.{Level}
use Rattle.alloy_syntax.specs.declared.reading.Level.TheVariants as level
use Rattle.alloy_syntax.specs.declared.reading.Inside.{Inside}
use Rattle.alloy_syntax.specs.declared.reading.Inside.TheVariants as inside
use Rattle.alloy_syntax.specs.declared.tree.Quantifier.{Quantifier}
use Rattle.alloy_syntax.specs.declared.tree.Quantifier.TheVariants as quantifier
use Rattle.alloy_syntax.specs.declared.tree.Prefix.{Prefix}
use Rattle.alloy_syntax.specs.declared.tree.Prefix.TheVariants as prefix
use Rattle.alloy_syntax.specs.declared.parser_token.ParserToken.{ParserToken}
use Rattle.alloy_syntax.specs.Class.{is_class}
use Rattle.alloy_syntax.specs.Tree.{Tree, chain, compared, links_of}
use Rattle.alloy_syntax.specs.Readers.{ParseStopView, refused, unsupported, Parser, ◌>>=◌, next_is, after, place_at, one, expect, spelled_at, name_at, number_at, is_mark, after_mark, repeated, many, behind, others, listed, names_at, colon_after_names}
use Rattle.alloy_syntax.specs.Nodes.{Reader, in_braces, in_brackets_too, is_comprehension, block_over, block_tree, is_inner, paren_over, is_constant, primary_over, behind_prefix, is_tightening, tightening_of, tight_over, arguments_over, brackets_over, begins_step, step_over, path_over, begins_link, link_over, chained, restrict_over, begins_arrow, arrow_over, arrows_over, meet_over, override_over, size_over, sum_over, braced_over, counting_of, is_counting, counted_over, is_plain_comparison, begins_comparison, negated_comparing, comparing_at, comparison_over, begins_declaration, quantifier_of, negation_over, and_over, implied_over, implication_over, iff_over, node_over, after_disj, variable_names, variables_over, declaration_over, another_declaration, more_declarations, declarations_over, body_over, quantified_over, binding_over, bindings_over, let_over}
use Rattle.alloy_grammar.proofs.Results.{either}
use Rattle.alloy_grammar.proofs.Tokens.{class_is}
use Rattle.alloy_grammar.proofs.Lists.{Shortens}
use Rattle.alloy_grammar.specs.Faults.Stops.{AreLast}
use Rattle.alloy_grammar.proofs.Faults.LastTokens.{Lands, Keeps, read, among_then, all_last, after_last, one_lands, expect_lands, spelled_lands, many_lands}
use Rattle.alloy_grammar.proofs.Faults.NodesAmong as among
use Rattle.alloy_grammar.proofs.Refusals.SeamedLists.{Seam, rest_of, tail_of, At, near, past, out, of_near, of_past, IsElse, Past, went, faulty, Runs, comma_here, name_next, name_then, Held, Kept, holds, leaves, Parted, both, kept, ended, Out, Law, landed, past_then, past_choice, kept_then, stay, stay_all, then_held, then_out, sees_near, same_choice, choose, guarded, at_after, stay_after, at_choice, Onward, more_past, same, first, second, Tested, many_out, runs_first, quiet_held, short_behind, many_quiet, many_free, hold_quiet, class_next, sees_class, comma_short, listed_free}
use Rattle.alloy_grammar.proofs.Refusals.Tests.{sees_mark, sees_counting, sees_tightening, sees_constant, sees_inner, sees_step, sees_link, sees_plain, quiet_class, quiet_step, quiet_link, quiet_arrow}

-- ---- one token

pub other_is : (s : Seam) (c : Class) (b : Bool) → is_class s.token.class c ≡ b → is_class s.other.class c ≡ b
other_is s c b e = subst (λ (k : Class). is_class k c ≡ b) s.alike e

module _ (s : Seam) where
  one_near : {A : Type 0} (k : Around) (c : Class) (f : ParserToken → A) (ws : List ParserToken) → Parted s k (one c f (ws ++ rest_of s)) (one c f (ws ++ tail_of s))
  one_near k c f [] =
      elim (either (is_class s.token.class c)) [
        | inl is ↦ rw is (kept (leaves (went _ refl (all_last s.later))))
        | inr fails ↦ rw (other_is s c false fails) (ended _ refl)
      ]
  one_near k c f (w ∷ ws) =
      elim (either (is_class w.class c)) [
        | inl is ↦ rw is (both _ _ refl refl ws refl refl)
        | inr fails ↦ rw fails (ended _ refl)
      ]

  one_law : {A : Type 0} (k : Around) (c : Class) (f : ParserToken → A) → Law s k (one c f) (one c f)
  one_law k c f ts us (near ws e g) = out (rw (e, g) (one_near k c f ws))
  one_law k c f ts us (past last) = out (landed (one_lands s.later c f ts last))

  pub expect_law : (k : Around) (c : Class) → Law s k (expect c) (expect c)
  unfolding expect
  expect_law k c = one_law k c (λ t. t.place)

  pub spelled_law : (k : Around) (c : Class) → Law s k (spelled_at c) (spelled_at c)
  unfolding spelled_at
  spelled_law k c = one_law k c (λ t. record { text = t.text; place = t.place })

  pub name_law : (k : Around) → Law s k name_at name_at
  name_law k = spelled_law k class.Name

  pub number_law : (k : Around) → Law s k number_at number_at
  unfolding number_at
  number_law k = one_law k class.Number _

  pub names_law : Law s around.Parens names_at names_at
  unfolding names_at
  names_law = listed_free s name_at (λ base. spelled_lands base class.Name) (name_law around.Parens)

  pub mark_law : {A : Type 0} {k : Around} {ts us : List ParserToken} (at : At s ts us) (p q : Parser A) → Law s k p q → Out s k at (p (after_mark ts)) (q (after_mark us))
  unfolding after_mark
  mark_law at p q law = at_choice is_mark sees_mark at p q law

  pub disj_law : {A : Type 0} {k : Around} {ts us : List ParserToken} (at : At s ts us) (p q : Parser A) → Law s k p q → Out s k at (p (after_disj ts)) (q (after_disj us))
  disj_law at p q law = at_choice (next_is class.Disj) (sees_class class.Disj) at p q law

  -- ---- chains and prefixes

  link_law : (k : Around) (l : Level) (p : Parser Tree) → Law s k p p → Law s k (link_over l p) (link_over l p)
  unfolding link_over
  link_law k l p law ts us at = then_held at (at_after at p p law) (λ x y here. stay here) (λ x held. holds _ refl held)

  no_link : (l : Level) → begins_link l [] ≡ false
  unfolding begins_link next_is
  no_link level.Or = refl
  no_link level.Iff = refl
  no_link level.And = refl
  no_link level.Sum = refl
  no_link level.Override = refl
  no_link level.Meet = refl
  no_link level.Restrict = refl

  link_short : (l : Level) (p : Parser Tree) → ((base : List ParserToken) → Keeps base p) → Shortens (begins_link l) (link_over l p)
  unfolding link_over
  link_short l p lands = short_behind (begins_link l) (link_over l p) (no_link l) (λ t ts is. inl (among_then (lands ts ts (all_last ts)) (λ x f. read _ refl f)))

  pub chained_law : (k : Around) (l : Level) (p : Parser Tree) → ((base : List ParserToken) → Keeps base p) → Law s k p p → Law s k (chained l p) (chained l p)
  unfolding chained
  chained_law k l p lands law ts us at =
      then_held at (law ts us at) (λ x y here. choose (begins_link l) (sees_link l) here
      (then_held here (many_quiet s k (begins_link l) (link_over l p) (sees_link l) (quiet_link l) (link_short l p lands) (link_law k l p law) x.1 y.1 here) (λ xs ys there. stay there) (λ xs held. holds _ refl held))
      (stay_all x y here))
      (λ x held. rw (quiet_held s k x.1 (begins_link l) (quiet_link l) held) (holds x refl held))

  -- where the first operand is read past the seam
  pub chained_past : (l : Level) (p : Parser Tree) (ts : List ParserToken) → Keeps s.later p → Past s (p ts) → Past s (chained l p ts)
  unfolding chained
  chained_past l p ts lands h =
      past_then h (λ x last. past_choice (begins_link l x.1) (past_then (landed (many_lands s.later (begins_link l) (link_over l p) (among.link_lands s.later l p lands) x.1 last)) (λ xs there. went _ refl there)) (went x refl last))

  prefix_law : (k : Around) (f g : Prefix) (p : Parser Tree) → Law s k p p → Law s k (behind_prefix f p) (behind_prefix g p)
  unfolding behind_prefix
  prefix_law k f g p law ts us at = then_held at (at_after at p p law) (λ x y here. stay here) (λ x held. holds _ refl held)

  -- ---- comparisons

  in_or_equal : (ws : List ParserToken) → (next_is class.In (ws ++ rest_of s) || next_is class.Equal (ws ++ rest_of s)) ≡ (next_is class.In (ws ++ tail_of s) || next_is class.Equal (ws ++ tail_of s))
  in_or_equal ws = rw (sees_near s (next_is class.In) (sees_class class.In) ws, sees_near s (next_is class.Equal) (sees_class class.Equal) ws) refl

  negated_near : (ws : List ParserToken) → Parted s around.Parens (negated_comparing (ws ++ rest_of s)) (negated_comparing (ws ++ tail_of s))
  unfolding negated_comparing
  negated_near [] = kept (leaves (past_choice (next_is class.In s.later || next_is class.Equal s.later) (went _ refl (after_last s.later s.later (all_last s.later))) (faulty (refused s.later) refl (all_last s.later))))
  negated_near (w ∷ ws) =
      same_choice (next_is class.In (ws ++ rest_of s) || next_is class.Equal (ws ++ rest_of s)) (next_is class.In (ws ++ tail_of s) || next_is class.Equal (ws ++ tail_of s)) (in_or_equal ws)
      (of_near (stay_after {s = s} {k = around.Parens} {ts = ws ++ rest_of s} {us = ws ++ tail_of s} (near ws refl refl)))
      (ended _ refl)

  negated_past : (ts : List ParserToken) → AreLast s.later ts → Past s (negated_comparing ts)
  unfolding negated_comparing
  negated_past ts last =
      past_choice (next_is class.In (after ts) || next_is class.Equal (after ts)) (went _ refl (after_last s.later (after ts) (after_last s.later ts last))) (faulty (refused (after ts)) refl (after_last s.later ts last))

  negated_law : Law s around.Parens negated_comparing negated_comparing
  negated_law ts us (near ws e f) = out (rw (e, f) (negated_near ws))
  negated_law ts us (past last) = out (negated_past ts last)

  comparing_law : Law s around.Parens comparing_at comparing_at
  unfolding comparing_at
  comparing_law ts us at = choose (next_is class.Not) (sees_class class.Not) at (negated_law ts us at) (stay_after at)

-- ---- the rules, over a reader of what stands under one construct more

-- a name before a comma is read as it, or lies too deep
pub data NameRead (s : Seam) (r : Result (Tree × List ParserToken) ParseStopView) (ts : List ParserToken) : Type 0 where
  named_so : (x : Tree) → r ≡ Ok (x, ts) → NameRead s r ts
  deeper : (d : ParseStopView) → r ≡ Err d → IsElse s d → NameRead s r ts

pub record Steady (s : Seam) (i : Reader) : Type 0 where
  pub parts : (a : Around) (part : Inside) → Law s a (i a part) (i a part)
  pub quantified : (a : Around) (q r : Quantifier) (p o : Place) → Law s a (i a (inside.Quantified q p)) (i a (inside.Quantified r o))
  pub bound_by_let : (a : Around) (p o : Place) → Law s a (i a (inside.Let p)) (i a (inside.Let o))
  pub lands : (base : List ParserToken) → among.Below base i
  pub short : (ts : List ParserToken) (x : Tree) (rest : List ParserToken) → i around.Braces inside.Node ts ≡ Ok (x, rest) → length rest < length ts
  -- a `!` at the seam is taken by the next node in braces
  pub not_taken : s.token.class ≡ class.Not → Past s (i around.Braces inside.Node (rest_of s))
  -- a name at the seam is taken
  pub node_taken : s.token.class ≡ class.Name → Past s (i around.Brackets inside.Node (rest_of s))
  pub sum_taken : (a : Around) → s.token.class ≡ class.Name → Past s (i a inside.Sum (rest_of s))
  pub quantified_taken : (a : Around) (q : Quantifier) (p : Place) → s.token.class ≡ class.Name → Past s (i a (inside.Quantified q p) (rest_of s))
  -- names with commas are read up to the seam and past it
  pub node_named : (n c : ParserToken) (ts : List ParserToken) → n.class ≡ class.Name → c.class ≡ class.Comma → NameRead s (i around.Brackets inside.Node (n ∷ c ∷ ts)) (c ∷ ts)
  pub sum_named : (n c : ParserToken) (ts : List ParserToken) → n.class ≡ class.Name → c.class ≡ class.Comma → NameRead s (i around.Brackets inside.Sum (n ∷ c ∷ ts)) (c ∷ ts)
  pub names_taken : (q : Quantifier) (p : Place) (n : ParserToken) (ts : List ParserToken) → n.class ≡ class.Name → Runs s ts → Past s (i around.Brackets (inside.Quantified q p) (n ∷ ts))

-- ---- tests that look at two tokens

-- whether a quantifier's declarations begin is seen alike; or a name stands at the seam; or names with commas run to it
data Declared (s : Seam) (a : Around) (ws : List ParserToken) : Type 0 where
  alike : begins_declaration a (ws ++ rest_of s) ≡ begins_declaration a (ws ++ tail_of s) → Declared s a ws
  name_here : ws ≡ [] → s.token.class ≡ class.Name → Declared s a ws
  runs : a ≡ around.Brackets → (n : ParserToken) (vs : List ParserToken) → ws ++ rest_of s ≡ n ∷ vs → n.class ≡ class.Name → Runs s vs → Declared s a ws

data Colons (s : Seam) (ws : List ParserToken) : Type 0 where
  names_alike : colon_after_names (ws ++ rest_of s) ≡ colon_after_names (ws ++ tail_of s) → Colons s ws
  names_name : ws ≡ [] → s.token.class ≡ class.Name → Colons s ws
  names_run : (n : ParserToken) (vs : List ParserToken) → ws ++ rest_of s ≡ n ∷ vs → n.class ≡ class.Name → Runs s vs → Colons s ws

not_names : (t : ParserToken) (ts : List ParserToken) → is_class t.class class.Name ≡ false → colon_after_names (t ∷ ts) ≡ false
unfolding colon_after_names
not_names t [] e = refl
not_names t (m ∷ ts) e = rw e refl

pub token_class : (t : ParserToken) (ts : List ParserToken) (c : Class) → next_is c (t ∷ ts) ≡ true → t.class ≡ c
unfolding next_is
token_class t ts c e = class_is t.class c e

module _ (s : Seam) where
  colon_same : is_class s.token.class class.Colon ≡ is_class s.other.class class.Colon
  colon_same = ap (λ (k : Class). is_class k class.Colon) s.alike

  colons : (ws : List ParserToken) → Colons s ws
  unfolding colon_after_names
  colons [] =
      elim (either (is_class s.token.class class.Name)) [
        | inl is ↦ names_name refl (class_is s.token.class class.Name is)
        | inr fails ↦ names_alike (not_names s.token s.later fails ∙ sym (not_names s.other s.tail (other_is s class.Name false fails)))
      ]
  colons (w ∷ []) =
      elim (either (is_class w.class class.Name)) [
        | inr fails ↦ names_alike (rw fails refl)
        | inl named ↦ elim (either (is_class s.token.class class.Comma)) [
          | inl comma ↦ names_run w (rest_of s) refl (class_is w.class class.Name named) (comma_here (rest_of s) (class_is s.token.class class.Comma comma) refl)
          | inr fails ↦ names_alike (rw (fails, other_is s class.Comma false fails, colon_same) refl)
        ]
      ]
  colons (w ∷ v ∷ ws) =
      elim (colons ws) [
        | names_alike e ↦ names_alike (rw e refl)
        | names_name none is ↦ elim (either (is_class w.class class.Name)) [
          | inr fails ↦ names_alike (rw fails refl)
          | inl named ↦ elim (either (is_class v.class class.Comma)) [
            | inl comma ↦ names_run w (v ∷ rest_of s) (ap (λ (vs : List ParserToken). w ∷ v ∷ vs ++ rest_of s) none) (class_is w.class class.Name named) (name_next v (v ∷ rest_of s) (class_is v.class class.Comma comma) is refl)
            | inr fails ↦ names_alike (rw fails refl)
          ]
        ]
        | names_run n vs equal is more ↦ elim (either (is_class w.class class.Name)) [
          | inr fails ↦ names_alike (rw fails refl)
          | inl named ↦ elim (either (is_class v.class class.Comma)) [
            | inl comma ↦ names_run w (v ∷ n ∷ vs) (ap (λ (us : List ParserToken). w ∷ v ∷ us) equal) (class_is w.class class.Name named) (name_then v n vs (v ∷ n ∷ vs) (class_is v.class class.Comma comma) is more refl)
            | inr fails ↦ names_alike (rw fails refl)
          ]
        ]
      ]

  two_tokens : (ws : List ParserToken) → (next_is class.Comma (ws ++ rest_of s) || next_is class.Colon (ws ++ rest_of s)) ≡ (next_is class.Comma (ws ++ tail_of s) || next_is class.Colon (ws ++ tail_of s))
  two_tokens ws = rw (sees_near s (next_is class.Comma) (sees_class class.Comma) ws, sees_near s (next_is class.Colon) (sees_class class.Colon) ws) refl

  disj_same : (ws : List ParserToken) → next_is class.Disj (ws ++ rest_of s) ≡ next_is class.Disj (ws ++ tail_of s)
  disj_same = sees_near s (next_is class.Disj) (sees_class class.Disj)

  short_declared : (a : Around) → in_brackets_too a ≡ false → (ws : List ParserToken) → Declared s a ws
  unfolding begins_declaration next_is
  short_declared a round [] =
      elim (either (is_class s.token.class class.Name)) [
        | inl is ↦ name_here refl (class_is s.token.class class.Name is)
        | inr fails ↦ alike (rw (round, fails, other_is s class.Name false fails) (ap (λ (b : Bool). b || false) (disj_same [])))
      ]
  short_declared a round (w ∷ ws) = alike (rw (round, two_tokens ws) refl)

  declared : (a : Around) (ws : List ParserToken) → Declared s a ws
  unfolding begins_declaration in_brackets_too next_is
  declared around.Brackets ws =
      elim (colons ws) [
        | names_alike e ↦ alike (ap (λ (b : Bool). b || colon_after_names (ws ++ rest_of s)) (disj_same ws) ∙ ap (λ (b : Bool). next_is class.Disj (ws ++ tail_of s) || b) e)
        | names_name none is ↦ name_here none is
        | names_run n vs equal is more ↦ runs refl n vs equal is more
      ]
  declared around.Braces ws = short_declared around.Braces refl ws
  declared around.Parens ws = short_declared around.Parens refl ws

-- no comparison goes on at a comma
pub comma_compares_not : (t : ParserToken) (ts : List ParserToken) → t.class ≡ class.Comma → begins_comparison around.Brackets (t ∷ ts) ≡ false
unfolding begins_comparison is_plain_comparison next_is is_class
comma_compares_not t ts e = rw e refl

-- ---- the rules

module _ (s : Seam) (i : Reader) (st : Steady s i) where
  -- ---- blocks and brackets

  not_inner : s.token.class ≡ class.Not → is_inner (rest_of s) ≡ true
  unfolding is_inner next_is is_class
  not_inner e = rw e refl

  inner_hold : (n : ℕ) (ts : List ParserToken) → length ts < n → Held s around.Braces ts → Kept s around.Parens (repeated is_inner (i around.Braces inside.Node) n ts)
  inner_hold zero ts enough held = absurd (omega (arith, enough))
  inner_hold (suc n) ts enough held =
      subst (λ (us : List ParserToken). Kept s around.Parens (repeated is_inner (i around.Braces inside.Node) (suc n) us)) (sym held.0)
      (leaves (more_past s is_inner (i around.Braces inside.Node) (λ us last. landed (st.lands s.later around.Braces inside.Node us last)) n (rest_of s) (not_inner held.1) (st.not_taken held.1)))

  inner_law : Law s around.Parens (many is_inner (i around.Braces inside.Node)) (many is_inner (i around.Braces inside.Node))
  inner_law =
      many_out s around.Braces around.Parens is_inner (i around.Braces inside.Node) (i around.Braces inside.Node) (st.parts around.Braces inside.Node) (λ ts x rest is e. st.short ts x rest e) inner_hold
      (λ ws. same (sees_near s is_inner sees_inner ws))

  pub block_law : (k : Around) → Law s k (block_over i) (block_over i)
  unfolding block_over
  block_law k ts us at = guarded at (is_comprehension ts) (is_comprehension us) (unsupported form.Comprehension ts) (unsupported form.Comprehension us) tt
      (then_out at (expect_law s around.Parens class.LeftBrace ts us at) (λ o p here. then_out here (inner_law o.1 p.1 here) (λ xs ys there. then_out there (expect_law s around.Parens class.RightBrace xs.1 ys.1 there) (λ c d end. stay end))))

  pub block_tree_law : (k : Around) → Law s k (block_tree i) (block_tree i)
  unfolding block_tree
  block_tree_law k ts us at = then_out at (block_law around.Parens ts us at) (λ x y here. stay here)

  paren_law : (k : Around) → Law s k (paren_over i) (paren_over i)
  unfolding paren_over
  paren_law k ts us at =
      then_out at (expect_law s around.Parens class.LeftParen ts us at) (λ o p here. then_out here (st.parts around.Parens inside.Node o.1 p.1 here) (λ x y there. then_out there (expect_law s around.Parens class.RightParen x.1 y.1 there) (λ c d end. stay end)))

  primary_law : (k : Around) → Law s k (primary_over i) (primary_over i)
  unfolding primary_over
  primary_law k ts us at =
      choose (next_is class.Name) (sees_class class.Name) at (then_out at (name_law s around.Parens ts us at) (λ x y here. stay here))
      (choose (next_is class.Path) (sees_class class.Path) at (then_out at (spelled_law s around.Parens class.Path ts us at) (λ x y here. stay here))
      (choose (next_is class.Number) (sees_class class.Number) at (then_out at (number_law s around.Parens ts us at) (λ x y here. stay here))
      (choose is_constant sees_constant at (stay_after at)
      (choose (next_is class.LeftParen) (sees_class class.LeftParen) at (paren_law k ts us at) (block_tree_law k ts us at)))))

  -- ---- expressions

  pub tight_law : (a : Around) → Law s a (tight_over i a) (tight_over i a)
  unfolding tight_over
  tight_law a ts us at = choose is_tightening sees_tightening at (prefix_law s a (tightening_of ts) (tightening_of us) (i a inside.Tight) (st.parts a inside.Tight) ts us at) (primary_law a ts us at)

  -- an argument's names go on to the seam, and past it
  module _ {A : Type 0} (p : Parser A) (onward : Onward s p) (taken : s.token.class ≡ class.Name → Past s (p (rest_of s)))
      (named : (n c : ParserToken) (ts : List ParserToken) → n.class ≡ class.Name → c.class ≡ class.Comma → ((x : A) × (p (n ∷ c ∷ ts) ≡ Ok (x, c ∷ ts))) ⊎ ((d : ParseStopView) × (p (n ∷ c ∷ ts) ≡ Err d) × IsElse s d)) where
    name_more : (n : ℕ) (c m : ParserToken) (us : List ParserToken) → c.class ≡ class.Comma → m.class ≡ class.Name → Runs s us → length us < n → Past s (repeated (next_is class.Comma) (behind p) n us) → Past s (repeated (next_is class.Comma) (behind p) (suc n) (c ∷ m ∷ us))
    unfolding repeated
    name_more n c m us e g more enough h =
        let f = runs_first s us more in
        let is : next_is class.Comma (c ∷ m ∷ us) ≡ true = class_next c (m ∷ us) class.Comma e in
        let k = subst (λ (vs : List ParserToken). ((x : A) × (p (m ∷ vs) ≡ Ok (x, vs))) ⊎ ((d : ParseStopView) × (p (m ∷ vs) ≡ Err d) × IsElse s d)) (sym f.2) (named m f.0 f.1 g f.3) in
        rw is (elim k [
          | inl x ↦ rw x.1 (past_then h (λ xs last. went _ refl last))
          | inr d ↦ faulty d.0 (rw d.1 refl) d.2
        ])

    pub runs_taken : (n : ℕ) (ts : List ParserToken) → length ts < n → Runs s ts → Past s (repeated (next_is class.Comma) (behind p) n ts)
    runs_taken zero ts enough r = absurd (omega (arith, enough))
    runs_taken (suc n) _ enough (comma_here ts e f) =
        subst (λ (us : List ParserToken). Past s (repeated (next_is class.Comma) (behind p) (suc n) us)) (sym f)
        (more_past s (next_is class.Comma) (behind p) (λ us last. onward (after us) (after_last s.later us last)) n (rest_of s) (class_next s.token s.later class.Comma e) (onward s.later (all_last s.later)))
    runs_taken (suc n) _ enough (name_next c ts e g f) =
        subst (λ (us : List ParserToken). Past s (repeated (next_is class.Comma) (behind p) (suc n) us)) (sym f)
        (more_past s (next_is class.Comma) (behind p) (λ us last. onward (after us) (after_last s.later us last)) n (c ∷ rest_of s) (class_next c (rest_of s) class.Comma e) (taken g))
    runs_taken (suc n) _ enough (name_then c m us ts e g more f) =
        subst (λ (vs : List ParserToken). Past s (repeated (next_is class.Comma) (behind p) (suc n) vs)) (sym f)
        (name_more n c m us e g more (omega (arith, ap length f, enough)) (runs_taken n us (omega (arith, ap length f, enough)) more))

  node_named : (n c : ParserToken) (ts : List ParserToken) → n.class ≡ class.Name → c.class ≡ class.Comma → ((x : Tree) × (i around.Brackets inside.Node (n ∷ c ∷ ts) ≡ Ok (x, c ∷ ts))) ⊎ ((d : ParseStopView) × (i around.Brackets inside.Node (n ∷ c ∷ ts) ≡ Err d) × IsElse s d)
  node_named n c ts e f = elim (st.node_named n c ts e f) [ named_so x r ↦ inl (x, r) | deeper d r apart ↦ inr (d, r, apart) ]

  arguments_hold : (n : ℕ) (ts : List ParserToken) → length ts < n → Held s around.Brackets ts → Kept s around.Parens (repeated (next_is class.Comma) (behind (i around.Brackets inside.Node)) n ts)
  arguments_hold n ts enough held =
      leaves (runs_taken (i around.Brackets inside.Node) (λ us last. landed (st.lands s.later around.Brackets inside.Node us last)) st.node_taken node_named n ts enough held)

  more_arguments : Law s around.Parens (many (next_is class.Comma) (behind (i around.Brackets inside.Node))) (many (next_is class.Comma) (behind (i around.Brackets inside.Node)))
  more_arguments =
      many_out s around.Brackets around.Parens (next_is class.Comma) (behind (i around.Brackets inside.Node)) (behind (i around.Brackets inside.Node)) (λ vs ws here. at_after here (i around.Brackets inside.Node) (i around.Brackets inside.Node) (st.parts around.Brackets inside.Node))
      (comma_short (i around.Brackets inside.Node) (λ base. st.lands base around.Brackets inside.Node)) arguments_hold (λ ws. same (sees_near s (next_is class.Comma) (sees_class class.Comma) ws))

  arguments_law : Law s around.Parens (arguments_over i) (arguments_over i)
  unfolding arguments_over listed others
  arguments_law ts us at =
      choose (next_is class.RightBracket) (sees_class class.RightBracket) at (stay at)
      (then_held at (st.parts around.Brackets inside.Node ts us at) (λ x y here. then_out here (more_arguments x.1 y.1 here) (λ xs ys there. stay there))
      (λ x held. kept_then (arguments_hold (suc (length x.1)) x.1 (omega arith) held) (λ xs last. went _ refl last) (λ xs none. absurd none)))

  brackets_law : (k : Around) → Law s k (brackets_over i) (brackets_over i)
  unfolding brackets_over
  brackets_law k ts us at =
      then_out at (expect_law s around.Parens class.LeftBracket ts us at) (λ o p here. then_out here (arguments_law o.1 p.1 here) (λ xs ys there. then_out there (expect_law s around.Parens class.RightBracket xs.1 ys.1 there) (λ c d end. stay end)))

  step_law : (a : Around) → Law s a (step_over i a) (step_over i a)
  unfolding step_over
  step_law a ts us at =
      choose (next_is class.Dot) (sees_class class.Dot) at (then_held at (at_after at (tight_over i a) (tight_over i a) (tight_law a)) (λ x y here. stay here) (λ x held. holds _ refl held)) (brackets_law a ts us at)

  no_step : begins_step [] ≡ false
  unfolding begins_step next_is
  no_step = refl

  step_from : (a : Around) (t : ParserToken) (ts : List ParserToken) → begins_step (t ∷ ts) ≡ true → Lands ts (step_over i a (t ∷ ts))
  unfolding step_over brackets_over expect begins_step next_is
  step_from a t ts is =
      elim (either (is_class t.class class.Dot)) [
        | inl dot ↦ rw dot (among_then (among.tight_lands ts i (st.lands ts) a ts (all_last ts)) (λ x f. read _ refl f))
        | inr none ↦ (
            let bracket : is_class t.class class.LeftBracket ≡ true = rw none at is in
            rw (none, bracket) (among_then (among.arguments_land ts i (st.lands ts) ts (all_last ts)) (λ xs f. among_then (expect_lands ts class.RightBracket xs.1 f) (λ c g. read _ refl g))))
      ]

  step_short : (a : Around) → Shortens begins_step (step_over i a)
  step_short a = short_behind begins_step (step_over i a) no_step (λ t ts is. inl (step_from a t ts is))

  path_law : (a : Around) → Law s a (path_over i a) (path_over i a)
  unfolding path_over
  path_law a ts us at =
      then_held at (tight_law a ts us at) (λ x y here. choose begins_step sees_step here
      (then_held here (many_quiet s a begins_step (step_over i a) sees_step quiet_step (step_short a) (step_law a) x.1 y.1 here) (λ xs ys there. stay there) (λ xs held. holds _ refl held))
      (stay_all x y here))
      (λ x held. rw (quiet_held s a x.1 begins_step quiet_step held) (holds x refl held))

  restrict_law : (a : Around) → Law s a (restrict_over i a) (restrict_over i a)
  unfolding restrict_over
  restrict_law a = chained_law s a level.Restrict (path_over i a) (λ base. among.path_lands base i (st.lands base) a) (path_law a)

  arrow_law : (a : Around) → Law s a (arrow_over i a) (arrow_over i a)
  unfolding arrow_over
  arrow_law a ts us at =
      guarded at (is_mark ts) (is_mark us) (unsupported form.ArrowMultiplicity ts) (unsupported form.ArrowMultiplicity us) tt
      (guarded at (is_mark (after ts)) (is_mark (after us)) (unsupported form.ArrowMultiplicity (after ts)) (unsupported form.ArrowMultiplicity (after us)) tt
      (then_held at (at_after at (restrict_over i a) (restrict_over i a) (restrict_law a)) (λ x y here. stay here) (λ x held. holds _ refl held)))

  no_arrow : begins_arrow [] ≡ false
  unfolding begins_arrow is_mark next_is
  no_arrow = refl

  arrow_from : (a : Around) (t : ParserToken) (ts : List ParserToken) → Lands ts (arrow_over i a (t ∷ ts)) ⊎ ((d : ParseStopView) × (arrow_over i a (t ∷ ts) ≡ Err d))
  unfolding arrow_over
  arrow_from a t ts =
      elim (either (is_mark (t ∷ ts))) [
        | inl is ↦ inr (unsupported form.ArrowMultiplicity (t ∷ ts), rw is refl)
        | inr none ↦ elim (either (is_mark ts)) [
          | inl is ↦ inr (unsupported form.ArrowMultiplicity ts, rw (none, is) refl)
          | inr neither ↦ inl (rw (none, neither) (among_then (among.restrict_lands ts i (st.lands ts) a ts (all_last ts)) (λ x f. read _ refl f)))
        ]
      ]

  arrow_short : (a : Around) → Shortens begins_arrow (arrow_over i a)
  arrow_short a = short_behind begins_arrow (arrow_over i a) no_arrow (λ t ts is. arrow_from a t ts)

  -- ---- arrows

  marked_stops : (a : Around) (ts : List ParserToken) → is_mark ts ≡ true → arrow_over i a ts ≡ Err (unsupported form.ArrowMultiplicity ts)
  unfolding arrow_over
  marked_stops a ts m = rw m refl

  abbrev arrows_rest : Around → Tree × List ParserToken → Result (Tree × List ParserToken) ParseStopView
  arrows_rest a x = if begins_arrow x.1 then many begins_arrow (arrow_over i a) x.1 >>= (λ xs. Ok (chain x.0 (links_of xs.0), xs.1)) else Ok x

  marked_rest : (a : Around) (x : Tree × List ParserToken) → begins_arrow x.1 ≡ true → is_mark x.1 ≡ true → arrows_rest a x ≡ Err (unsupported form.ArrowMultiplicity x.1)
  unfolding repeated
  marked_rest a x b m = rw (b, marked_stops a x.1 m) refl

  arrow_tests : (ws : List ParserToken) → (begins_arrow (ws ++ rest_of s) ≡ begins_arrow (ws ++ tail_of s)) ⊎ ((ws ≡ []) × (is_mark (rest_of s) ≡ true))
  unfolding begins_arrow
  arrow_tests [] =
      elim (either (is_mark (rest_of s))) [
        | inl m ↦ inr (refl, m)
        | inr none ↦ inl (rw (none, sym (sees_near s is_mark sees_mark []) ∙ none) (ap (λ (b : Bool). b || false) (sees_near s (next_is class.Arrow) (sees_class class.Arrow) [])))
      ]
  arrow_tests (w ∷ ws) =
      inl (rw (sees_near s (next_is class.Arrow) (sees_class class.Arrow) (w ∷ ws), sees_near s is_mark sees_mark (w ∷ ws), sees_near s (next_is class.Arrow) (sees_class class.Arrow) ws) refl)

  arrows_tested : (a : Around) (ws : List ParserToken) → Tested s begins_arrow (arrow_over i a) (arrow_over i a) ws
  arrows_tested a ws =
      elim (arrow_tests ws) [
        | inl e ↦ same e
        | inr m ↦ (
            let here : is_mark (ws ++ rest_of s) ≡ true = ap (λ (us : List ParserToken). is_mark (us ++ rest_of s)) m.0 ∙ m.1 in
            let there : is_mark (ws ++ tail_of s) ≡ true = sym (sees_near s is_mark sees_mark ws) ∙ here in
            elim (either (begins_arrow (ws ++ rest_of s))) [
              | inl b ↦ first b (faulty _ (marked_stops a (ws ++ rest_of s) here) tt)
              | inr none ↦ elim (either (begins_arrow (ws ++ tail_of s))) [
                | inl b ↦ second _ b (marked_stops a (ws ++ tail_of s) there)
                | inr neither ↦ same (none ∙ sym neither)
              ]
            ])
      ]

  more_arrows : (a : Around) → Law s a (many begins_arrow (arrow_over i a)) (many begins_arrow (arrow_over i a))
  more_arrows a = many_out s a a begins_arrow (arrow_over i a) (arrow_over i a) (arrow_law a) (arrow_short a) (hold_quiet s a begins_arrow (arrow_over i a) quiet_arrow) (arrows_tested a)

  pub arrows_more : (a : Around) (x y : Tree × List ParserToken) (here : At s x.1 y.1) → Out s a here (arrows_rest a x) (arrows_rest a y)
  arrows_more a x y (past last) =
      out (past_choice (begins_arrow x.1) (past_then (of_past (more_arrows a x.1 x.1 (past last))) (λ xs end. went _ refl end)) (went x refl last))
  arrows_more a x y (near ws e f) =
      out (elim (arrow_tests ws) [
        | inl alike_test ↦ same_choice (begins_arrow x.1) (begins_arrow y.1) (ap begins_arrow e ∙ (alike_test ∙ sym (ap begins_arrow f)))
            (of_near (then_held {k = a} {l = a} (near ws e f) (more_arrows a x.1 y.1 (near ws e f)) (λ xs ys there. stay there) (λ xs held. holds _ refl held)))
            (both x y refl refl ws e f)
        | inr m ↦ (
            let here : is_mark x.1 ≡ true = ap is_mark e ∙ (ap (λ (us : List ParserToken). is_mark (us ++ rest_of s)) m.0 ∙ m.1) in
            let there : is_mark y.1 ≡ true = ap is_mark f ∙ (sym (sees_near s is_mark sees_mark ws) ∙ (sym (ap is_mark e) ∙ here)) in
            elim (either (begins_arrow x.1)) [
              | inl b ↦ kept (leaves (faulty _ (marked_rest a x b here) tt))
              | inr none ↦ elim (either (begins_arrow y.1)) [
                | inl b ↦ ended _ (marked_rest a y b there)
                | inr neither ↦ rw (none, neither) (both x y refl refl ws e f)
              ]
            ])
      ])

  arrows_law : (a : Around) → Law s a (arrows_over i a) (arrows_over i a)
  unfolding arrows_over
  arrows_law a ts us at = then_held at (restrict_law a ts us at) (arrows_more a) (λ x held. rw (quiet_held s a x.1 begins_arrow quiet_arrow held) (holds x refl held))

  meet_law : (a : Around) → Law s a (meet_over i a) (meet_over i a)
  unfolding meet_over
  meet_law a = chained_law s a level.Meet (arrows_over i a) (λ base. among.arrows_land base i (st.lands base) a) (arrows_law a)

  override_law : (a : Around) → Law s a (override_over i a) (override_over i a)
  unfolding override_over
  override_law a = chained_law s a level.Override (meet_over i a) (λ base. among.meet_lands base i (st.lands base) a) (meet_law a)

  pub size_law : (a : Around) → Law s a (size_over i a) (size_over i a)
  unfolding size_over
  size_law a ts us at = choose (next_is class.Hash) (sees_class class.Hash) at (prefix_law s a prefix.Size prefix.Size (i a inside.Size) (st.parts a inside.Size) ts us at) (override_law a ts us at)

  pub sum_law : (a : Around) → Law s a (sum_over i a) (sum_over i a)
  unfolding sum_over
  sum_law a = chained_law s a level.Sum (size_over i a) (λ base. among.size_lands base i (st.lands base) a) (size_law a)

  pub braced_law : (k : Around) → Law s k (braced_over i) (braced_over i)
  unfolding braced_over
  braced_law k ts us at =
      then_out at (expect_law s around.Parens class.LeftBrace ts us at) (λ o p here. then_out here (st.parts around.Parens inside.Sum o.1 p.1 here) (λ x y there. then_out there (expect_law s around.Parens class.RightBrace x.1 y.1 there) (λ c d end. stay end)))

  -- ---- comparisons

  counted_law : (a : Around) → Law s a (counted_over i a) (counted_over i a)
  unfolding counted_over
  counted_law a ts us at = choose is_counting sees_counting at (prefix_law s a (counting_of ts) (counting_of us) (i a inside.Sum) (st.parts a inside.Sum) ts us at) (sum_law a ts us at)

  abbrev compared_rest : Around → Tree × List ParserToken → Result (Tree × List ParserToken) ParseStopView
  compared_rest a x = if begins_comparison a x.1 then comparing_at x.1 >>= (λ c. counted_over i a c.1 >>= λ y. Ok (compared x.0 c.0 y.0, y.1)) else Ok x

  compared_past : (a : Around) (x : Tree × List ParserToken) → AreLast s.later x.1 → Past s (compared_rest a x)
  compared_past a x last =
      past_choice (begins_comparison a x.1) (past_then (landed (among.comparing_lands s.later x.1 last)) (λ c here. past_then (landed (among.counted_lands s.later i (st.lands s.later) a c.1 here)) (λ y end. went _ refl end))) (went x refl last)

  plain_not : s.token.class ≡ class.Not → is_plain_comparison (rest_of s) ≡ false
  unfolding is_plain_comparison next_is is_class
  plain_not e = rw e refl

  -- whether a comparison goes on at a `!`
  not_begins : (a : Around) → s.token.class ≡ class.Not → (b : Bool) → (next_is class.In s.later || next_is class.Equal s.later) ≡ b → begins_comparison a (rest_of s) ≡ (b || not (in_braces a))
  unfolding begins_comparison
  not_begins a e b is = rw (plain_not e, class_next s.token s.later class.Not e, is) refl

  not_compared : s.token.class ≡ class.Not → Past s (comparing_at (rest_of s))
  unfolding comparing_at negated_comparing
  not_compared e =
      rw (class_next s.token s.later class.Not e) (past_choice (next_is class.In s.later || next_is class.Equal s.later) (went _ refl (after_last s.later s.later (all_last s.later))) (faulty (refused s.later) refl (all_last s.later)))

  not_goes_on : (a : Around) (x : Tree) → s.token.class ≡ class.Not → begins_comparison a (rest_of s) ≡ true → Past s (compared_rest a (x, rest_of s))
  not_goes_on a x e is = rw is (past_then (not_compared e) (λ c here. past_then (landed (among.counted_lands s.later i (st.lands s.later) a c.1 here)) (λ y end. went _ refl end)))

  compared_bare : (a : Around) (x : Tree) (e : s.token.class ≡ class.Not) → (next_is class.In s.later || next_is class.Equal s.later) ≡ false → Kept s a (compared_rest a (x, rest_of s))
  unfolding in_braces
  compared_bare around.Braces x e none = rw (not_begins around.Braces e false none) (holds (x, rest_of s) refl (refl, e))
  compared_bare around.Brackets x e none = leaves (not_goes_on around.Brackets x e (not_begins around.Brackets e false none))
  compared_bare around.Parens x e none = leaves (not_goes_on around.Parens x e (not_begins around.Parens e false none))

  -- a `!` at the seam: the comparison goes on past it, or it waits for the next node
  compared_not : (a : Around) (x : Tree) → s.token.class ≡ class.Not → Kept s a (compared_rest a (x, rest_of s))
  compared_not a x e =
      elim (either (next_is class.In s.later || next_is class.Equal s.later)) [
        | inl is ↦ leaves (not_goes_on a x e (not_begins a e true is))
        | inr none ↦ compared_bare a x e none
      ]

  no_comparison : (ts : List ParserToken) → Held s around.Brackets ts → begins_comparison around.Brackets ts ≡ false
  no_comparison ts held = let f = runs_first s ts held in ap (begins_comparison around.Brackets) f.2 ∙ comma_compares_not f.0 f.1 f.3

  compared_held : (a : Around) (x : Tree × List ParserToken) → Held s a x.1 → Kept s a (compared_rest a x)
  compared_held around.Braces x held = subst (λ (us : List ParserToken). Kept s around.Braces (compared_rest around.Braces (x.0, us))) (sym held.0) (compared_not around.Braces x.0 held.1)
  compared_held around.Brackets x held = rw (no_comparison x.1 held) (holds x refl held)
  compared_held around.Parens x held = absurd held

  compared_test : (a : Around) (ws : List ParserToken) → (begins_comparison a (ws ++ rest_of s) ≡ begins_comparison a (ws ++ tail_of s)) ⊎ ((ws ≡ []) × (s.token.class ≡ class.Not))
  unfolding begins_comparison
  compared_test a [] =
      elim (either (next_is class.Not (rest_of s))) [
        | inl is ↦ inr (refl, token_class s.token s.later class.Not is)
        | inr none ↦ inl (rw (none, sym (sees_near s (next_is class.Not) (sees_class class.Not) []) ∙ none) (ap (λ (b : Bool). b || false) (sees_near s is_plain_comparison sees_plain [])))
      ]
  compared_test a (w ∷ ws) =
      inl (rw (sees_near s is_plain_comparison sees_plain (w ∷ ws), sees_near s (next_is class.Not) (sees_class class.Not) (w ∷ ws), sees_near s (next_is class.In) (sees_class class.In) ws, sees_near s (next_is class.Equal) (sees_class class.Equal) ws) refl)

  compared_more : (a : Around) (x y : Tree × List ParserToken) (here : At s x.1 y.1) → Out s a here (compared_rest a x) (compared_rest a y)
  compared_more a x y (past last) = out (compared_past a x last)
  compared_more a x y (near ws e f) =
      out (elim (compared_test a ws) [
        | inl alike_test ↦ same_choice (begins_comparison a x.1) (begins_comparison a y.1) (ap (begins_comparison a) e ∙ (alike_test ∙ sym (ap (begins_comparison a) f)))
            (of_near (then_out {l = a} (near ws e f) (comparing_law s x.1 y.1 (near ws e f)) (λ c d there. then_held there (counted_law a c.1 d.1 there) (λ z o end. stay end) (λ z held. holds _ refl held))))
            (both x y refl refl ws e f)
        | inr m ↦ (
            let here : x.1 ≡ rest_of s = e ∙ ap (λ (us : List ParserToken). us ++ rest_of s) m.0 in
            kept (subst (λ (us : List ParserToken). Kept s a (compared_rest a (x.0, us))) (sym here) (compared_not a x.0 m.1)))
      ])

  comparison_law : (a : Around) → Law s a (comparison_over i a) (comparison_over i a)
  unfolding comparison_over
  comparison_law a ts us at = then_held at (counted_law a ts us at) (compared_more a) (compared_held a)

  pub comparison_past : (a : Around) (ts : List ParserToken) → Past s (counted_over i a ts) → Past s (comparison_over i a ts)
  unfolding comparison_over
  comparison_past a ts h = past_then h (compared_past a)

  -- ---- negations and quantifiers

  -- a counting word, and what is read behind it
  counted_word : (a : Around) (ts : List ParserToken) → is_counting ts ≡ true → Past s (i a inside.Sum (after ts)) → Past s (comparison_over i a ts)
  unfolding counted_over behind_prefix
  counted_word a ts is h = comparison_past a ts (rw is (past_then h (λ x last. went _ refl last)))

  abbrev word_rest : Around → List ParserToken → Result (Tree × List ParserToken) ParseStopView
  word_rest a ts = if is_counting ts && begins_declaration a (after ts) then i a (inside.Quantified (quantifier_of ts) (place_at ts)) (after ts) else comparison_over i a ts

  word_past : (a : Around) (ts : List ParserToken) → is_counting ts ≡ true → Past s (i a (inside.Quantified (quantifier_of ts) (place_at ts)) (after ts)) → Past s (i a inside.Sum (after ts)) → Past s (word_rest a ts)
  word_past a ts is q h = past_choice (is_counting ts && begins_declaration a (after ts)) q (counted_word a ts is h)

  -- names with commas run to the seam: they are variables, or the first is an argument, and the comma behind it waits
  word_runs : (w n : ParserToken) (vs : List ParserToken) → is_counting (w ∷ n ∷ vs) ≡ true → n.class ≡ class.Name → Runs s vs → Kept s around.Brackets (word_rest around.Brackets (w ∷ n ∷ vs))
  unfolding comparison_over counted_over behind_prefix
  word_runs w n vs is named more =
      elim (either (begins_declaration around.Brackets (n ∷ vs))) [
        | inl d ↦ rw (is, d) (leaves (st.names_taken _ _ n vs named more))
        | inr none ↦ (
            let f = runs_first s vs more in
            let h = subst (λ (us : List ParserToken). NameRead s (i around.Brackets inside.Sum (n ∷ us)) us) (sym f.2) (st.sum_named n f.0 f.1 named f.3) in
            rw (is, none) (elim h [
              | named_so x e ↦ rw e (compared_held around.Brackets _ more)
              | deeper d e apart ↦ leaves (faulty d (rw e refl) apart)
            ]))
      ]

  word_kept : (a : Around) → a ≡ around.Brackets → (w : ParserToken) (ts : List ParserToken) (n : ParserToken) (vs : List ParserToken) → ts ≡ n ∷ vs → is_counting (w ∷ ts) ≡ true → n.class ≡ class.Name → Runs s vs → Kept s a (word_rest a (w ∷ ts))
  word_kept a bracket w ts n vs e is named more =
      let here : is_counting (w ∷ n ∷ vs) ≡ true = sees_counting w w (n ∷ vs) ts refl ∙ is in
      subst (λ (b : Around). Kept s b (word_rest b (w ∷ ts))) (sym bracket) (subst (λ (us : List ParserToken). Kept s around.Brackets (word_rest around.Brackets (w ∷ us))) (sym e) (word_runs w n vs here named more))

  word_near : (a : Around) (ws : List ParserToken) → Parted s a (word_rest a (ws ++ rest_of s)) (word_rest a (ws ++ tail_of s))
  word_near a [] =
      elim (either (is_counting (rest_of s))) [
        | inl is ↦ kept (leaves (word_past a (rest_of s) is (landed (st.lands s.later a _ s.later (all_last s.later))) (landed (st.lands s.later a inside.Sum s.later (all_last s.later)))))
        | inr none ↦ rw (none, sym (sees_near s is_counting sees_counting []) ∙ none) (of_near (comparison_law a (rest_of s) (tail_of s) (near [] refl refl)))
      ]
  word_near a (w ∷ ws) =
      elim (either (is_counting (w ∷ ws ++ rest_of s))) [
        | inr none ↦ rw (none, sym (sees_near s is_counting sees_counting (w ∷ ws)) ∙ none) (of_near (comparison_law a (w ∷ ws ++ rest_of s) (w ∷ ws ++ tail_of s) (near (w ∷ ws) refl refl)))
        | inl is ↦ elim (declared s a ws) [
          | alike e ↦ same_choice (is_counting (w ∷ ws ++ rest_of s) && begins_declaration a (ws ++ rest_of s)) (is_counting (w ∷ ws ++ tail_of s) && begins_declaration a (ws ++ tail_of s)) (rw (sees_near s is_counting sees_counting (w ∷ ws), e) refl)
              (of_near (st.quantified a _ _ _ _ (ws ++ rest_of s) (ws ++ tail_of s) (near ws refl refl)))
              (of_near (comparison_law a (w ∷ ws ++ rest_of s) (w ∷ ws ++ tail_of s) (near (w ∷ ws) refl refl)))
          | name_here none named ↦ (
              let here : ws ++ rest_of s ≡ rest_of s = ap (λ (us : List ParserToken). us ++ rest_of s) none in
              kept (leaves (word_past a (w ∷ ws ++ rest_of s) is
              (subst (λ (us : List ParserToken). Past s (i a (inside.Quantified (quantifier_of (w ∷ ws ++ rest_of s)) (place_at (w ∷ ws ++ rest_of s))) us)) (sym here) (st.quantified_taken a _ _ named))
              (subst (λ (us : List ParserToken). Past s (i a inside.Sum us)) (sym here) (st.sum_taken a named)))))
          | runs bracket n vs e named more ↦ kept (word_kept a bracket w (ws ++ rest_of s) n vs e is named more)
        ]
      ]

  word_law : (a : Around) → Law s a (word_rest a) (word_rest a)
  word_law a ts us (near ws e f) = out (rw (e, f) (word_near a ws))
  word_law a ts us (past last) =
      out (past_choice (is_counting ts && begins_declaration a (after ts)) (landed (st.lands s.later a _ (after ts) (after_last s.later ts last))) (landed (among.comparison_lands s.later i (st.lands s.later) a ts last)))

  pub negation_law : (a : Around) → Law s a (negation_over i a) (negation_over i a)
  unfolding negation_over
  negation_law a ts us at =
      choose (next_is class.Not) (sees_class class.Not) at (prefix_law s a prefix.Not prefix.Not (i a inside.Negation) (st.parts a inside.Negation) ts us at)
      (choose (next_is class.All) (sees_class class.All) at (at_after at _ _ (st.quantified a quantifier.All quantifier.All (place_at ts) (place_at us)))
      (choose (next_is class.Let) (sees_class class.Let) at (at_after at _ _ (st.bound_by_let a (place_at ts) (place_at us)))
      (word_law a ts us at)))

  and_law : (a : Around) → Law s a (and_over i a) (and_over i a)
  unfolding and_over
  and_law a = chained_law s a level.And (negation_over i a) (λ base. among.negation_lands base i (st.lands base) a) (negation_law a)

  implied_law : (a : Around) (l m : Tree) (p o : Place) → Law s a (implied_over i a l p) (implied_over i a m o)
  unfolding implied_over is_class
  implied_law a l m p o ts us at =
      then_held at (st.parts a inside.Implied ts us at) (λ x y here. choose (next_is class.Else) (sees_class class.Else) here
      (then_held here (at_after here _ _ (st.parts a inside.Implied)) (λ z q there. stay there) (λ z held. holds _ refl held))
      (stay here))
      (λ x held. rw (quiet_held s a x.1 (next_is class.Else) (quiet_class class.Else refl refl) held) (holds _ refl held))

  pub implication_law : (a : Around) → Law s a (implication_over i a) (implication_over i a)
  unfolding implication_over is_class
  implication_law a ts us at =
      then_held at (and_law a ts us at) (λ x y here. choose (next_is class.Implies) (sees_class class.Implies) here
      (at_after here _ _ (implied_law a x.0 y.0 (place_at x.1) (place_at y.1)))
      (stay_all x y here))
      (λ x held. rw (quiet_held s a x.1 (next_is class.Implies) (quiet_class class.Implies refl refl) held) (holds x refl held))

  iff_law : (a : Around) → Law s a (iff_over i a) (iff_over i a)
  unfolding iff_over
  iff_law a = chained_law s a level.Iff (implication_over i a) (λ base. among.implication_lands base i (st.lands base) a) (implication_law a)

  pub node_law : (a : Around) → Law s a (node_over i a) (node_over i a)
  unfolding node_over
  node_law a = chained_law s a level.Or (iff_over i a) (λ base. among.iff_lands base i (st.lands base) a) (iff_law a)

  -- ---- declarations and bindings

  body_law : (a : Around) → Law s a (body_over i a) (body_over i a)
  unfolding body_over
  body_law a ts us at = choose (next_is class.Bar) (sees_class class.Bar) at (at_after at _ _ (node_law a)) (block_tree_law a ts us at)

  variables_law : Law s around.Parens (variables_over false) (variables_over false)
  unfolding variables_over variable_names
  variables_law ts us at =
      then_out at (disj_law s at names_at names_at (names_law s)) (λ ns ms here. then_out here (expect_law s around.Parens class.Colon ns.1 ms.1 here) (λ c d there. stay there))

  declaration_law : Law s around.Parens (declaration_over i false) (declaration_over i false)
  unfolding declaration_over
  declaration_law ts us at =
      then_out at (variables_law ts us at) (λ ns ms here. then_out here (mark_law s here _ _ (sum_law around.Parens)) (λ x y there. stay there))

  more_declared : Law s around.Parens (many (next_is class.Comma) (another_declaration i false)) (many (next_is class.Comma) (another_declaration i false))
  unfolding another_declaration
  more_declared =
      many_free s (next_is class.Comma) (another_declaration i false) (another_declaration i false) (sees_class class.Comma) (comma_short (declaration_over i false) (λ base. among.declaration_lands base i (st.lands base) false)) (λ ts us at. at_after at _ _ declaration_law)

  pub declarations_law : Law s around.Parens (declarations_over i false) (declarations_over i false)
  unfolding declarations_over more_declarations
  declarations_law ts us at = then_out at (declaration_law ts us at) (λ d e here. then_out here (more_declared d.1 e.1 here) (λ ds es there. stay there))

  pub quantified_law : (a : Around) (q r : Quantifier) (p o : Place) → Law s a (quantified_over false i a q p) (quantified_over false i a r o)
  unfolding quantified_over
  quantified_law a q r p o ts us at =
      then_out at (declarations_law ts us at) (λ ds es here. then_held here (body_law a ds.1 es.1 here) (λ x y there. stay there) (λ x held. holds _ refl held))

  binding_law : Law s around.Parens (binding_over i) (binding_over i)
  unfolding binding_over
  binding_law ts us at =
      then_out at (name_law s around.Parens ts us at) (λ n m here. then_out here (expect_law s around.Parens class.Equal n.1 m.1 here) (λ q r there. then_out there (sum_law around.Parens q.1 r.1 there) (λ x y end. stay end)))

  pub let_law : (a : Around) (p o : Place) → Law s a (let_over i a p) (let_over i a o)
  unfolding let_over bindings_over
  let_law a p o ts us at =
      then_out at (listed_free s (binding_over i) (λ base. among.binding_lands base i (st.lands base)) binding_law ts us at) (λ bs cs here. then_held here (body_law a bs.1 cs.1 here) (λ x y there. stay there) (λ x held. holds _ refl held))
