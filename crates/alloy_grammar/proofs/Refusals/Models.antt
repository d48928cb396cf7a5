-- Models of two lists that are one up to a seam: where the first is refused at it, the second isn't read.
use Rattle.std.proofs.Common.{◌≡◌, ◌⊎◌, inl, inr, ◌≤◌, ◌<◌, ℕ, suc, ◌+◌, ◌-◌, Bool, true, false, not, ◌&&◌, if◌then◌else◌, List, [], ◌∷◌, ◌++◌, length, Option, Some, None, Result, Ok, Err, codes, bytes_eq, refl, sym, ap, subst, ◌∙◌, arith}
use Rattle.std.proofs.lemmas.List.{length-append}
use Rattle.alloy_lex.specs.declared.token.Place.{Place}
use Rattle.alloy_syntax.specs.declared.class.Class.{Class}
use Rattle.alloy_syntax.specs.declared.class.Class.TheVariants as class
use Rattle.alloy_syntax.specs.declared.reading.Form.TheVariants as form
use Rattle.alloy_syntax.specs.declared.reading.Around.TheVariants as around
use Rattle.alloy_syntax.specs.declared.tree.CommandKind.{CommandKind}
use Rattle.alloy_syntax.specs.declared.tree.CommandKind.TheVariants as kind
use Rattle.alloy_syntax.specs.declared.parser_token.ParserToken.{ParserToken}
use Rattle.alloy_syntax.specs.Class.{is_class}
use Rattle.alloy_syntax.specs.Tree.{ModelTree, ScopeTree}
use Rattle.alloy_syntax.specs.Readers.{ParseStopView, refused, unsupported, Parser, ◌>>=◌, next_is, after, place_at, spelled_at, name_at, number_at, many}
use Rattle.alloy_syntax.specs.Bounds.{whole}
use Rattle.alloy_syntax.specs.Nodes.{within}
use Rattle.alloy_syntax.specs.Paragraphs.{own_block, field_at, fields_at, parent_at, after_qualifier, after_abstract, is_qualifier, qualified, signatures_at, label_at, fact_at, parameters_to, parameter_list, predicate_at, function_at, assertion_at, entry_at, entries_at, exceptions_at, has_default, scope_at, expected_at, target_at, command_at, paragraph_at, is_left, heading_at, ordering_at, open_at, model_at}
use Rattle.alloy_grammar.specs.Models.{IsTextOf, depth_of_model}
use Rattle.alloy_grammar.proofs.Results.{either, no_success}
use Rattle.alloy_grammar.proofs.Models.{paragraph_read}
use Rattle.alloy_grammar.proofs.WholeModels.{model_full}
use Rattle.alloy_grammar.specs.Faults.Stops.{AreLast}
use Rattle.alloy_grammar.proofs.Faults.LastTokens.{Lands, read, among_then, expect_lands, all_last, number_lands, spelled_lands}
use Rattle.alloy_grammar.proofs.Faults.ModelsAmong as among
use Rattle.alloy_grammar.proofs.Faults.Models.{stays, lenient, roomier}
use Rattle.alloy_grammar.specs.Refusals.Texts.{next_terminal, GoesOn}
use Rattle.alloy_grammar.proofs.Refusals.SeamedLists.{Seam, rest_of, tail_of, At, near, past, out, of_near, of_past, IsElse, Past, went, faulty, Parted, both, kept, holds, leaves, ended, Out, Law, landed, past_then, past_choice, stay, then_out, sees_near, sees_at, same_choice, choose, guarded, at_after, stay_after, at_choice, short_behind, many_free, sees_class, listed_free, listed_past}
use Rattle.alloy_grammar.proofs.Refusals.Tests.{sees_qualifier, sees_left}
use Rattle.alloy_grammar.proofs.Refusals.Nodes.{other_is, Steady, expect_law, name_law, number_law, names_law, mark_law, token_class, block_law, sum_law, braced_law, declarations_law}
use Rattle.alloy_grammar.proofs.Refusals.NestedNodes.{steady}
use Rattle.alloy_grammar.proofs.Refusals.Bounds.{bounds_law}

module _ (s : Seam) where
  parent_law : Law s around.Parens parent_at parent_at
  unfolding parent_at
  parent_law ts us at =
      choose (next_is class.Extends) (sees_class class.Extends) at (then_out at (at_after at _ _ (name_law s around.Parens)) (λ x y here. stay here))
      (choose (next_is class.In) (sees_class class.In) at (then_out at (at_after at _ _ (name_law s around.Parens)) (λ x y here. stay here))
      (stay at))

  label_law : Law s around.Parens label_at label_at
  unfolding label_at
  label_law ts us at = choose (next_is class.Name) (sees_class class.Name) at (then_out at (name_law s around.Parens ts us at) (λ x y here. stay here)) (stay at)

  expected_law : Law s around.Parens expected_at expected_at
  unfolding expected_at
  expected_law ts us at = choose (next_is class.Expect) (sees_class class.Expect) at (then_out at (at_after at _ _ (number_law s around.Parens)) (λ x y here. stay here)) (stay at)

  entry_law : Law s around.Parens entry_at entry_at
  unfolding entry_at
  entry_law ts us at =
      then_out at (at_choice (next_is class.Exactly) (sees_class class.Exactly) at number_at number_at (number_law s around.Parens)) (λ n m here. then_out here (name_law s around.Parens n.1 m.1 here) (λ x y there. stay there))

  entries_law : Law s around.Parens entries_at entries_at
  unfolding entries_at
  entries_law = listed_free s entry_at (λ base. among.entry_lands base) entry_law

  exceptions_law : Law s around.Parens exceptions_at exceptions_at
  unfolding exceptions_at
  exceptions_law ts us at = choose (next_is class.But) (sees_class class.But) at (at_after at _ _ entries_law) (stay at)

  -- a number, and a name behind it or not: where the test looks past the seam, the number is taken either way
  number_taken : next_is class.Number (rest_of s) ≡ true → Past s (number_at (rest_of s))
  unfolding number_at next_is
  number_taken e = rw e (went _ refl (all_last s.later))

  default_test : (ws : List ParserToken) → (has_default (ws ++ rest_of s) ≡ has_default (ws ++ tail_of s)) ⊎ ((ws ≡ []) × (next_is class.Number (rest_of s) ≡ true))
  unfolding has_default
  default_test [] =
      elim (either (next_is class.Number (rest_of s))) [
        | inl is ↦ inr (refl, is)
        | inr none ↦ inl (rw (none, sym (sees_near s (next_is class.Number) (sees_class class.Number) []) ∙ none) refl)
      ]
  default_test (w ∷ ws) = inl (rw (sees_near s (next_is class.Number) (sees_class class.Number) (w ∷ ws), sees_near s (next_is class.Name) (sees_class class.Name) ws) refl)

  abbrev sizes_at : Parser (Option ScopeTree)
  sizes_at ts =
      if has_default ts then (number_at ts >>= λ n. exceptions_at n.1 >>= λ es. Ok (Some (record { default = Some n.0; entries = es.0 }), es.1))
      else (entries_at ts >>= λ es. Ok (Some (record { default = None; entries = es.0 }), es.1))

  sizes_past : (ts : List ParserToken) → Past s (number_at ts) → Past s (entries_at ts) → Past s (sizes_at ts)
  sizes_past ts h g =
      past_choice (has_default ts) (past_then h (λ n last. past_then (landed (among.exceptions_land s.later n.1 last)) (λ es end. went _ refl end))) (past_then g (λ es last. went _ refl last))

  no_exactly : next_is class.Number (rest_of s) ≡ true → next_is class.Exactly (rest_of s) ≡ false
  unfolding next_is is_class
  no_exactly e = rw (token_class s.token s.later class.Number e) refl

  entries_taken : next_is class.Number (rest_of s) ≡ true → Past s (entries_at (rest_of s))
  unfolding entries_at entry_at
  entries_taken e =
      listed_past s entry_at (among.entry_lands s.later) (rest_of s) (rw (no_exactly e) (past_then (number_taken e) (λ n last. past_then (landed (spelled_lands s.later class.Name n.1 last)) (λ x end. went _ refl end))))

  sizes_near : (ws : List ParserToken) → Parted s around.Parens (sizes_at (ws ++ rest_of s)) (sizes_at (ws ++ tail_of s))
  sizes_near ws =
      elim (default_test ws) [
        | inl e ↦ same_choice (has_default (ws ++ rest_of s)) (has_default (ws ++ tail_of s)) e
            (of_near (then_out {l = around.Parens} (near ws refl refl) (number_law s around.Parens (ws ++ rest_of s) (ws ++ tail_of s) (near ws refl refl)) (λ n m here. then_out here (exceptions_law n.1 m.1 here) (λ es fs there. stay there))))
            (of_near (then_out {l = around.Parens} (near ws refl refl) (entries_law (ws ++ rest_of s) (ws ++ tail_of s) (near ws refl refl)) (λ es fs there. stay there)))
        | inr m ↦ kept (leaves (subst (λ (us : List ParserToken). Past s (sizes_at us)) (sym (ap (λ (us : List ParserToken). us ++ rest_of s) m.0)) (sizes_past (rest_of s) (number_taken m.1) (entries_taken m.1))))
      ]

  sizes_law : Law s around.Parens sizes_at sizes_at
  sizes_law ts us (near ws e f) = out (rw (e, f) (sizes_near ws))
  sizes_law ts us (past last) = out (sizes_past ts (landed (number_lands s.later ts last)) (landed (among.entries_land s.later ts last)))

  scope_law : Law s around.Parens scope_at scope_at
  unfolding scope_at
  scope_law ts us at = choose (next_is class.For) (sees_class class.For) at (at_after at sizes_at sizes_at sizes_law) (stay at)

  heading_law : Law s around.Parens heading_at heading_at
  unfolding heading_at
  heading_law ts us at = choose (next_is class.Module) (sees_class class.Module) at (then_out at (at_after at _ _ (name_law s around.Parens)) (λ x y here. stay here)) (stay at)

  ordering_near : (ws : List ParserToken) → Parted s around.Parens (ordering_at (ws ++ rest_of s)) (ordering_at (ws ++ tail_of s))
  unfolding ordering_at spelled_at
  ordering_near [] =
      elim (either (is_class s.token.class class.Path)) [
        | inl is ↦ rw is (kept (leaves (past_choice (bytes_eq s.token.text (codes "util/ordering")) (went _ refl (all_last s.later)) (faulty (unsupported form.Open (rest_of s)) refl tt))))
        | inr fails ↦ rw (other_is s class.Path false fails) (ended _ refl)
      ]
  ordering_near (w ∷ ws) =
      elim (either (is_class w.class class.Path)) [
        | inl is ↦ rw is (same_choice (bytes_eq w.text (codes "util/ordering")) (bytes_eq w.text (codes "util/ordering")) refl (both _ _ refl refl ws refl refl) (ended _ refl))
        | inr fails ↦ rw fails (ended _ refl)
      ]

  ordering_law : Law s around.Parens ordering_at ordering_at
  ordering_law ts us (near ws e f) = out (rw (e, f) (ordering_near ws))
  ordering_law ts us (past last) = out (landed (among.ordering_lands s.later ts last))

  open_law : Law s around.Parens open_at open_at
  unfolding open_at
  open_law ts us at =
      then_out at (at_after at _ _ ordering_law) (λ p q here1. then_out here1 (expect_law s around.Parens class.LeftBracket p.1 q.1 here1) (λ o r here2. then_out here2 (name_law s around.Parens o.1 r.1 here2) (λ n m here3.
      then_out here3 (expect_law s around.Parens class.RightBracket n.1 m.1 here3) (λ c d here4. then_out here4 (expect_law s around.Parens class.As c.1 d.1 here4) (λ w v here5. then_out here5 (name_law s around.Parens w.1 v.1 here5) (λ a b here6. stay here6))))))

  open_from : (t : ParserToken) (ts : List ParserToken) → Lands ts (open_at (t ∷ ts))
  unfolding open_at
  open_from t ts =
      among_then (among.ordering_lands ts ts (all_last ts)) (λ p e. among_then (expect_lands ts class.LeftBracket p.1 e) (λ o f. among_then (spelled_lands ts class.Name o.1 f) (λ n g.
      among_then (expect_lands ts class.RightBracket n.1 g) (λ c h. among_then (expect_lands ts class.As c.1 h) (λ w k. among_then (spelled_lands ts class.Name w.1 k) (λ a l. read _ refl l))))))

  opens_law : Law s around.Parens (many (next_is class.Open) open_at) (many (next_is class.Open) open_at)
  unfolding next_is
  opens_law = many_free s (next_is class.Open) open_at open_at (sees_class class.Open) (short_behind (next_is class.Open) open_at refl (λ t ts is. inl (open_from t ts))) open_law

  -- the qualifiers before `sig`
  qualified_law : {A : Type 0} {ts us : List ParserToken} (at : At s ts us) (p q : Parser A) → Law s around.Parens p q → Out s around.Parens at (p (qualified ts).behind) (q (qualified us).behind)
  unfolding qualified
  qualified_law {A} {ts} {us} (past last) p q law = out (of_past (law (qualified ts).behind (qualified us).behind (past (among.qualified_last s.later ts last))))
  qualified_law {A} {ts} {us} (near ws e f) p q law =
      let at : At s ts us = near ws e f in
      elim (either (next_is class.Abstract ts)) [
        | inl is ↦ rw (is, sym (sees_at s (next_is class.Abstract) (sees_class class.Abstract) ts us ws e f) ∙ is)
            (at_after {k = around.Parens} at (λ vs. p (after_qualifier vs)) (λ vs. q (after_qualifier vs)) (λ vs os here. at_choice is_qualifier sees_qualifier here p q law))
        | inr none ↦ rw (none, sym (sees_at s (next_is class.Abstract) (sees_class class.Abstract) ts us ws e f) ∙ none)
            (at_choice {k = around.Parens} is_qualifier sees_qualifier at (λ vs. p (after_abstract vs)) (λ vs. q (after_abstract vs)) (λ vs os here. at_choice (next_is class.Abstract) (sees_class class.Abstract) here p q law))
      ]

  module _ (n : ℕ) where
    st : (room : ℕ) → Steady s (within false room)
    st = steady s

    own_block_law : Law s around.Parens (own_block false n) (own_block false n)
    own_block_law = block_law s (within false n) (st n) around.Parens

    field_law : Law s around.Parens (field_at false n) (field_at false n)
    unfolding field_at
    field_law ts us at =
        then_out at (names_law s ts us at) (λ ns ms here. then_out here (expect_law s around.Parens class.Colon ns.1 ms.1 here) (λ c d there. then_out there (mark_law s there _ _ (bounds_law s n whole whole)) (λ x y end. stay end)))

    fields_law : Law s around.Parens (fields_at false n) (fields_at false n)
    unfolding fields_at
    fields_law ts us at = choose (next_is class.RightBrace) (sees_class class.RightBrace) at (stay at) (listed_free s (field_at false n) (λ base. among.field_lands base false n) field_law ts us at)

    signatures_law : Law s around.Parens (signatures_at false n) (signatures_at false n)
    unfolding signatures_at
    signatures_law ts us at =
        then_out at (qualified_law at _ _ (expect_law s around.Parens class.Sig)) (λ w v here1. then_out here1 (names_law s w.1 v.1 here1) (λ ns ms here2. then_out here2 (parent_law ns.1 ms.1 here2) (λ p q here3.
        then_out here3 (expect_law s around.Parens class.LeftBrace p.1 q.1 here3) (λ o r here4. then_out here4 (fields_law o.1 r.1 here4) (λ fs gs here5. then_out here5 (expect_law s around.Parens class.RightBrace fs.1 gs.1 here5) (λ c d here6.
        guarded here6 (next_is class.LeftBrace c.1) (next_is class.LeftBrace d.1) (unsupported form.Appended c.1) (unsupported form.Appended d.1) tt (stay here6)))))))

    fact_law : Law s around.Parens (fact_at false n) (fact_at false n)
    unfolding fact_at
    fact_law ts us at = then_out at (label_law ts us at) (λ l m here. then_out here (own_block_law l.1 m.1 here) (λ x y there. stay there))

    parameters_law : (c : Class) → Law s around.Parens (parameters_to false n c) (parameters_to false n c)
    parameters_law c ts us at =
        choose (next_is c) (sees_class c) at (stay_after at)
        (then_out at (declarations_law s (within false (n - 1)) (st (n - 1)) ts us at) (λ x y here. then_out here (expect_law s around.Parens c x.1 y.1 here) (λ o p there. stay there)))

    parameter_list_law : Law s around.Parens (parameter_list false n) (parameter_list false n)
    unfolding parameter_list
    parameter_list_law ts us at =
        choose (next_is class.LeftBracket) (sees_class class.LeftBracket) at (at_after at _ _ (parameters_law class.RightBracket))
        (choose (next_is class.LeftParen) (sees_class class.LeftParen) at (at_after at _ _ (parameters_law class.RightParen)) (stay at))

    predicate_law : Law s around.Parens (predicate_at false n) (predicate_at false n)
    unfolding predicate_at
    predicate_law ts us at = then_out at (name_law s around.Parens ts us at) (λ k l here. then_out here (parameter_list_law k.1 l.1 here) (λ ps qs there. then_out there (own_block_law ps.1 qs.1 there) (λ x y end. stay end)))

    function_law : Law s around.Parens (function_at false n) (function_at false n)
    unfolding function_at
    function_law ts us at =
        then_out at (name_law s around.Parens ts us at) (λ k l here1. then_out here1 (parameter_list_law k.1 l.1 here1) (λ ps qs here2. then_out here2 (expect_law s around.Parens class.Colon ps.1 qs.1 here2) (λ c d here3.
        then_out here3 (mark_law s here3 _ _ (sum_law s (within false n) (st n) around.Parens)) (λ x y here4. then_out here4 (braced_law s (within false n) (st n) around.Parens x.1 y.1 here4) (λ b e here5. stay here5)))))

    assertion_law : Law s around.Parens (assertion_at false n) (assertion_at false n)
    unfolding assertion_at
    assertion_law ts us at = then_out at (name_law s around.Parens ts us at) (λ l m here. then_out here (own_block_law l.1 m.1 here) (λ x y there. stay there))

    abbrev named_target : List ParserToken → Bool
    named_target ts = next_is class.Name ts && not (next_is class.LeftBrace (after ts))

    target_test : (ws : List ParserToken) → (named_target (ws ++ rest_of s) ≡ named_target (ws ++ tail_of s)) ⊎ ((ws ≡ []) × (next_is class.Name (rest_of s) ≡ true))
    target_test [] =
        elim (either (next_is class.Name (rest_of s))) [
          | inl is ↦ inr (refl, is)
          | inr none ↦ inl (rw (none, sym (sees_near s (next_is class.Name) (sees_class class.Name) []) ∙ none) refl)
        ]
    target_test (w ∷ ws) = inl (rw (sees_near s (next_is class.Name) (sees_class class.Name) (w ∷ ws), sees_near s (next_is class.LeftBrace) (sees_class class.LeftBrace) ws) refl)

    target_past : (ts : List ParserToken) → Past s (name_at ts) → Past s (label_at ts) → Past s (target_at false n ts)
    unfolding target_at
    target_past ts h g =
        past_choice (named_target ts) (past_then h (λ x last. went _ refl last)) (past_then g (λ l last. past_then (landed (among.own_block_lands s.later false n l.1 last)) (λ b end. went _ refl end)))

    name_taken : next_is class.Name (rest_of s) ≡ true → Past s (name_at (rest_of s))
    unfolding spelled_at next_is
    name_taken e = rw e (went _ refl (all_last s.later))

    label_taken : next_is class.Name (rest_of s) ≡ true → Past s (label_at (rest_of s))
    unfolding label_at
    label_taken e = rw e (past_then (name_taken e) (λ x last. went _ refl last))

    target_near : (ws : List ParserToken) → Parted s around.Parens (target_at false n (ws ++ rest_of s)) (target_at false n (ws ++ tail_of s))
    unfolding target_at
    target_near ws =
        elim (target_test ws) [
          | inl e ↦ same_choice (named_target (ws ++ rest_of s)) (named_target (ws ++ tail_of s)) e
              (of_near (then_out {l = around.Parens} (near ws refl refl) (name_law s around.Parens (ws ++ rest_of s) (ws ++ tail_of s) (near ws refl refl)) (λ x y here. stay here)))
              (of_near (then_out {l = around.Parens} (near ws refl refl) (label_law (ws ++ rest_of s) (ws ++ tail_of s) (near ws refl refl)) (λ l m here. then_out here (own_block_law l.1 m.1 here) (λ x y there. stay there))))
          | inr m ↦ kept (leaves (subst (λ (us : List ParserToken). Past s (target_at false n us)) (sym (ap (λ (us : List ParserToken). us ++ rest_of s) m.0)) (target_past (rest_of s) (name_taken m.1) (label_taken m.1))))
        ]

    target_law : Law s around.Parens (target_at false n) (target_at false n)
    target_law ts us (near ws e f) = out (rw (e, f) (target_near ws))
    target_law ts us (past last) = out (target_past ts (landed (spelled_lands s.later class.Name ts last)) (landed (among.label_lands s.later ts last)))

    command_law : (k : CommandKind) (p q : Place) → Law s around.Parens (command_at false n k p) (command_at false n k q)
    unfolding command_at
    command_law k p q ts us at =
        then_out at (target_law ts us at) (λ t u here. then_out here (scope_law t.1 u.1 here) (λ x y there. then_out there (expected_law x.1 y.1 there) (λ d e end. stay end)))

    paragraph_law : Law s around.Parens (paragraph_at false n) (paragraph_at false n)
    unfolding paragraph_at
    paragraph_law ts us at =
        choose (next_is class.Fact) (sees_class class.Fact) at (at_after at _ _ fact_law)
        (choose (next_is class.Pred) (sees_class class.Pred) at (at_after at _ _ predicate_law)
        (choose (next_is class.Fun) (sees_class class.Fun) at (at_after at _ _ function_law)
        (choose (next_is class.Assert) (sees_class class.Assert) at (at_after at _ _ assertion_law)
        (choose (next_is class.Run) (sees_class class.Run) at (at_after at _ _ (command_law kind.Run (place_at ts) (place_at us)))
        (choose (next_is class.Check) (sees_class class.Check) at (at_after at _ _ (command_law kind.Check (place_at ts) (place_at us)))
        (signatures_law ts us at))))))

    paragraphs_law : 0 < n → Law s around.Parens (many is_left (paragraph_at false n)) (many is_left (paragraph_at false n))
    paragraphs_law some = many_free s is_left (paragraph_at false n) (paragraph_at false n) sees_left (λ ts x rest is e. (paragraph_read false n some ts x rest e).shorter) paragraph_law

-- ---- models

-- where the first is refused at the seam, the second stops
abbrev VerdictOf : {s : Seam} {ts us : List ParserToken} → At s ts us → Result ModelTree ParseStopView → Result ModelTree ParseStopView → Type 0
VerdictOf {s} (near ws e f) a b = a ≡ Err (refused (rest_of s)) → (d : ParseStopView) × (b ≡ Err d)
VerdictOf {s} (past last) a b = a ≡ Err (refused (rest_of s)) → ⊥

data Verdict {ts us : List ParserToken} (s : Seam) (at : At s ts us) (a b : Result ModelTree ParseStopView) : Type 0 where
  verdict : VerdictOf at a b → Verdict s at a b

verdict_near : {ts us : List ParserToken} {s : Seam} {ws : List ParserToken} {e : ts ≡ ws ++ rest_of s} {f : us ≡ ws ++ tail_of s} {a b : Result ModelTree ParseStopView} → Verdict s (near ws e f) a b → a ≡ Err (refused (rest_of s)) → (d : ParseStopView) × (b ≡ Err d)
verdict_near (verdict p) = p

verdict_past : {ts us : List ParserToken} {s : Seam} {last : AreLast s.later ts} {a b : Result ModelTree ParseStopView} → Verdict {ts = ts} {us = us} s (past last) a b → a ≡ Err (refused (rest_of s)) → ⊥
verdict_past (verdict p) = p

abbrev failed : ParseStopView → Result ModelTree ParseStopView
failed d = Err d

stop_is : (d e : ParseStopView) → failed d ≡ failed e → d ≡ e
stop_is d e same = cc

not_here : (s : Seam) → AreLast s.later (rest_of s) → ⊥
not_here s last = absurd (omega (arith, ap length last.1, length-append last.0 (rest_of s)))

not_else : (s : Seam) (d : ParseStopView) → IsElse s d → failed d ≡ failed (refused (rest_of s)) → ⊥
not_else s d apart e = not_here s (subst (λ (c : ParseStopView). IsElse s c) (stop_is d (refused (rest_of s)) e) apart)

past_verdict : {A : Type 0} {s : Seam} {a : Result (A × List ParserToken) ParseStopView} {f : A × List ParserToken → Result ModelTree ParseStopView} → Past s a → ((x : A × List ParserToken) → AreLast s.later x.1 → f x ≡ Err (refused (rest_of s)) → ⊥) → (a >>= f) ≡ Err (refused (rest_of s)) → ⊥
past_verdict {A} {s} {a} {f} h to e =
    elim h [
      | went x is last ↦ to x last (sym (ap (λ (c : Result (A × List ParserToken) ParseStopView). c >>= f) is) ∙ e)
      | faulty d is apart ↦ not_else s d apart (sym (ap (λ (c : Result (A × List ParserToken) ParseStopView). c >>= f) is) ∙ e)
    ]

then_verdict : {A : Type 0} {s : Seam} {ts us : List ParserToken} (at : At s ts us) {a b : Result (A × List ParserToken) ParseStopView} {f g : A × List ParserToken → Result ModelTree ParseStopView}
    → Out s around.Parens at a b → ((x y : A × List ParserToken) (here : At s x.1 y.1) → Verdict s here (f x) (g y)) → Verdict s at (a >>= f) (b >>= g)
then_verdict {A} {s} {ts} {us} (past last) {a} {b} {f} {g} h to = verdict (past_verdict (of_past h) (λ x here. verdict_past (to x x (past here))))
then_verdict {A} {s} {ts} {us} (near ws e0 f0) {a} {b} {f} {g} h to = verdict (λ is.
    elim (of_near h) [
      | both x y e1 e2 vs e f' ↦ (
          let d = verdict_near (to x y (near vs e f')) (sym (ap (λ (c : Result (A × List ParserToken) ParseStopView). c >>= f) e1) ∙ is) in
          (d.0, ap (λ (c : Result (A × List ParserToken) ParseStopView). c >>= g) e2 ∙ d.1))
      | kept k ↦ elim k [
        | holds x e held ↦ absurd held
        | leaves p ↦ absurd (past_verdict p (λ x here. verdict_past (to x x (past here))) is)
      ]
      | ended d e ↦ (d, ap (λ (c : Result (A × List ParserToken) ParseStopView). c >>= g) e)
    ])

read_verdict : {s : Seam} {ts us : List ParserToken} (at : At s ts us) (x y : ModelTree) → Verdict s at (Ok x) (Ok y)
read_verdict {s} (near ws e f) x y = verdict (λ is. no_success (refused (rest_of s)) x (sym is))
read_verdict {s} (past last) x y = verdict (λ is. no_success (refused (rest_of s)) x (sym is))

models_verdict : (s : Seam) (n : ℕ) → 0 < n → (ts us : List ParserToken) (at : At s ts us) → Verdict s at (model_at false n ts) (model_at false n us)
unfolding model_at
models_verdict s n some ts us at =
    then_verdict at (heading_law s ts us at) (λ h k here. then_verdict here (opens_law s h.1 k.1 here) (λ o p there. then_verdict there (paragraphs_law s n some o.1 p.1 there) (λ ps qs end. read_verdict end _ _)))

-- ---- texts

-- what is refused under a limit is refused under a greater one, where forms pass
refused_more : (strict : Bool) (limit more : ℕ) → limit ≤ more → (ts rest : List ParserToken) → model_at strict limit ts ≡ Err (refused rest) → model_at false more ts ≡ Err (refused rest)
refused_more true limit more less ts rest e = stays (model_at true limit ts) (model_at false more ts) (refused rest) refl (lenient limit more less ts) e
refused_more false limit more less ts rest e = stays (model_at false limit ts) (model_at false more ts) (refused rest) refl (roomier false limit more less ts) e

not_strict : {P : Type 0} → false ≡ true → P
not_strict e = absurd cc

abbrev terminal : Class → Option Class
terminal c = Some c

abbrev option_or : Option Class → Class → Class
option_or None c = c
option_or (Some d) c = d

reads_text : (n : ℕ) (ts : List ParserToken) (m : ModelTree) (d : ParseStopView) → IsTextOf ts m → depth_of_model m < n → model_at false n ts ≡ Err d → ⊥
reads_text n ts m d text deep e = no_success d m (sym e ∙ model_full false n (omega (arith, deep)) ts m text (omega (arith, deep)) (λ is. not_strict is))

no_token : {P : Type 0} (t : ParserToken) → next_terminal [] ≡ Some t.class → P
no_token t e = absurd cc

terminal_is : (t u : ParserToken) → terminal t.class ≡ terminal u.class → t.class ≡ u.class
terminal_is t u e = ap (λ (o : Option Class). option_or o t.class) e

no_text : (strict : Bool) (limit : ℕ) (before rest tail : List ParserToken) (m : ModelTree) → model_at strict limit (before ++ rest) ≡ Err (refused rest) → next_terminal tail ≡ next_terminal rest → IsTextOf (before ++ tail) m → ⊥
no_text strict limit before [] [] m e same text =
    let n = suc (limit + depth_of_model m) in
    reads_text n (before ++ []) m (refused []) text (omega arith) (refused_more strict limit n (omega arith) (before ++ []) [] e)
no_text strict limit before (t ∷ ts) [] m e same text = no_token t same
no_text strict limit before [] (u ∷ us) m e same text = no_token u (sym same)
no_text strict limit before (t ∷ ts) (u ∷ us) m e same text =
    let n = suc (limit + depth_of_model m) in
    let s : Seam = record { token = t; later = ts; other = u; tail = us; alike = sym (terminal_is u t same) } in
    let d = verdict_near (models_verdict s n (omega arith) (before ++ (t ∷ ts)) (before ++ (u ∷ us)) (near before refl refl)) (refused_more strict limit n (omega arith) (before ++ (t ∷ ts)) (t ∷ ts) e) in
    reads_text n (before ++ (u ∷ us)) m d.0 text (omega arith) d.1

pub goes_nowhere : (strict : Bool) (limit : ℕ) (before rest : List ParserToken) → model_at strict limit (before ++ rest) ≡ Err (refused rest) → GoesOn before rest → ⊥
goes_nowhere strict limit before rest e on = no_text strict limit before rest on.tail on.model e on.alike on.text
