-- What reading gives of paragraphs.
use Rattle.std.proofs.Common.{◌≡◌, ℕ, ◌-◌, inl, inr, Bool, true, false, not, ◌&&◌, if◌then◌else◌, List, [], refl}
use Rattle.alloy_lex.specs.declared.token.Place.{Place}
use Rattle.alloy_syntax.specs.declared.class.Class.{Class}
use Rattle.alloy_syntax.specs.declared.class.Class.TheVariants as class
use Rattle.alloy_syntax.specs.declared.reading.Around.TheVariants as around
use Rattle.alloy_syntax.specs.declared.tree.CommandKind.{CommandKind}
use Rattle.alloy_syntax.specs.declared.tree.CommandKind.TheVariants as kind
use Rattle.alloy_syntax.specs.declared.parser_token.ParserToken.{ParserToken}
use Rattle.alloy_syntax.specs.Readers.{next_is, after, place_at, is_mark, after_mark, multiplicity_of}
use Rattle.alloy_syntax.specs.Nodes.{within}
use Rattle.alloy_syntax.specs.Paragraphs.{own_block, field_at, fields_at, parent_at, is_qualifier as is_qualifier_next, after_qualifier, qualified, signatures_at, label_at, fact_at, parameters_to, parameter_list, predicate_at, function_at, assertion_at, entry_at, entries_at, exceptions_at, has_default, scope_at, expected_at, target_at, command_at, paragraph_at}
use Rattle.alloy_grammar.specs.Levels.{sum_level}
use Rattle.alloy_grammar.specs.Models.{is_qualifier}
use Rattle.alloy_grammar.proofs.Results.{either}
use Rattle.alloy_grammar.proofs.Tokens.{and_left, and_right, multiplicity_sign}
use Rattle.alloy_grammar.proofs.Prefixes.ClosingTokens.{is_calm}
use Rattle.alloy_grammar.proofs.Prefixes.CompletedReadings.{Then, Token, Maybe, some, Or, this, that, Listed, Moved, Closing, gone, Goes, close_maybe, close_token, close_then, close_name, close_names, moved_then, moved_map, moved_sign, moved_token, moved_maybe, gives_none, gives_map, gives_behind, gives_then, gives_last, gives_choice, expect_gives, spelled_gives, number_gives, gives_listed, names_give}
use Rattle.alloy_grammar.proofs.Prefixes.SignatureEnds.{Signs, plainly, signs_map, signs_behind, signs_then, signs_choice, signs_closed}
use Rattle.alloy_grammar.proofs.Prefixes.Texts.{Node, Braces, Word, Declaration}
use Rattle.alloy_grammar.proofs.Prefixes.Openings.{close_braces, close_sum}
use Rattle.alloy_grammar.proofs.Prefixes.Nodes.{block_gives, sum_gives, braced_gives}
use Rattle.alloy_grammar.proofs.Prefixes.Quantified.{moved_flag, moved_word, declarations_give, within_gives}
use Rattle.alloy_grammar.proofs.Prefixes.Bounds.{close_bound, bound_gives}
use Rattle.alloy_grammar.proofs.Prefixes.ParagraphTexts.{Qualifier, Qualifiers, Field, ParentText, Paragraph, Signature, signature_paragraph, signature_text, fact_text, assertion_text, ParametersTo, Parameters, predicate_text, Returned, function_text, Target, EntryText, Exceptions, Sizes, ScopeText, ExpectedText, Command, command_text}

-- ---- qualifiers

is_not : (b : Bool) → not b ≡ true → b ≡ false
is_not true e = absurd cc
is_not false e = refl

not_set : (ts : List ParserToken) → next_is class.Set ts ≡ false → is_qualifier (multiplicity_of ts) ≡ true
not_set ts none_set =
    elim (either (next_is class.One ts)) [
      | inl is ↦ rw (none_set, is) refl
      | inr a ↦ elim (either (next_is class.Lone ts)) [ inl is ↦ rw (none_set, a, is) refl | inr b ↦ rw (none_set, a, b) refl ]
    ]

moved_qualifier : (ts : List ParserToken) → Moved (Maybe Qualifier) ts (after_qualifier ts)
unfolding is_qualifier_next
moved_qualifier ts =
    elim (either (is_mark ts && not (next_is class.Set ts))) [
      | inl both ↦ rw both (moved_map (λ us vs t. some (record { multiplicity = multiplicity_of ts; some = not_set ts (is_not (next_is class.Set ts) (and_right (is_mark ts) _ both)); token = t })) (moved_sign (multiplicity_sign ts (and_left (is_mark ts) _ both))))
      | inr fails ↦ rw fails (moved_maybe Qualifier ts)
    ]

moved_qualifiers : (ts : List ParserToken) → Moved Qualifiers ts (qualified ts).behind
unfolding qualified
moved_qualifiers ts =
    elim (either (next_is class.Abstract ts)) [
      | inl is ↦ rw is (moved_map (λ us vs t. this t) (moved_then (moved_map (λ us vs t. some t) (moved_token class.Abstract ts is)) (moved_qualifier (after ts))))
      | inr fails ↦ rw fails (moved_map (λ us vs t. that t) (moved_then (moved_qualifier ts) (moved_flag class.Abstract (after_qualifier ts))))
    ]

-- ---- parts of signatures

parent_gives : Goes parent_at (Maybe ParentText)
unfolding parent_at
parent_gives ts =
    gives_choice (next_is class.Extends ts) (λ is. gives_map (λ us vs t. some (this t)) (gives_behind (moved_token class.Extends ts is) (gives_last _ (spelled_gives class.Name refl (after ts)))))
    (λ _. gives_choice (next_is class.In ts) (λ is. gives_map (λ us vs t. some (that t)) (gives_behind (moved_token class.In ts is) (gives_last _ (spelled_gives class.Name refl (after ts)))))
    (λ _. gives_none ParentText _ ts))

label_gives : Goes label_at (Maybe (Token class.Name))
unfolding label_at
label_gives ts =
    gives_choice (next_is class.Name ts) (λ _. gives_map (λ us vs t. some t) (gives_last _ (spelled_gives class.Name refl ts))) (λ _. gives_none (Token class.Name) _ ts)

-- ---- parts of commands

expected_gives : Goes expected_at (Maybe ExpectedText)
unfolding expected_at
expected_gives ts =
    gives_choice (next_is class.Expect ts) (λ is. gives_map (λ us vs t. some t) (gives_behind (moved_token class.Expect ts is) (gives_last _ (number_gives (after ts))))) (λ _. gives_none ExpectedText _ ts)

entry_gives : Goes entry_at EntryText
unfolding entry_at
entry_gives ts = gives_behind (moved_flag class.Exactly ts) (gives_then (number_gives (if next_is class.Exactly ts then after ts else ts)) close_name (λ n. gives_last _ (spelled_gives class.Name refl n.1)))

entries_give : Goes entries_at (Listed EntryText)
unfolding entries_at
entries_give = gives_listed entry_at entry_gives

exceptions_give : Goes exceptions_at Exceptions
unfolding exceptions_at
exceptions_give ts =
    gives_choice (next_is class.But ts) (λ is. gives_map (λ us vs t. some t) (gives_behind (moved_token class.But ts is) (entries_give (after ts)))) (λ _. gives_none (Then (Token class.But) (Listed EntryText)) [] ts)

scope_gives : Goes scope_at (Maybe ScopeText)
unfolding scope_at
scope_gives ts =
    gives_choice (next_is class.For ts)
    (λ is. gives_map (λ us vs t. some t) (gives_behind (moved_token class.For ts is) (
    gives_choice {F = Sizes} (has_default (after ts))
    (λ _. gives_map (λ us vs t. this t) (gives_then (number_gives (after ts)) (close_maybe (Then (Token class.But) (Listed EntryText))) (λ n. gives_last _ (exceptions_give n.1))))
    (λ _. gives_map (λ us vs t. that t) (gives_last _ (entries_give (after ts)))))))
    (λ _. gives_none ScopeText _ ts)

module _ (strict : Bool) (limit : ℕ) where
  own_block_gives : Goes (own_block strict limit) Braces
  own_block_gives = block_gives (within strict limit) (within_gives strict limit)

  -- ---- signatures

  field_gives : Goes (field_at strict limit) Field
  unfolding field_at
  field_gives ts =
      gives_then (names_give ts) (close_then (close_token class.Colon refl) (close_then (close_maybe Word) close_bound)) (λ ns.
      gives_then (expect_gives class.Colon refl ns.1) (close_then (close_maybe Word) close_bound) (λ c. gives_behind (moved_word c.1) (gives_last _ (bound_gives strict limit (after_mark c.1)))))

  fields_give : Goes (fields_at strict limit) (Maybe (Listed Field))
  unfolding fields_at
  fields_give ts = gives_choice (next_is class.RightBrace ts) (λ _. gives_none (Listed Field) [] ts) (λ _. gives_map (λ us vs t. some t) (gives_listed (field_at strict limit) field_gives ts))

  signatures_sign : (ts : List ParserToken) → Signs Paragraph Signature ts (signatures_at strict limit ts)
  unfolding signatures_at
  signatures_sign ts =
      let close_fields = close_then (close_maybe (Listed Field)) (close_token class.RightBrace refl) in
      let close_opened = close_then (close_token class.LeftBrace refl) close_fields in
      let close_parent = close_then (close_maybe ParentText) close_opened in
      signs_map (λ us vs t. signature_paragraph us vs (signature_text us vs t)) signature_text (signs_behind (moved_qualifiers ts) (
      signs_then (expect_gives class.Sig refl (qualified ts).behind) (close_then close_names close_parent) (λ w.
      signs_then (names_give w.1) close_parent (λ ns.
      signs_then (parent_gives ns.1) close_opened (λ p.
      signs_then (expect_gives class.LeftBrace refl p.1) close_fields (λ o.
      signs_then (fields_give o.1) (close_token class.RightBrace refl) (λ fs.
      signs_closed _ (expect_gives class.RightBrace refl fs.1))))))))

  -- ---- facts, predicates, functions and assertions

  fact_gives : Goes (fact_at strict limit) (Then (Maybe (Token class.Name)) Braces)
  unfolding fact_at
  fact_gives ts = gives_then (label_gives ts) close_braces (λ l. gives_last _ (own_block_gives l.1))

  assertion_gives : Goes (assertion_at strict limit) (Then (Token class.Name) Braces)
  unfolding assertion_at
  assertion_gives ts = gives_then (spelled_gives class.Name refl ts) close_braces (λ n. gives_last _ (own_block_gives n.1))

  parameters_to_give : (c : Class) → is_calm c ≡ true → Goes (parameters_to strict limit c) (ParametersTo c)
  parameters_to_give c calm ts =
      gives_choice (next_is c ts) (λ is. gone _ refl (moved_then (moved_maybe (Listed Declaration) ts) (moved_token c ts is)))
      (λ _. gives_then (gives_map (λ us vs t. some t) (declarations_give (within strict (limit - 1)) (within_gives strict (limit - 1)) false ts)) (close_token c calm) (λ x. gives_last _ (expect_gives c calm x.1)))

  parameters_give : Goes (parameter_list strict limit) Parameters
  unfolding parameter_list
  parameters_give ts =
      gives_choice (next_is class.LeftBracket ts) (λ is. gives_map (λ us vs t. some (this t)) (gives_behind (moved_token class.LeftBracket ts is) (parameters_to_give class.RightBracket refl (after ts))))
      (λ _. gives_choice (next_is class.LeftParen ts) (λ is. gives_map (λ us vs t. some (that t)) (gives_behind (moved_token class.LeftParen ts is) (parameters_to_give class.RightParen refl (after ts))))
      (λ _. gives_none (Or (Then (Token class.LeftBracket) (ParametersTo class.RightBracket)) (Then (Token class.LeftParen) (ParametersTo class.RightParen))) [] ts))

  abbrev close_parameters : Closing Parameters
  close_parameters = close_maybe (Or (Then (Token class.LeftBracket) (ParametersTo class.RightBracket)) (Then (Token class.LeftParen) (ParametersTo class.RightParen)))

  predicate_gives : Goes (predicate_at strict limit) (Then (Token class.Name) (Then Parameters Braces))
  unfolding predicate_at
  predicate_gives ts =
      gives_then (spelled_gives class.Name refl ts) (close_then close_parameters close_braces) (λ n.
      gives_then (parameters_give n.1) close_braces (λ ps. gives_last _ (own_block_gives ps.1)))

  function_gives : Goes (function_at strict limit) (Then (Token class.Name) (Then Parameters (Then (Token class.Colon) (Then (Maybe Word) (Then (Node sum_level) Returned)))))
  unfolding function_at
  function_gives ts =
      let close_result : Closing Returned = close_then (close_token class.LeftBrace refl) (close_then close_sum (close_token class.RightBrace refl)) in
      let close_range = close_then (close_maybe Word) (close_then close_sum close_result) in
      let close_colon = close_then (close_token class.Colon refl) close_range in
      gives_then (spelled_gives class.Name refl ts) (close_then close_parameters close_colon) (λ n.
      gives_then (parameters_give n.1) close_colon (λ ps.
      gives_then (expect_gives class.Colon refl ps.1) close_range (λ c.
      gives_behind (moved_word c.1) (gives_then (sum_gives (within strict limit) (within_gives strict limit) around.Parens (after_mark c.1)) close_result (λ r.
      gives_last _ (braced_gives (within strict limit) (within_gives strict limit) r.1))))))

  -- ---- commands

  target_gives : Goes (target_at strict limit) Target
  unfolding target_at
  target_gives ts =
      gives_choice (next_is class.Name ts && not (next_is class.LeftBrace (after ts)))
      (λ _. gives_map (λ us vs t. this t) (gives_last _ (spelled_gives class.Name refl ts)))
      (λ _. gives_map (λ us vs t. that t) (gives_then (label_gives ts) close_braces (λ l. gives_last _ (own_block_gives l.1))))

  command_gives : (k : CommandKind) (p : Place) → Goes (command_at strict limit k p) Command
  unfolding command_at
  command_gives k p ts =
      gives_then (target_gives ts) (close_then (close_maybe ScopeText) (close_maybe ExpectedText)) (λ t.
      gives_then (scope_gives t.1) (close_maybe ExpectedText) (λ s. gives_last _ (expected_gives s.1)))

  pub paragraph_signs : (ts : List ParserToken) → Signs Paragraph Signature ts (paragraph_at strict limit ts)
  unfolding paragraph_at
  paragraph_signs ts =
      signs_choice (next_is class.Fact ts) (λ is. plainly (gives_map fact_text (gives_behind (moved_token class.Fact ts is) (fact_gives (after ts)))))
      (λ _. signs_choice (next_is class.Pred ts) (λ is. plainly (gives_map predicate_text (gives_behind (moved_token class.Pred ts is) (predicate_gives (after ts)))))
      (λ _. signs_choice (next_is class.Fun ts) (λ is. plainly (gives_map function_text (gives_behind (moved_token class.Fun ts is) (function_gives (after ts)))))
      (λ _. signs_choice (next_is class.Assert ts) (λ is. plainly (gives_map assertion_text (gives_behind (moved_token class.Assert ts is) (assertion_gives (after ts)))))
      (λ _. signs_choice (next_is class.Run ts) (λ is. plainly (gives_map (command_text kind.Run) (gives_behind (moved_token class.Run ts is) (command_gives kind.Run (place_at ts) (after ts)))))
      (λ _. signs_choice (next_is class.Check ts) (λ is. plainly (gives_map (command_text kind.Check) (gives_behind (moved_token class.Check ts is) (command_gives kind.Check (place_at ts) (after ts)))))
      (λ _. signatures_sign ts))))))
