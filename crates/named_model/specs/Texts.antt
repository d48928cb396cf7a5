-- Texts, read by the definitions of the lexer and the parser, and what is told of their names: for rows that the check works
-- out.
use Rattle.std.specs.Prelude.{ℕ, List, Option, Some, None, Result, Ok, Err, option_map, option_and_then}
use Rattle.alloy_lex.specs.declared.token.Place.{Place}
use Rattle.alloy_lex.specs.Words as words
use Rattle.alloy_lex.specs.Fronts as fronts
use Rattle.alloy_lex.specs.Tokens as tokens
use Rattle.alloy_syntax.specs.Class as class
use Rattle.alloy_syntax.specs.Readers as readers
use Rattle.alloy_syntax.specs.Nodes as nodes
use Rattle.alloy_syntax.specs.Bounds as bounds
use Rattle.alloy_syntax.specs.Paragraphs as paragraphs
use Rattle.alloy_syntax.specs.ParserTokens.{seen_all}
use Rattle.alloy_syntax.specs.Tree.{ModelTree}
use Rattle.named_model.specs.declared.fault.NameFault.{NameFault}
use Rattle.named_model.specs.Answers.{first_in}
use Rattle.named_model.specs.Faults.{faults_in}

abbrev pub found : {A F : Type 0} → Result A F → Option A
found (Ok x) = Some x
found (Err e) = None

-- the tree of a text, if it is a model's
unfoldable pub tree_of : List ℕ → Option ModelTree
unfolding words.is_word words.words_of words.symbol_len fronts.comment_len fronts.number_from fronts.second_len fronts.front_of tokens.after_bytes tokens.step_of tokens.tokens_from class.class_in class.class_of class.is_class readers.next_is readers.expect readers.spelled_at readers.number_at readers.is_mark readers.mark_at readers.after_mark readers.repeated readers.others readers.listed readers.names_at readers.colon_after_names nodes.in_braces nodes.in_brackets_too nodes.begins_primary nodes.is_tightening nodes.begins_tight nodes.begins_sum nodes.is_counting nodes.begins_node nodes.begins nodes.may_be_block nodes.is_comprehension nodes.stop_at nodes.is_inner nodes.block_over nodes.block_tree nodes.paren_over nodes.is_constant nodes.constant_of nodes.primary_over nodes.tightening_of nodes.behind_prefix nodes.tight_over nodes.arguments_over nodes.brackets_over nodes.begins_step nodes.step_over nodes.path_over nodes.begins_link nodes.operator_of nodes.link_over nodes.chained nodes.restrict_over nodes.begins_arrow nodes.arrow_over nodes.arrows_over nodes.meet_over nodes.override_over nodes.size_over nodes.sum_over nodes.braced_over nodes.counting_of nodes.counted_over nodes.is_plain_comparison nodes.begins_comparison nodes.comparison_of nodes.negated_comparing nodes.comparing_at nodes.comparison_over nodes.begins_declaration nodes.quantifier_of nodes.negation_over nodes.and_over nodes.implied_over nodes.implication_over nodes.iff_over nodes.node_over nodes.is_single nodes.one_name nodes.variable_names nodes.variables_over nodes.declaration_over nodes.another_declaration nodes.more_declarations nodes.declarations_over nodes.body_over nodes.quantified_over nodes.binding_over nodes.bindings_over nodes.let_over nodes.inside_over nodes.within bounds.is_whole bounds.word_round bounds.operand_in bounds.standing_beside bounds.word_beside bounds.side_over bounds.begins_bound_arrow bounds.bound_arrow_over bounds.more_bound_arrows bounds.bound_arrows_over bounds.operand_over bounds.bound_over bounds.begins_bound bounds.bound_within paragraphs.field_at paragraphs.fields_at paragraphs.parent_at paragraphs.is_qualifier paragraphs.qualifier_at paragraphs.qualified paragraphs.signatures_at paragraphs.fact_at paragraphs.parameter_list paragraphs.predicate_at paragraphs.function_at paragraphs.assertion_at paragraphs.entry_at paragraphs.entries_at paragraphs.exceptions_at paragraphs.has_default paragraphs.scope_at paragraphs.expected_at paragraphs.label_at paragraphs.target_at paragraphs.command_at paragraphs.paragraph_at paragraphs.is_left paragraphs.heading_at paragraphs.ordering_at paragraphs.open_at paragraphs.model_at
tree_of text = option_and_then (λ ts. found (paragraphs.model_of (seen_all ts))) (found (tokens.tokens_of text))

-- what is told of the names of a text that is a model's
abbrev pub told_of : List ℕ → Option (Option NameFault)
told_of text = option_map (λ tree. first_in (faults_in tree)) (tree_of text)

-- a fault on the first line, at that column
abbrev pub at : (Place → NameFault) → ℕ → Option NameFault
at fault column = Some (fault (record { line = 1; column = column }))
