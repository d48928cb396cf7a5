-- Bounds, paragraphs and models: reading stops among the tokens.
use Rattle.std.proofs.Common.{◌≡◌, inl, inr, zero, suc, ℕ, ◌-◌, Bool, true, false, not, ◌&&◌, if◌then◌else◌, List, Option, Some, None, Result, Err, codes, bytes_eq, refl, sym, subst, ◌∙◌}
use Rattle.alloy_lex.specs.declared.token.Place.{Place}
use Rattle.alloy_syntax.specs.declared.class.Class.{Class}
use Rattle.alloy_syntax.specs.declared.class.Class.TheVariants as class
use Rattle.alloy_syntax.specs.declared.reading.Form.TheVariants as form
use Rattle.alloy_syntax.specs.declared.reading.Around.TheVariants as around
use Rattle.alloy_syntax.specs.declared.tree.CommandKind.{CommandKind}
use Rattle.alloy_syntax.specs.declared.tree.CommandKind.TheVariants as kind
use Rattle.alloy_syntax.specs.declared.parser_token.ParserToken.{ParserToken}
use Rattle.alloy_syntax.specs.Tree.{BoundArrowTree, ModelTree}
use Rattle.alloy_syntax.specs.Readers.{ParseStopView, refused, too_deep, unsupported, next_is, after, place_at, name_at, is_mark, after_mark}
use Rattle.alloy_syntax.specs.Bounds.{Bounded, Standing, whole, part, beside, BoundReader, is_whole, word_round, operand_in, standing_beside, word_beside, refuse_word, side_over, begins_bound_arrow, bound_arrow_over, more_bound_arrows, bound_arrows_over, operand_over, bound_over, begins_bound, bound_within}
use Rattle.alloy_syntax.specs.Nodes.{within}
use Rattle.alloy_syntax.specs.Paragraphs.{own_block, field_at, fields_at, parent_at, after_qualifier, after_abstract, is_qualifier, qualified, signatures_at, label_at, fact_at, parameters_to, parameter_list, predicate_at, function_at, assertion_at, entry_at, entries_at, exceptions_at, has_default, scope_at, expected_at, target_at, command_at, paragraph_at, is_left, heading_at, ordering_at, open_at, model_at}
use Rattle.alloy_grammar.proofs.Results.{either, no_success}
use Rattle.alloy_grammar.specs.Faults.Stops.{unread, AreLast}
use Rattle.alloy_grammar.proofs.Faults.LastTokens.{Among, LeavesLast, Keeps, read, stops, all_last, after_last, choice_last, after_mark_last, among_then, among_choice, expect_lands, spelled_lands, number_lands, many_lands, listed_lands, names_land}
use Rattle.alloy_grammar.proofs.Faults.NodesAmong.{block_lands, sum_lands, braced_lands, declarations_land, within_lands}

-- ---- bounds, and the words that may not stand in them

-- a word stands among the tokens
abbrev pub WordAmong : List ParserToken → Option (List ParserToken) → Type 0
WordAmong base None = Unit {0}
WordAmong base (Some word) = AreLast base word

abbrev pub StandsAmong : List ParserToken → Standing → Type 0
StandsAmong base whole = Unit {0}
StandsAmong base part = Unit {0}
StandsAmong base (beside word) = AreLast base word

abbrev pub BoundLeaves : List ParserToken → Bounded × List ParserToken → Type 0
BoundLeaves base x = AreLast base x.1 × WordAmong base x.0.marked

abbrev pub BoundLands : List ParserToken → Result (Bounded × List ParserToken) ParseStopView → Type 0
BoundLands base r = Among base (BoundLeaves base) r

abbrev pub BoundKeeps : List ParserToken → BoundReader → Type 0
BoundKeeps base j = (s : Standing) → StandsAmong base s → (ts : List ParserToken) → AreLast base ts → BoundLands base (j s ts)

abbrev Passed : Unit {0} → Type 0
Passed u = Unit {0}

module _ (base : List ParserToken) where
  word_choice : (test : Bool) (u v : Option (List ParserToken)) → WordAmong base u → WordAmong base v → WordAmong base (if test then u else v)
  word_choice true u v e f = e
  word_choice false u v e f = f

  beside_among : (ts : List ParserToken) → AreLast base ts → WordAmong base (word_beside ts)
  unfolding word_beside
  beside_among ts e = word_choice (is_mark ts) (Some ts) (if is_mark (after ts) then Some (after ts) else None) e (word_choice (is_mark (after ts)) (Some (after ts)) None (after_last base ts e) tt)

  round_among : (s : Standing) → StandsAmong base s → WordAmong base (word_round s)
  unfolding word_round
  round_among whole e = tt
  round_among part e = tt
  round_among (beside word) e = e

  side_among : (w : Option (List ParserToken)) → WordAmong base w → StandsAmong base (standing_beside w)
  unfolding standing_beside
  side_among None e = tt
  side_among (Some word) e = e

  operand_among : (s : Standing) → StandsAmong base s → StandsAmong base (operand_in s)
  unfolding operand_in
  operand_among whole e = tt
  operand_among part e = tt
  operand_among (beside word) e = e

  pub word_lands : (strict : Bool) (w : Option (List ParserToken)) → WordAmong base w → Among base Passed (refuse_word strict w)
  word_lands strict None e = read tt refl tt
  word_lands strict (Some word) e = among_choice strict (stops (unsupported form.ArrowMultiplicity word) refl e) (read tt refl tt)

  module _ (strict : Bool) (j : BoundReader) (below : BoundKeeps base j) where
    pub side_lands : BoundKeeps base (side_over j)
    unfolding side_over
    side_lands s w ts e =
        among_choice (next_is class.LeftParen ts)
        (among_then (below s w (after ts) (after_last base ts e)) (λ x f. among_then (expect_lands base class.RightParen x.1 f.0) (λ c g. read _ refl (g, f.1))))
        (among_then (spelled_lands base class.Name ts e) (λ x f. read _ refl (f, tt)))

    pub arrow_lands : (s : Standing) → StandsAmong base s → (marked : Option (List ParserToken)) → WordAmong base marked → (has_arrow : Bool) → Keeps base (bound_arrow_over strict j s marked has_arrow)
    unfolding bound_arrow_over
    arrow_lands s w marked m has_arrow ts e =
        among_then (expect_lands base class.Arrow (after_mark ts) (after_mark_last base ts e)) (λ a f.
        among_then (word_lands strict (word_round s) (round_among s w)) (λ _ _.
        among_then (word_lands strict marked m) (λ _ _.
        among_then (among_choice (is_whole s && not has_arrow) (read tt refl tt) (word_lands strict (word_beside ts) (beside_among ts e))) (λ _ _.
        among_then (side_lands (standing_beside (word_beside ts)) (side_among (word_beside ts) (beside_among ts e)) (after_mark a.1) (after_mark_last base a.1 f)) (λ x g. read _ refl g.0)))))

    pub arrows_land : BoundKeeps base (bound_arrows_over strict j)
    unfolding bound_arrows_over more_bound_arrows
    arrows_land s w ts e = among_then (side_lands s w ts e) (λ x f. among_choice (begins_bound_arrow x.1)
        (among_then (arrow_lands s w x.0.marked f.1 x.0.has_arrow x.1 f.0) (λ a g.
        among_then {P = LeavesLast {A = List BoundArrowTree} base} (among_then (many_lands base begins_bound_arrow (bound_arrow_over strict j s (word_beside x.1) true) (arrow_lands s w (word_beside x.1) (beside_among x.1 f.0) true) a.1 g) (λ as' h. read _ refl h)) (λ m h.
        read _ refl (h, beside_among x.1 f.0))))
        (read _ refl f))

    pub operand_lands : (s : Standing) → StandsAmong base s → Keeps base (operand_over strict j s)
    unfolding operand_over
    operand_lands s w ts e = among_then (arrows_land (operand_in s) (operand_among s w) (after ts) (after_last base ts e)) (λ x f. read _ refl f.0)

    pub bound_lands : BoundKeeps base (bound_over strict j)
    unfolding bound_over
    bound_lands s w ts e = among_then (arrows_land s w ts e) (λ x f. among_choice (next_is class.Plus x.1)
        (among_then (word_lands strict x.0.marked f.1) (λ _ _. among_then (many_lands base (next_is class.Plus) (operand_over strict j s) (operand_lands s w) x.1 f.0) (λ m g. read _ refl (g, tt))))
        (read _ refl f))

  pub bound_within_lands : (strict : Bool) (room : ℕ) → BoundKeeps base (bound_within strict room)
  unfolding bound_within
  bound_within_lands strict zero s w ts e = among_choice (begins_bound ts) (stops (too_deep ts) refl e) (stops (refused ts) refl e)
  bound_within_lands strict (suc room) s w ts e = bound_lands strict (bound_within strict room) (bound_within_lands strict room) s w ts e

-- ---- paragraphs

module _ (base : List ParserToken) where
  pub name_lands : Keeps base name_at
  name_lands = spelled_lands base class.Name

  pub parent_lands : Keeps base parent_at
  unfolding parent_at
  parent_lands ts e =
      among_choice (next_is class.Extends ts) (among_then (name_lands (after ts) (after_last base ts e)) (λ x f. read _ refl f))
      (among_choice (next_is class.In ts) (among_then (name_lands (after ts) (after_last base ts e)) (λ x f. read _ refl f))
      (read _ refl e))

  pub after_qualifier_last : (ts : List ParserToken) → AreLast base ts → AreLast base (after_qualifier ts)
  after_qualifier_last ts e = choice_last base (is_qualifier ts) (after ts) ts (after_last base ts e) e

  pub after_abstract_last : (ts : List ParserToken) → AreLast base ts → AreLast base (after_abstract ts)
  after_abstract_last ts e = choice_last base (next_is class.Abstract ts) (after ts) ts (after_last base ts e) e

  pub qualified_last : (ts : List ParserToken) → AreLast base ts → AreLast base (qualified ts).behind
  unfolding qualified
  qualified_last ts e =
      elim (either (next_is class.Abstract ts)) [
        | inl is ↦ rw is (after_qualifier_last (after ts) (after_last base ts e))
        | inr fails ↦ rw fails (after_abstract_last (after_qualifier ts) (after_qualifier_last ts e))
      ]

  pub label_lands : Keeps base label_at
  unfolding label_at
  label_lands ts e = among_choice (next_is class.Name ts) (among_then (name_lands ts e) (λ x f. read _ refl f)) (read _ refl e)

  pub number_or_not : Keeps base expected_at
  unfolding expected_at
  number_or_not ts e = among_choice (next_is class.Expect ts) (among_then (number_lands base (after ts) (after_last base ts e)) (λ n f. read _ refl f)) (read _ refl e)

  pub entry_lands : Keeps base entry_at
  unfolding entry_at
  entry_lands ts e = among_then (number_lands base (if next_is class.Exactly ts then after ts else ts) (choice_last base (next_is class.Exactly ts) (after ts) ts (after_last base ts e) e)) (λ n f. among_then (name_lands n.1 f) (λ x g. read _ refl g))

  pub entries_land : Keeps base entries_at
  unfolding entries_at
  entries_land = listed_lands base entry_at entry_lands

  pub exceptions_land : Keeps base exceptions_at
  unfolding exceptions_at
  exceptions_land ts e = among_choice (next_is class.But ts) (entries_land (after ts) (after_last base ts e)) (read _ refl e)

  pub scope_lands : Keeps base scope_at
  unfolding scope_at
  scope_lands ts e = among_choice (next_is class.For ts)
      (among_choice (has_default (after ts)) (among_then (number_lands base (after ts) (after_last base ts e)) (λ n f. among_then (exceptions_land n.1 f) (λ es g. read _ refl g)))
      (among_then (entries_land (after ts) (after_last base ts e)) (λ es g. read _ refl g)))
      (read _ refl e)

  pub heading_lands : Keeps base heading_at
  unfolding heading_at
  heading_lands ts e = among_choice (next_is class.Module ts) (among_then (name_lands (after ts) (after_last base ts e)) (λ x f. read _ refl f)) (read _ refl e)

  pub ordering_lands : Keeps base ordering_at
  unfolding ordering_at
  ordering_lands ts e = among_then (spelled_lands base class.Path ts e) (λ x f. among_choice (bytes_eq x.0.text (codes "util/ordering")) (read _ refl f) (stops (unsupported form.Open ts) refl e))

  pub open_lands : Keeps base open_at
  unfolding open_at
  open_lands ts e =
      among_then (ordering_lands (after ts) (after_last base ts e)) (λ p f. among_then (expect_lands base class.LeftBracket p.1 f) (λ o g. among_then (name_lands o.1 g) (λ s h.
      among_then (expect_lands base class.RightBracket s.1 h) (λ c k. among_then (expect_lands base class.As c.1 k) (λ w l. among_then (name_lands w.1 l) (λ n m. read _ refl m))))))

  module _ (strict : Bool) (limit : ℕ) where
    pub own_block_lands : Keeps base (own_block strict limit)
    own_block_lands = block_lands base (within strict limit) (within_lands base strict limit)

    pub field_lands : Keeps base (field_at strict limit)
    unfolding field_at
    field_lands ts e = among_then (names_land base ts e) (λ ns f. among_then (expect_lands base class.Colon ns.1 f) (λ c g. among_then (bound_within_lands base strict limit whole tt (after_mark c.1) (after_mark_last base c.1 g)) (λ x h. read _ refl h.0)))

    pub fields_land : Keeps base (fields_at strict limit)
    unfolding fields_at
    fields_land ts e = among_choice (next_is class.RightBrace ts) (read _ refl e) (listed_lands base (field_at strict limit) field_lands ts e)

    pub signatures_land : Keeps base (signatures_at strict limit)
    unfolding signatures_at
    signatures_land ts e =
        among_then (expect_lands base class.Sig (qualified ts).behind (qualified_last ts e)) (λ w f. among_then (names_land base w.1 f) (λ ns g. among_then (parent_lands ns.1 g) (λ p h.
        among_then (expect_lands base class.LeftBrace p.1 h) (λ o k. among_then (fields_land o.1 k) (λ fs l. among_then (expect_lands base class.RightBrace fs.1 l) (λ c m.
        among_choice (next_is class.LeftBrace c.1) (stops (unsupported form.Appended c.1) refl m) (read _ refl m)))))))

    pub fact_lands : Keeps base (fact_at strict limit)
    unfolding fact_at
    fact_lands ts e = among_then (label_lands ts e) (λ k f. among_then (own_block_lands k.1 f) (λ b g. read _ refl g))

    pub parameters_land : (c : Class) → Keeps base (parameters_to strict limit c)
    parameters_land c ts e = among_choice (next_is c ts) (read _ refl (after_last base ts e))
        (among_then (declarations_land base (within strict (limit - 1)) (within_lands base strict (limit - 1)) false ts e) (λ x f. among_then (expect_lands base c x.1 f) (λ o g. read _ refl g)))

    pub parameter_list_lands : Keeps base (parameter_list strict limit)
    unfolding parameter_list
    parameter_list_lands ts e =
        among_choice (next_is class.LeftBracket ts) (parameters_land class.RightBracket (after ts) (after_last base ts e))
        (among_choice (next_is class.LeftParen ts) (parameters_land class.RightParen (after ts) (after_last base ts e)) (read _ refl e))

    pub predicate_lands : Keeps base (predicate_at strict limit)
    unfolding predicate_at
    predicate_lands ts e = among_then (name_lands ts e) (λ n f. among_then (parameter_list_lands n.1 f) (λ ps g. among_then (own_block_lands ps.1 g) (λ b h. read _ refl h)))

    pub function_lands : Keeps base (function_at strict limit)
    unfolding function_at
    function_lands ts e = among_then (name_lands ts e) (λ n f. among_then (parameter_list_lands n.1 f) (λ ps g. among_then (expect_lands base class.Colon ps.1 g) (λ c h.
        among_then (sum_lands base (within strict limit) (within_lands base strict limit) around.Parens (after_mark c.1) (after_mark_last base c.1 h)) (λ x k.
        among_then (braced_lands base (within strict limit) (within_lands base strict limit) x.1 k) (λ b l. read _ refl l)))))

    pub assertion_lands : Keeps base (assertion_at strict limit)
    unfolding assertion_at
    assertion_lands ts e = among_then (name_lands ts e) (λ n f. among_then (own_block_lands n.1 f) (λ b g. read _ refl g))

    pub target_lands : Keeps base (target_at strict limit)
    unfolding target_at
    target_lands ts e = among_choice (next_is class.Name ts && not (next_is class.LeftBrace (after ts))) (among_then (name_lands ts e) (λ x f. read _ refl f))
        (among_then (label_lands ts e) (λ l f. among_then (own_block_lands l.1 f) (λ b g. read _ refl g)))

    pub command_lands : (k : CommandKind) (p : Place) → Keeps base (command_at strict limit k p)
    unfolding command_at
    command_lands k p ts e = among_then (target_lands ts e) (λ t f. among_then (scope_lands t.1 f) (λ s g. among_then (number_or_not s.1 g) (λ n h. read _ refl h)))

    pub paragraph_lands : Keeps base (paragraph_at strict limit)
    unfolding paragraph_at
    paragraph_lands ts e =
        among_choice (next_is class.Fact ts) (fact_lands (after ts) (after_last base ts e))
        (among_choice (next_is class.Pred ts) (predicate_lands (after ts) (after_last base ts e))
        (among_choice (next_is class.Fun ts) (function_lands (after ts) (after_last base ts e))
        (among_choice (next_is class.Assert ts) (assertion_lands (after ts) (after_last base ts e))
        (among_choice (next_is class.Run ts) (command_lands kind.Run (place_at ts) (after ts) (after_last base ts e))
        (among_choice (next_is class.Check ts) (command_lands kind.Check (place_at ts) (after ts) (after_last base ts e))
        (signatures_land ts e))))))

-- ---- models

abbrev Whole : ModelTree → Type 0
Whole m = Unit {0}

pub model_lands : (strict : Bool) (limit : ℕ) (ts : List ParserToken) → Among ts Whole (model_at strict limit ts)
unfolding model_at
model_lands strict limit ts =
    among_then (heading_lands ts ts (all_last ts)) (λ h e. among_then (many_lands ts (next_is class.Open) open_at (open_lands ts) h.1 e) (λ o f.
    among_then (many_lands ts is_left (paragraph_at strict limit) (paragraph_lands ts strict limit) o.1 f) (λ ps g. read _ refl tt)))

abbrev failed : ParseStopView → Result ModelTree ParseStopView
failed d = Err d

stop_is : (d e : ParseStopView) → failed d ≡ failed e → d ≡ e
stop_is d e same = cc

pub stop_among : (strict : Bool) (limit : ℕ) (ts : List ParserToken) (d : ParseStopView) → model_at strict limit ts ≡ Err d → AreLast ts (unread d)
stop_among strict limit ts d e =
    elim (model_lands strict limit ts) [
      | read m f p ↦ no_success d m (sym e ∙ f)
      | stops c f last ↦ subst (λ (s : ParseStopView). AreLast ts (unread s)) (stop_is c d (sym f ∙ e)) last
    ]
