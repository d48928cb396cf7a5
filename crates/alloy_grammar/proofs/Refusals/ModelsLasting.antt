-- Models where more constructs may nest, and forms may pass: reading stops nowhere before the first fault, and behind what lay too deep.
use Rattle.std.proofs.Common.{◌≡◌, ◌≤◌, ◌<◌, ◌-◌, inl, inr, ℕ, Bool, true, false, not, ◌&&◌, List, ◌∷◌, length, Result, Err, refl, sym, ap, subst, ◌∙◌, arith}
use Rattle.std.proofs.lemmas.Bool.{cases_lt}
use Rattle.std.proofs.lemmas.List.{length-append}
use Rattle.alloy_lex.specs.declared.token.Place.{Place}
use Rattle.alloy_syntax.specs.declared.class.Class.{Class}
use Rattle.alloy_syntax.specs.declared.class.Class.TheVariants as class
use Rattle.alloy_syntax.specs.declared.reading.Around.TheVariants as around
use Rattle.alloy_syntax.specs.declared.tree.CommandKind.{CommandKind}
use Rattle.alloy_syntax.specs.declared.tree.CommandKind.TheVariants as kind
use Rattle.alloy_syntax.specs.declared.parser_token.ParserToken.{ParserToken}
use Rattle.alloy_syntax.specs.Tree.{ModelTree}
use Rattle.alloy_syntax.specs.Readers.{ParseStopView, refused, too_deep, unsupported, next_is, after, place_at, after_mark}
use Rattle.alloy_syntax.specs.Nodes.{within}
use Rattle.alloy_syntax.specs.Paragraphs.{own_block, field_at, fields_at, qualified, signatures_at, fact_at, parameters_to, parameter_list, predicate_at, function_at, assertion_at, target_at, command_at, paragraph_at, is_left, open_at, model_at}
use Rattle.alloy_grammar.proofs.Results.{no_success}
use Rattle.alloy_grammar.specs.Faults.Stops.{unread, AreLast}
use Rattle.alloy_grammar.proofs.Faults.LastTokens.{Among, read, stops, all_last, after_mark_last, among_then, among_choice, expect_lands}
use Rattle.alloy_grammar.proofs.Faults.NodesAmong as nodes
use Rattle.alloy_grammar.proofs.Faults.ModelsAmong as among
use Rattle.alloy_grammar.proofs.Faults.Models.{stays, roomier, passing}
use Rattle.alloy_grammar.proofs.Refusals.BoundsLasting.{whole_lasts}
use Rattle.alloy_grammar.proofs.Refusals.ShallowReadings.{calm, never_deep, expect_calm, spelled_calm, many_calm, names_calm, parent_calm, label_calm, scope_calm, expected_calm, heading_calm, open_calm}
use Rattle.alloy_grammar.proofs.Refusals.Lasting.{Later, Outlasts, Lasting, same, later, Room, alike, both_read, lasts_on, lasts_then, lasts_choice, many_lasts, listed_lasts}
use Rattle.alloy_grammar.proofs.Refusals.NodesLasting.{Below, block_lasts, sum_lasts, braced_lasts, declarations_lasts, within_lasts}

-- ---- paragraphs

abbrev Whole : List ParserToken → ModelTree → Type 0
Whole ts t = Unit {0}

-- The brackets of parameters are the first that nest, so that one construct less may nest in them.
module _ (strict deeper : Bool) (m n : ℕ) (room : Room deeper m n) (fewer : Room deeper (m - 1) (n - 1)) where
  below : Below strict deeper (within strict m) (within false n)
  below = within_lasts strict deeper m n room

  own_block_lasts : Lasting strict deeper (own_block strict m) (own_block false n)
  own_block_lasts = block_lasts strict deeper (within strict m) (within false n) below (λ base. nodes.within_lands base false n)

  field_lasts : Lasting strict deeper (field_at strict m) (field_at false n)
  unfolding field_at
  field_lasts ts = lasts_on (names_calm ts) (λ ns. lasts_on (expect_calm class.Colon ns.1) (λ c. lasts_then (whole_lasts strict deeper m n room (after_mark c.1)) (λ x. both_read) (λ base x e. read _ refl e)))

  fields_lasts : Lasting strict deeper (fields_at strict m) (fields_at false n)
  unfolding fields_at
  fields_lasts ts = lasts_choice (next_is class.RightBrace ts) both_read (listed_lasts (field_at strict m) (field_at false n) (λ base. among.field_lands base false n) field_lasts ts)

  signatures_lasts : Lasting strict deeper (signatures_at strict m) (signatures_at false n)
  unfolding signatures_at
  signatures_lasts ts =
      lasts_on (expect_calm class.Sig (qualified ts).behind) (λ w. lasts_on (names_calm w.1) (λ ns. lasts_on (parent_calm ns.1) (λ p. lasts_on (expect_calm class.LeftBrace p.1) (λ o. lasts_then (fields_lasts o.1) (λ fs. lasts_on (expect_calm class.RightBrace fs.1) (λ c. lasts_choice (next_is class.LeftBrace c.1) (alike (calm refl)) both_read))
      (λ base fs e. among_then (expect_lands base class.RightBrace fs.1 e) (λ c f. among_choice (next_is class.LeftBrace c.1) (stops _ refl f) (read _ refl f)))))))

  fact_lasts : Lasting strict deeper (fact_at strict m) (fact_at false n)
  unfolding fact_at
  fact_lasts ts = lasts_on (label_calm ts) (λ k. lasts_then (own_block_lasts k.1) (λ b. both_read) (λ base b e. read _ refl e))

  parameters_lasts : (c : Class) → Lasting strict deeper (parameters_to strict m c) (parameters_to false n c)
  parameters_lasts c ts =
      lasts_choice (next_is c ts) both_read
      (lasts_then (declarations_lasts strict deeper (within strict (m - 1)) (within false (n - 1)) (within_lasts strict deeper (m - 1) (n - 1) fewer) (λ base. nodes.within_lands base false (n - 1)) ts) (λ x. lasts_on (expect_calm c x.1) (λ o. both_read))
      (λ base x e. among_then (expect_lands base c x.1 e) (λ o f. read _ refl f)))

  parameter_list_lasts : Lasting strict deeper (parameter_list strict m) (parameter_list false n)
  unfolding parameter_list
  parameter_list_lasts ts = lasts_choice (next_is class.LeftBracket ts) (parameters_lasts class.RightBracket (after ts)) (lasts_choice (next_is class.LeftParen ts) (parameters_lasts class.RightParen (after ts)) both_read)

  predicate_lasts : Lasting strict deeper (predicate_at strict m) (predicate_at false n)
  unfolding predicate_at
  predicate_lasts ts =
      lasts_on (spelled_calm class.Name ts) (λ k. lasts_then (parameter_list_lasts k.1) (λ ps. lasts_then (own_block_lasts ps.1) (λ b. both_read) (λ base b e. read _ refl e))
      (λ base ps e. among_then (among.own_block_lands base false n ps.1 e) (λ b f. read _ refl f)))

  function_lasts : Lasting strict deeper (function_at strict m) (function_at false n)
  unfolding function_at
  function_lasts ts =
      lasts_on (spelled_calm class.Name ts) (λ k. lasts_then (parameter_list_lasts k.1) (λ ps. lasts_on (expect_calm class.Colon ps.1) (λ c.
      lasts_then (sum_lasts strict deeper (within strict m) (within false n) below (λ base. nodes.within_lands base false n) around.Parens (after_mark c.1)) (λ x. lasts_then (braced_lasts strict deeper (within strict m) (within false n) below (λ base. nodes.within_lands base false n) x.1) (λ b. both_read) (λ base b e. read _ refl e))
      (λ base x e. among_then (nodes.braced_lands base (within false n) (nodes.within_lands base false n) x.1 e) (λ b f. read _ refl f))))
      (λ base ps e. among_then (expect_lands base class.Colon ps.1 e) (λ c f. among_then (nodes.sum_lands base (within false n) (nodes.within_lands base false n) around.Parens (after_mark c.1) (after_mark_last base c.1 f)) (λ x g.
      among_then (nodes.braced_lands base (within false n) (nodes.within_lands base false n) x.1 g) (λ b h. read _ refl h)))))

  assertion_lasts : Lasting strict deeper (assertion_at strict m) (assertion_at false n)
  unfolding assertion_at
  assertion_lasts ts = lasts_on (spelled_calm class.Name ts) (λ k. lasts_then (own_block_lasts k.1) (λ b. both_read) (λ base b e. read _ refl e))

  target_lasts : Lasting strict deeper (target_at strict m) (target_at false n)
  unfolding target_at
  target_lasts ts =
      lasts_choice (next_is class.Name ts && not (next_is class.LeftBrace (after ts))) (lasts_on (spelled_calm class.Name ts) (λ x. both_read)) (lasts_on (label_calm ts) (λ l. lasts_then (own_block_lasts l.1) (λ b. both_read) (λ base b e. read _ refl e)))

  command_lasts : (k : CommandKind) (p : Place) → Lasting strict deeper (command_at strict m k p) (command_at false n k p)
  unfolding command_at
  command_lasts k p ts =
      lasts_then (target_lasts ts) (λ t. lasts_on (scope_calm t.1) (λ s. lasts_on (expected_calm s.1) (λ x. both_read))) (λ base t e. among_then (among.scope_lands base t.1 e) (λ s f. among_then (among.number_or_not base s.1 f) (λ x g. read _ refl g)))

  paragraph_lasts : Lasting strict deeper (paragraph_at strict m) (paragraph_at false n)
  unfolding paragraph_at
  paragraph_lasts ts =
      lasts_choice (next_is class.Fact ts) (fact_lasts (after ts))
      (lasts_choice (next_is class.Pred ts) (predicate_lasts (after ts))
      (lasts_choice (next_is class.Fun ts) (function_lasts (after ts))
      (lasts_choice (next_is class.Assert ts) (assertion_lasts (after ts))
      (lasts_choice (next_is class.Run ts) (command_lasts kind.Run (place_at ts) (after ts))
      (lasts_choice (next_is class.Check ts) (command_lasts kind.Check (place_at ts) (after ts))
      (signatures_lasts ts))))))

  model_lasts : (ts : List ParserToken) → Outlasts strict deeper Whole (model_at strict m ts) (model_at false n ts)
  unfolding model_at
  model_lasts ts =
      lasts_on (heading_calm ts) (λ h. lasts_on (many_calm (next_is class.Open) open_at open_calm h.1) (λ o.
      lasts_then (many_lasts is_left (paragraph_at strict m) (paragraph_at false n) (λ base. among.paragraph_lands base false n) paragraph_lasts o.1) (λ ps. both_read) (λ base ps e. read _ refl tt)))

-- ---- faults

abbrev failed : ParseStopView → Result ModelTree ParseStopView
failed d = Err d

stop_is : (d e : ParseStopView) → failed d ≡ failed e → d ≡ e
stop_is d e equal = cc

stops_among : {P : ModelTree → Type 0} (base : List ParserToken) (d : ParseStopView) {r : Result ModelTree ParseStopView} → Among base P r → r ≡ Err d → AreLast base (unread d)
stops_among base d h f =
    elim h [
      | read t k p ↦ no_success d t (sym f ∙ k)
      | stops x k last ↦ subst (λ (y : ParseStopView). AreLast base (unread y)) (stop_is x d (sym k ∙ f)) last
    ]

-- where strict reading stops, reading stops there or behind it, if it stops
-- where strict reading stops, reading stops there or behind it, if it stops
pub first_of_all : (limit more : ℕ) → limit ≤ more → (ts : List ParserToken) (d c : ParseStopView) → model_at true limit ts ≡ Err d → model_at false more ts ≡ Err c → AreLast (unread d) (unread c)
first_of_all limit more less ts d c e f =
    elim (model_lasts true false limit more less (omega (arith, less)) ts) [
      | same equal shallow ↦ subst (λ (x : ParseStopView). AreLast (unread d) (unread x)) (stop_is d c (sym e ∙ (equal ∙ f))) (all_last (unread d))
      | later b g h ↦ (
          let here = stop_is b d (sym g ∙ e) in
          subst (λ (x : ParseStopView). AreLast (unread x) (unread c)) here (stops_among (unread b) c h f))
    ]

-- ---- what lies too deep

-- reading stops behind the first of the tokens
abbrev StopsBehind : List ParserToken → ParseStopView → Type 0
StopsBehind rest d = (t : ParserToken) × (us : List ParserToken) × (rest ≡ t ∷ us) × AreLast us (unread d)

lands_behind : (r : Result ModelTree ParseStopView) (rest : List ParserToken) (b d : ParseStopView) → b ≡ too_deep rest → Later false Whole b r → r ≡ Err d → StopsBehind rest d
lands_behind r rest b d deep on f = (on.0, on.1, ap unread (sym deep) ∙ on.2, stops_among on.1 d on.3 f)

behind_none : (t : ParserToken) (us : List ParserToken) → AreLast us (t ∷ us) → ⊥
behind_none t us last = (let longer = ap length last.1 in let parts = length-append last.0 (t ∷ us) in omega (arith, longer, parts))

not_there : (rest : List ParserToken) (d : ParseStopView) → StopsBehind rest d → unread d ≡ rest → ⊥
not_there rest d on there = behind_none on.0 on.1 (subst (λ (us : List ParserToken). AreLast on.1 us) (there ∙ on.2) on.3)

-- where forms may pass, and a token lies too deep, it does so under each greater limit, or isn't at fault
deep_alone : (limit more : ℕ) → limit ≤ more → (ts rest : List ParserToken) (d : ParseStopView) → model_at false limit ts ≡ Err (too_deep rest) → model_at false more ts ≡ Err d → unread d ≡ rest → d ≡ too_deep rest
deep_alone limit more less ts rest d e f there =
    elim (model_lasts false false limit more less (omega (arith, less)) ts) [
      | same equal shallow ↦ stop_is d (too_deep rest) (sym f ∙ (sym equal ∙ e))
      | later b g on ↦ absurd (not_there rest d (lands_behind (model_at false more ts) rest b d (stop_is b (too_deep rest) (sym g ∙ e)) on f) there)
    ]

-- under a lesser limit, a fault of another kind would stand under the greater one too
shallow_alone : (limit less : ℕ) → less ≤ limit → (ts rest : List ParserToken) (d : ParseStopView) → model_at false limit ts ≡ Err (too_deep rest) → model_at false less ts ≡ Err d → unread d ≡ rest → d ≡ too_deep rest
shallow_alone limit less lower ts rest (too_deep us) e f there = ap too_deep there
shallow_alone limit less lower ts rest (refused us) e f there = stop_is (refused us) (too_deep rest) (sym (stays (model_at false less ts) (model_at false limit ts) (refused us) refl (roomier false less limit lower ts) f) ∙ e)
shallow_alone limit less lower ts rest (unsupported g us) e f there = stop_is (unsupported g us) (too_deep rest) (sym (stays (model_at false less ts) (model_at false limit ts) (unsupported g us) refl (roomier false less limit lower ts) f) ∙ e)

lenient_alone : (limit other : ℕ) (ts rest : List ParserToken) (d : ParseStopView) → model_at false limit ts ≡ Err (too_deep rest) → model_at false other ts ≡ Err d → unread d ≡ rest → d ≡ too_deep rest
lenient_alone limit other ts rest d e f there =
    elim (cases_lt other limit) [
      | inl lower ↦ shallow_alone limit other (omega (arith, lower)) ts rest d e f there
      | inr less ↦ deep_alone limit other less ts rest d e f there
    ]

-- forms pass in either
lenient_deep : (strict : Bool) (limit : ℕ) (ts rest : List ParserToken) → model_at strict limit ts ≡ Err (too_deep rest) → model_at false limit ts ≡ Err (too_deep rest)
lenient_deep false limit ts rest e = e
lenient_deep true limit ts rest e = stays (model_at true limit ts) (model_at false limit ts) (too_deep rest) refl (passing limit ts) e

pub no_other_there : (strict : Bool) (limit other : ℕ) (ts rest : List ParserToken) (d : ParseStopView) → model_at strict limit ts ≡ Err (too_deep rest) → model_at false other ts ≡ Err d → unread d ≡ rest → d ≡ too_deep rest
no_other_there strict limit other ts rest d e f there = lenient_alone limit other ts rest d (lenient_deep strict limit ts rest e) f there

-- Under each greater limit, reading stops behind what lay too deep. The lesser limit isn't 0: under 0 and 1 alike, nothing may nest
-- in the brackets of parameters.
pub deeper_behind : (strict : Bool) (limit more : ℕ) → 0 < limit → limit < more → (ts rest : List ParserToken) (d : ParseStopView) → model_at strict limit ts ≡ Err (too_deep rest) → model_at false more ts ≡ Err d → StopsBehind rest d
deeper_behind strict limit more some less ts rest d e f =
    let deep = lenient_deep strict limit ts rest e in
    elim (model_lasts false true limit more less (omega (arith, some, less)) ts) [
      | same equal shallow ↦ never_deep rest (shallow refl) deep
      | later b g on ↦ lands_behind (model_at false more ts) rest b d (stop_is b (too_deep rest) (sym g ∙ deep)) on f
    ]
