-- Models under two limits, with forms refused or not.
use Rattle.std.proofs.Common.{◌≡◌, inl, inr, ◌≤◌, ◌<◌, ℕ, ◌+◌, ◌-◌, Bool, true, false, not, IsTrue, ◌&&◌, List, Result, Ok, Err, refl, sym, ap, subst, ◌∙◌, arith}
use Rattle.std.proofs.lemmas.Bool.{cases_lt}
use Rattle.alloy_lex.specs.declared.token.Place.{Place}
use Rattle.alloy_syntax.specs.declared.class.Class.{Class}
use Rattle.alloy_syntax.specs.declared.class.Class.TheVariants as class
use Rattle.alloy_syntax.specs.declared.reading.Around.TheVariants as around
use Rattle.alloy_syntax.specs.declared.reading.Form.{Form}
use Rattle.alloy_syntax.specs.declared.tree.CommandKind.{CommandKind}
use Rattle.alloy_syntax.specs.declared.tree.CommandKind.TheVariants as kind
use Rattle.alloy_syntax.specs.declared.parser_token.ParserToken.{ParserToken}
use Rattle.alloy_syntax.specs.Tree.{ModelTree}
use Rattle.alloy_syntax.specs.Readers.{ParseStopView, refused, too_deep, unsupported, next_is, after, place_at, expect, name_at, after_mark, many, names_at}
use Rattle.alloy_syntax.specs.Nodes.{within}
use Rattle.alloy_syntax.specs.Bounds.{whole}
use Rattle.alloy_syntax.specs.Paragraphs.{own_block, field_at, fields_at, parent_at, qualified, signatures_at, fact_at, parameters_to, parameter_list, predicate_at, function_at, assertion_at, label_at, target_at, command_at, paragraph_at, is_left, heading_at, open_at, model_at}
use Rattle.alloy_grammar.specs.Models.{IsTextOf, depth_of_model, IsPlainModel}
use Rattle.alloy_grammar.proofs.Results.{no_success}
use Rattle.alloy_grammar.proofs.WholeModels.{model_full}
use Rattle.alloy_grammar.proofs.Faults.Follows.{excuses, Follows, same, excused, Relaxed, as_strict, relaxed, Roomier, onward, bind, choice, many_follows, listed_follows}
use Rattle.alloy_grammar.proofs.Faults.Nodes.{Alike, Below, block_follows, sum_follows, braced_follows, declarations_follow}
use Rattle.alloy_grammar.proofs.Faults.Rooms.{within_follows}
use Rattle.alloy_grammar.proofs.Faults.Bounds.{bound_within_follows}

one_less : (deep : Bool) (m n : ℕ) → Roomier deep m n → Roomier deep (m - 1) (n - 1)
one_less deep m n room = (omega (arith, room.0), elim room.1 [ inl d ↦ inl d | inr e ↦ inr (ap (λ (k : ℕ). k - 1) e) ])

module _ (deep forms s t : Bool) (r : Relaxed forms s t) (m n : ℕ) (room : Roomier deep m n) where
  below : Below deep forms (within s m) (within t n)
  below = within_follows deep forms s t r m n room

  own_block_follows : Alike deep forms (own_block s m) (own_block t n)
  own_block_follows ts = block_follows deep forms (within s m) (within t n) below ts

  field_follows : Alike deep forms (field_at s m) (field_at t n)
  unfolding field_at
  field_follows ts = onward (names_at ts) (λ ns. onward (expect class.Colon ns.1) (λ c. bind (bound_within_follows deep forms s t r m n room whole (after_mark c.1)) (λ x. same refl)))

  fields_follow : Alike deep forms (fields_at s m) (fields_at t n)
  unfolding fields_at
  fields_follow ts = choice (next_is class.RightBrace ts) (same refl) (listed_follows (field_at s m) (field_at t n) field_follows ts)

  signatures_follow : Alike deep forms (signatures_at s m) (signatures_at t n)
  unfolding signatures_at
  signatures_follow ts = onward (expect class.Sig (qualified ts).behind) (λ w. onward (names_at w.1) (λ ns. onward (parent_at ns.1) (λ p. onward (expect class.LeftBrace p.1) (λ o. bind (fields_follow o.1) (λ fs. same refl)))))

  fact_follows : Alike deep forms (fact_at s m) (fact_at t n)
  unfolding fact_at
  fact_follows ts = onward (label_at ts) (λ k. bind (own_block_follows k.1) (λ b. same refl))

  parameters_follow : (c : Class) → Alike deep forms (parameters_to s m c) (parameters_to t n c)
  parameters_follow c ts = choice (next_is c ts) (same refl)
      (bind (declarations_follow deep forms (within s (m - 1)) (within t (n - 1)) (within_follows deep forms s t r (m - 1) (n - 1) (one_less deep m n room)) false false (as_strict refl) ts) (λ x. same refl))

  parameter_list_follows : Alike deep forms (parameter_list s m) (parameter_list t n)
  unfolding parameter_list
  parameter_list_follows ts = choice (next_is class.LeftBracket ts) (parameters_follow class.RightBracket (after ts)) (choice (next_is class.LeftParen ts) (parameters_follow class.RightParen (after ts)) (same refl))

  predicate_follows : Alike deep forms (predicate_at s m) (predicate_at t n)
  unfolding predicate_at
  predicate_follows ts = onward (name_at ts) (λ k. bind (parameter_list_follows k.1) (λ ps. bind (own_block_follows ps.1) (λ b. same refl)))

  function_follows : Alike deep forms (function_at s m) (function_at t n)
  unfolding function_at
  function_follows ts = onward (name_at ts) (λ k. bind (parameter_list_follows k.1) (λ ps. onward (expect class.Colon ps.1) (λ c.
      bind (sum_follows deep forms (within s m) (within t n) below around.Parens (after_mark c.1)) (λ x. bind (braced_follows deep forms (within s m) (within t n) below x.1) (λ b. same refl)))))

  assertion_follows : Alike deep forms (assertion_at s m) (assertion_at t n)
  unfolding assertion_at
  assertion_follows ts = onward (name_at ts) (λ k. bind (own_block_follows k.1) (λ b. same refl))

  target_follows : Alike deep forms (target_at s m) (target_at t n)
  unfolding target_at
  target_follows ts = choice (next_is class.Name ts && not (next_is class.LeftBrace (after ts))) (same refl) (onward (label_at ts) (λ l. bind (own_block_follows l.1) (λ b. same refl)))

  command_follows : (k : CommandKind) (p : Place) → Alike deep forms (command_at s m k p) (command_at t n k p)
  unfolding command_at
  command_follows k p ts = bind (target_follows ts) (λ x. same refl)

  paragraph_follows : Alike deep forms (paragraph_at s m) (paragraph_at t n)
  unfolding paragraph_at
  paragraph_follows ts =
      choice (next_is class.Fact ts) (fact_follows (after ts))
      (choice (next_is class.Pred ts) (predicate_follows (after ts))
      (choice (next_is class.Fun ts) (function_follows (after ts))
      (choice (next_is class.Assert ts) (assertion_follows (after ts))
      (choice (next_is class.Run ts) (command_follows kind.Run (place_at ts) (after ts))
      (choice (next_is class.Check ts) (command_follows kind.Check (place_at ts) (after ts))
      (signatures_follow ts))))))

  pub model_follows : (ts : List ParserToken) → Follows deep forms (model_at s m ts) (model_at t n ts)
  unfolding model_at
  model_follows ts = onward (heading_at ts) (λ h. onward (many (next_is class.Open) open_at h.1) (λ o. bind (many_follows is_left (paragraph_at s m) (paragraph_at t n) paragraph_follows o.1) (λ ps. same refl)))

-- ---- what the second reading can't do otherwise

not_strict : {P : Type 0} → false ≡ true → P
not_strict e = absurd cc

abbrev failed : (A : Type 0) → ParseStopView → Result A ParseStopView
failed A d = Err d

stop_is : (A : Type 0) (d e : ParseStopView) → failed A d ≡ failed A e → d ≡ e
stop_is A d e is = cc

-- what is read is read alike
pub stays_read : {deep forms : Bool} (a b : Result ModelTree ParseStopView) (m : ModelTree) → Follows deep forms a b → a ≡ Ok m → b ≡ Ok m
stays_read a b m h e =
    elim h [
      | same is ↦ sym is ∙ e
      | excused d is t ↦ no_success d m (sym is ∙ e)
    ]

-- a fault that isn't excused stands
pub stays : {deep forms : Bool} (a b : Result ModelTree ParseStopView) (d : ParseStopView) → excuses deep forms d ≡ false → Follows deep forms a b → a ≡ Err d → b ≡ Err d
stays {deep} {forms} a b d quiet h e =
    elim h [
      | same is ↦ sym is ∙ e
      | excused c is t ↦ (
          let here = subst (λ (s : ParseStopView). IsTrue (excuses deep forms s)) (stop_is ModelTree c d (sym is ∙ e)) t in
          let clash : false ≡ true = sym quiet ∙ here in
          absurd cc)
    ]

-- with more room, and forms as they are
pub roomier : (strict : Bool) (limit more : ℕ) → limit ≤ more → (ts : List ParserToken) → Follows true false (model_at strict limit ts) (model_at strict more ts)
roomier strict limit more less ts = model_follows true false strict strict (as_strict refl) limit more (less, inl refl) ts

-- with forms that may pass, and the same room
pub passing : (limit : ℕ) (ts : List ParserToken) → Follows false true (model_at true limit ts) (model_at false limit ts)
passing limit ts = model_follows false true true false (relaxed refl refl refl) limit limit (omega arith, inr refl) ts

-- both
pub lenient : (limit more : ℕ) → limit ≤ more → (ts : List ParserToken) → Follows true true (model_at true limit ts) (model_at false more ts)
lenient limit more less ts = model_follows true true true false (relaxed refl refl refl) limit more (less, inl refl) ts

-- ---- texts

pub text_not_refused : (limit : ℕ) → 0 < limit → (ts rest : List ParserToken) (m : ModelTree) → model_at true limit ts ≡ Err (refused rest) → IsTextOf ts m → ⊥
text_not_refused limit some ts rest m e text =
    let n = limit + depth_of_model m in
    let fails = stays (model_at true limit ts) (model_at false n ts) (refused rest) refl (lenient limit n (omega arith) ts) e in
    no_success (refused rest) m (sym fails ∙ model_full false n (omega arith) ts m text (omega arith) (λ is. not_strict is))

pub text_too_deep : (limit : ℕ) → 0 < limit → (ts rest : List ParserToken) (m : ModelTree) → model_at true limit ts ≡ Err (too_deep rest) → IsTextOf ts m → limit < depth_of_model m
text_too_deep limit some ts rest m e text =
    elim (cases_lt limit (depth_of_model m)) [
      | inl deeper ↦ deeper
      | inr within_limit ↦ (
          let fails = stays (model_at true limit ts) (model_at false limit ts) (too_deep rest) refl (passing limit ts) e in
          no_success (too_deep rest) m (sym fails ∙ model_full false limit some ts m text within_limit (λ is. not_strict is)))
    ]

pub text_has_form : (limit : ℕ) → 0 < limit → (f : Form) (ts rest : List ParserToken) (m : ModelTree) → model_at true limit ts ≡ Err (unsupported f rest) → IsTextOf ts m → IsPlainModel m → ⊥
text_has_form limit some f ts rest m e text plain =
    let n = limit + depth_of_model m in
    let fails = stays (model_at true limit ts) (model_at true n ts) (unsupported f rest) refl (roomier true limit n (omega arith) ts) e in
    no_success (unsupported f rest) m (sym fails ∙ model_full true n (omega arith) ts m text (omega arith) (λ _. plain))
