-- What stands under constructs, where more of them may nest.
use Rattle.std.proofs.Common.{◌≡◌, inl, inr, ℕ, zero, suc, Bool, true, false, IsTrue, ◌&&◌, ◌||◌, List, [], ◌∷◌, Err, refl, sym, arith}
use Rattle.std.proofs.lemmas.Bool.{or_parts}
use Rattle.alloy_syntax.specs.declared.class.Class.{Class}
use Rattle.alloy_syntax.specs.declared.class.Class.TheVariants as class
use Rattle.alloy_syntax.specs.declared.reading.Form.TheVariants as form
use Rattle.alloy_syntax.specs.declared.reading.Around.{Around}
use Rattle.alloy_syntax.specs.declared.reading.Inside.{Inside}
use Rattle.alloy_syntax.specs.declared.reading.Inside.TheVariants as inside
use Rattle.alloy_syntax.specs.declared.parser_token.ParserToken.{ParserToken}
use Rattle.alloy_syntax.specs.Class.{is_class}
use Rattle.alloy_syntax.specs.Readers.{ParseStopView, refused, unsupported, next_is, after, place_at, expect, spelled_at, name_at, listed, names_at}
use Rattle.alloy_syntax.specs.Nodes.{Reader, is_comprehension, block_over, block_tree, is_constant, primary_over, is_tightening, tight_over, path_over, chained, restrict_over, arrows_over, meet_over, override_over, size_over, sum_over, is_counting, counted_over, comparison_over, negation_over, and_over, implication_over, iff_over, node_over, begins_primary, begins_tight, begins_sum, begins_node, begins, may_be_block, stop_at, is_single, variable_names, variables_over, declaration_over, declarations_over, quantified_over, binding_over, bindings_over, let_over, inside_over, within}
use Rattle.alloy_grammar.proofs.Results.{either}
use Rattle.alloy_grammar.proofs.Tokens.{token, marks, and_left}
use Rattle.alloy_grammar.proofs.TextEnds.{differs}
use Rattle.alloy_grammar.proofs.Faults.Follows.{Follows, same, excused, Relaxed, Roomier, less_room}
use Rattle.alloy_grammar.proofs.Faults.Nodes.{Below, inside_follows}

-- ---- a token that can't stand there is refused, whatever may nest

and_false : (b : Bool) → (b && false) ≡ false
and_false true = refl
and_false false = refl

expect_refuses : (c : Class) (ts : List ParserToken) → next_is c ts ≡ false → expect c ts ≡ Err (refused ts)
unfolding expect next_is
expect_refuses c [] e = refl
expect_refuses c (t ∷ ts) e = rw e refl

pub name_refuses : (ts : List ParserToken) → next_is class.Name ts ≡ false → name_at ts ≡ Err (refused ts)
unfolding spelled_at next_is
name_refuses [] e = refl
name_refuses (t ∷ ts) e = rw e refl

-- ---- where a part stops at its first token, so do the looser ones that begin with it

module _ (i : Reader) (a : Around) (ts : List ParserToken) (d : ParseStopView) where
  tight_stops : is_tightening ts ≡ false → primary_over i ts ≡ Err d → tight_over i a ts ≡ Err d
  unfolding tight_over
  tight_stops t p = rw (t, p) refl

  size_stops : next_is class.Hash ts ≡ false → tight_over i a ts ≡ Err d → size_over i a ts ≡ Err d
  unfolding size_over override_over meet_over arrows_over restrict_over path_over chained
  size_stops h p = rw (h, p) refl

  sum_stops : size_over i a ts ≡ Err d → sum_over i a ts ≡ Err d
  unfolding sum_over chained
  sum_stops p = rw p refl

  negation_stops : next_is class.Not ts ≡ false → next_is class.All ts ≡ false → next_is class.Let ts ≡ false → is_counting ts ≡ false → sum_over i a ts ≡ Err d → negation_over i a ts ≡ Err d
  unfolding negation_over comparison_over counted_over
  negation_stops n q l c p = rw (n, q, l, c, p) refl

  implication_stops : negation_over i a ts ≡ Err d → implication_over i a ts ≡ Err d
  unfolding implication_over and_over chained
  implication_stops p = rw p refl

  node_stops : implication_over i a ts ≡ Err d → node_over i a ts ≡ Err d
  unfolding node_over iff_over chained
  node_stops p = rw p refl

-- ---- nothing begins there

record NoPrimary (ts : List ParserToken) : Type 0 where
  name : next_is class.Name ts ≡ false
  path : next_is class.Path ts ≡ false
  number : next_is class.Number ts ≡ false
  constant : is_constant ts ≡ false
  paren : next_is class.LeftParen ts ≡ false
  brace : next_is class.LeftBrace ts ≡ false

no_primary : (ts : List ParserToken) → begins_primary ts ≡ false → NoPrimary ts
unfolding begins_primary is_constant
no_primary ts e =
    let n = next_is class.Name ts in
    let p = next_is class.Path ts in
    let m = next_is class.Number ts in
    let k = next_is class.None ts in
    let u = next_is class.Univ ts in
    let d = next_is class.Iden ts in
    let l = next_is class.LeftParen ts in
    let brace = or_parts (n || p || m || k || u || d || l) (next_is class.LeftBrace ts) e in
    let paren = or_parts (n || p || m || k || u || d) l brace.0 in
    let iden = or_parts (n || p || m || k || u) d paren.0 in
    let univ = or_parts (n || p || m || k) u iden.0 in
    let none = or_parts (n || p || m) k univ.0 in
    let number = or_parts (n || p) m none.0 in
    let name = or_parts n p number.0 in
    record { name = name.0; path = name.1; number = number.1; constant = rw (none.1, univ.1, iden.1) refl; paren = paren.1; brace = brace.1 }

primary_refuses : (i : Reader) (ts : List ParserToken) → begins_primary ts ≡ false → primary_over i ts ≡ Err (refused ts)
unfolding primary_over block_tree block_over is_comprehension
primary_refuses i ts e = let n = no_primary ts e in rw (n.name, n.path, n.number, n.constant, n.paren, n.brace, expect_refuses class.LeftBrace ts n.brace) refl

tight_refuses : (i : Reader) (a : Around) (ts : List ParserToken) → begins_tight ts ≡ false → tight_over i a ts ≡ Err (refused ts)
unfolding begins_tight
tight_refuses i a ts e = let t = or_parts (is_tightening ts) (begins_primary ts) e in tight_stops i a ts (refused ts) t.0 (primary_refuses i ts t.1)

size_refuses : (i : Reader) (a : Around) (ts : List ParserToken) → begins_sum ts ≡ false → size_over i a ts ≡ Err (refused ts)
unfolding begins_sum
size_refuses i a ts e = let h = or_parts (next_is class.Hash ts) (begins_tight ts) e in size_stops i a ts (refused ts) h.0 (tight_refuses i a ts h.1)

sum_refuses : (i : Reader) (a : Around) (ts : List ParserToken) → begins_sum ts ≡ false → sum_over i a ts ≡ Err (refused ts)
sum_refuses i a ts e = sum_stops i a ts (refused ts) (size_refuses i a ts e)

negation_refuses : (i : Reader) (a : Around) (ts : List ParserToken) → begins_node ts ≡ false → negation_over i a ts ≡ Err (refused ts)
unfolding begins_node
negation_refuses i a ts e =
    let n = next_is class.Not ts in
    let q = next_is class.All ts in
    let l = next_is class.Let ts in
    let sum = or_parts (n || q || l || is_counting ts) (begins_sum ts) e in
    let counting = or_parts (n || q || l) (is_counting ts) sum.0 in
    let bound = or_parts (n || q) l counting.0 in
    let negated = or_parts n q bound.0 in
    negation_stops i a ts (refused ts) negated.0 negated.1 bound.1 counting.1 (sum_refuses i a ts sum.1)

implication_refuses : (i : Reader) (a : Around) (ts : List ParserToken) → begins_node ts ≡ false → implication_over i a ts ≡ Err (refused ts)
implication_refuses i a ts e = implication_stops i a ts (refused ts) (negation_refuses i a ts e)

pub part_refuses : (strict : Bool) (i : Reader) (a : Around) (part : Inside) (ts : List ParserToken) → begins part ts ≡ false → inside_over strict i a part ts ≡ Err (refused ts)
unfolding begins inside_over quantified_over declarations_over declaration_over variables_over variable_names names_at let_over bindings_over binding_over listed
part_refuses strict i a inside.Node ts e = node_stops i a ts (refused ts) (implication_refuses i a ts e)
part_refuses strict i a inside.Negation ts e = negation_refuses i a ts e
part_refuses strict i a inside.Implied ts e = implication_refuses i a ts e
part_refuses strict i a inside.Sum ts e = sum_refuses i a ts e
part_refuses strict i a inside.Size ts e = size_refuses i a ts e
part_refuses strict i a inside.Tight ts e = tight_refuses i a ts e
part_refuses strict i a (inside.Quantified q p) ts e = let n = or_parts (next_is class.Disj ts) (next_is class.Name ts) e in rw (n.0, and_false (strict && is_single q), name_refuses ts n.1) refl
part_refuses strict i a (inside.Let p) ts e = rw (name_refuses ts e) refl

-- ---- a comprehension stands there

apart : (d : Class) (ts : List ParserToken) → next_is class.LeftBrace ts ≡ true → is_class class.LeftBrace d ≡ false → next_is d ts ≡ false
apart d ts e f = differs class.LeftBrace d ts (after ts) (marks class.LeftBrace (place_at ts) ts (after ts) (token class.LeftBrace ts e)) f

brace_there : (ts : List ParserToken) → is_comprehension ts ≡ true → next_is class.LeftBrace ts ≡ true
unfolding is_comprehension
brace_there ts e = and_left (next_is class.LeftBrace ts) _ e

not_counting : (ts : List ParserToken) → next_is class.LeftBrace ts ≡ true → is_counting ts ≡ false
unfolding is_counting is_class
not_counting ts b = rw (apart class.Some ts b refl, apart class.No ts b refl, apart class.Lone ts b refl, apart class.One ts b refl) refl

comprehension_tight : (i : Reader) (a : Around) (ts : List ParserToken) → is_comprehension ts ≡ true → tight_over i a ts ≡ Err (unsupported form.Comprehension ts)
unfolding tight_over primary_over block_tree block_over is_tightening is_constant is_class
comprehension_tight i a ts e =
    let b = brace_there ts e in
    rw (apart class.Tilde ts b refl, apart class.Caret ts b refl, apart class.Star ts b refl, apart class.Name ts b refl, apart class.Path ts b refl, apart class.Number ts b refl, apart class.None ts b refl, apart class.Univ ts b refl, apart class.Iden ts b refl, apart class.LeftParen ts b refl, e) refl

comprehension_size : (i : Reader) (a : Around) (ts : List ParserToken) → is_comprehension ts ≡ true → size_over i a ts ≡ Err (unsupported form.Comprehension ts)
unfolding is_class
comprehension_size i a ts e = size_stops i a ts (unsupported form.Comprehension ts) (apart class.Hash ts (brace_there ts e) refl) (comprehension_tight i a ts e)

comprehension_negation : (i : Reader) (a : Around) (ts : List ParserToken) → is_comprehension ts ≡ true → negation_over i a ts ≡ Err (unsupported form.Comprehension ts)
unfolding is_class
comprehension_negation i a ts e =
    let b = brace_there ts e in
    negation_stops i a ts (unsupported form.Comprehension ts) (apart class.Not ts b refl) (apart class.All ts b refl) (apart class.Let ts b refl) (not_counting ts b) (sum_stops i a ts (unsupported form.Comprehension ts) (comprehension_size i a ts e))

pub comprehension_stops : (strict : Bool) (i : Reader) (a : Around) (part : Inside) (ts : List ParserToken) → (may_be_block part && is_comprehension ts) ≡ true → inside_over strict i a part ts ≡ Err (unsupported form.Comprehension ts)
unfolding may_be_block inside_over
comprehension_stops strict i a inside.Node ts e = node_stops i a ts (unsupported form.Comprehension ts) (implication_stops i a ts (unsupported form.Comprehension ts) (comprehension_negation i a ts e))
comprehension_stops strict i a inside.Negation ts e = comprehension_negation i a ts e
comprehension_stops strict i a inside.Implied ts e = implication_stops i a ts (unsupported form.Comprehension ts) (comprehension_negation i a ts e)
comprehension_stops strict i a inside.Sum ts e = sum_stops i a ts (unsupported form.Comprehension ts) (comprehension_size i a ts e)
comprehension_stops strict i a inside.Size ts e = comprehension_size i a ts e
comprehension_stops strict i a inside.Tight ts e = comprehension_tight i a ts e
comprehension_stops strict i a (inside.Quantified q p) ts e = absurd cc
comprehension_stops strict i a (inside.Let p) ts e = absurd cc

-- ---- more room

stop_follows : {deep forms : Bool} (strict : Bool) (i : Reader) (a : Around) (part : Inside) (ts : List ParserToken) → IsTrue deep → Follows deep forms (stop_at part ts) (inside_over strict i a part ts)
unfolding stop_at
stop_follows strict i a part ts deeper =
    elim (either (may_be_block part && is_comprehension ts)) [
      | inl is ↦ rw is (same (sym (comprehension_stops strict i a part ts is)))
      | inr fails ↦ rw fails (
          elim (either (begins part ts)) [
            | inl begun ↦ rw begun (excused _ refl deeper)
            | inr none ↦ rw none (same (sym (part_refuses strict i a part ts none)))
          ])
    ]

pub within_follows : (deep forms s t : Bool) → Relaxed forms s t → (m n : ℕ) → Roomier deep m n → Below deep forms (within s m) (within t n)
unfolding within
within_follows deep forms s t r zero zero room a part ts = same refl
within_follows deep forms s t r zero (suc n) room a part ts =
    elim room.1 [
      | inl deeper ↦ stop_follows t (within t n) a part ts deeper
      | inr e ↦ absurd (omega (arith, e))
    ]
within_follows deep forms s t r (suc m) zero room a part ts = absurd (omega (arith, room.0))
within_follows deep forms s t r (suc m) (suc n) room a part ts =
    inside_follows deep forms (within s m) (within t n) (within_follows deep forms s t r m n (less_room deep m n room)) s t r a part ts
