-- What reading gives of fields' bounds. A word may be refused that stands before the tokens which are read then.
use Rattle.std.proofs.Common.{◌≡◌, ◌⊎◌, inl, inr, ℕ, zero, suc, ◌≤◌, Bool, true, false, not, ◌&&◌, IsTrue, if◌then◌else◌, List, [], length, Option, None, Some, Result, Ok, Err, refl, sym, ap, subst, ◌∙◌, arith}
use Rattle.alloy_lex.specs.declared.token.Place.{Place}
use Rattle.alloy_syntax.specs.declared.class.Class.TheVariants as class
use Rattle.alloy_syntax.specs.declared.reading.Form.TheVariants as form
use Rattle.alloy_syntax.specs.declared.parser_token.ParserToken.{ParserToken}
use Rattle.alloy_syntax.specs.Tree.{BoundTree, bound_named, bound_bracketed, bound_union, bound_arrows, BoundUnions, no_unions, more_unions, BoundArrows, no_arrows, more_arrows, BoundArrowTree}
use Rattle.alloy_syntax.specs.Readers.{ParseStopView, refused, too_deep, unsupported, Parser, ◌>>=◌, next_is, after, is_mark, after_mark, repeated}
use Rattle.alloy_syntax.specs.Bounds.{Bounded, Standing, whole, part, beside, BoundReader, is_whole, word_round, operand_in, standing_beside, word_beside, refuse_word, side_over, begins_bound_arrow, bound_arrow_over, more_bound_arrows, bound_arrows_over, operand_over, bound_over, begins_bound, bound_within}
use Rattle.alloy_grammar.specs.Fronts.{Front, sign}
use Rattle.alloy_grammar.specs.Bounds.{level_of_bound, has_arrows, spells_bound, spells_unions, spells_arrows}
use Rattle.alloy_grammar.proofs.Results.{either}
use Rattle.alloy_grammar.proofs.Tokens.{expect_read}
use Rattle.alloy_syntax.specs.Class.{is_class}
use Rattle.alloy_grammar.proofs.Faults.LastTokens.{all_last}
use Rattle.alloy_grammar.proofs.Prefixes.CompletedReadings.{Then, Token, Maybe, Many, no_more, one_more, Moved, Closing, Stopped, Gives, gone, ended, either_of, close_none, close_maybe, close_token, close_then, close_map, close_name, moved_here, moved_then, moved_map, moved_sign, moved_token, moved_maybe, stopped_map, stopped_close, stopped_then, stopped_here, stopped_after, not_there, expect_gives, spelled_gives}
use Rattle.alloy_grammar.proofs.Prefixes.Texts.{as_mark, as_sign, name_of, as_name, Word, mark_text}
use Rattle.alloy_grammar.proofs.Prefixes.Openings.{Opens, opens}
use Rattle.alloy_grammar.proofs.Prefixes.Quantified.{moved_word}

-- ---- texts of bounds

-- a bound that binds at least so tightly
pub record Bound (l : ℕ) (ts rest : List ParserToken) : Type 0 where
  pub tree : BoundTree
  pub level : l ≤ level_of_bound tree
  pub spelled : spells_bound tree ts rest

pub named_bound : (ts rest : List ParserToken) → Token class.Name ts rest → Bound 2 ts rest
unfolding spells_bound
named_bound ts rest t = record { tree = bound_named (name_of t); level = omega arith; spelled = as_name t }

pub lower_bound : {k : ℕ} (l : ℕ) → l ≤ k → (ts rest : List ParserToken) → Bound k ts rest → Bound l ts rest
lower_bound {k} l less ts rest x = record { tree = x.tree; level = omega (arith, less, x.level); spelled = x.spelled }

bracketed_bound : (ts rest : List ParserToken) → Then (Token class.LeftParen) (Then (Bound 0) (Token class.RightParen)) ts rest → Bound 2 ts rest
unfolding spells_bound
bracketed_bound ts rest t = record {
  tree = bound_bracketed t.first.token.place t.second.first.tree;
  level = omega arith;
  spelled = (t.middle, as_sign t.first, (t.second.middle, t.second.first.spelled, as_mark t.second.second));
}

-- what stands behind a first word
abbrev Aimed : Front
Aimed = Then (Token class.Arrow) (Then (Maybe Word) (Bound 2))

abbrev BoundArrow : Front
BoundArrow = Then (Maybe Word) Aimed

record Arrows (ts rest : List ParserToken) : Type 0 where
  arrows : BoundArrows
  spelled : spells_arrows arrows ts rest

one_arrow : (ts us rest : List ParserToken) → BoundArrow ts us → Arrows us rest → (a : Arrows ts rest) × IsTrue (has_arrows a.arrows)
unfolding spells_arrows
one_arrow ts us rest t more =
    let a = t.second in
    let b = a.second in
    let left = mark_text ts t.middle t.first in
    let right = mark_text a.middle b.middle b.first in (
      record {
        arrows = more_arrows left.word a.first.token.place right.word b.second.tree more.arrows;
        spelled = (t.middle, left.spelled, (a.middle, as_sign a.first, (b.middle, right.spelled, (us, (b.second.level, b.second.spelled), more.spelled))));
      },
      refl,
    )

all_arrows : (ts rest : List ParserToken) → Many BoundArrow ts rest → Arrows ts rest
unfolding spells_arrows
all_arrows ts rest (no_more e) = record { arrows = no_arrows; spelled = e }
all_arrows ts rest (one_more us a as') = (one_arrow ts us rest a (all_arrows us rest as')).0

arrows_of_side : (b : BoundTree) (ts us rest : List ParserToken) → 2 ≤ level_of_bound b → spells_bound b ts us → Many BoundArrow us rest → Bound 1 ts rest
unfolding spells_bound
arrows_of_side b ts us rest level spelled (no_more e) = record { tree = b; level = omega (arith, level); spelled = subst (λ vs. spells_bound b ts vs) e spelled }
arrows_of_side b ts us rest level spelled (one_more vs a as') =
    let more = one_arrow us vs rest a (all_arrows vs rest as') in
    record { tree = bound_arrows b more.0.arrows; level = omega arith; spelled = (more.1, (us, (level, spelled), more.0.spelled)) }

arrows_bound : (ts rest : List ParserToken) → Then (Bound 2) (Many BoundArrow) ts rest → Bound 1 ts rest
arrows_bound ts rest t = arrows_of_side t.first.tree ts t.middle rest t.first.level t.first.spelled t.second

abbrev Added : Front
Added = Then (Token class.Plus) (Bound 1)

record Unions (ts rest : List ParserToken) : Type 0 where
  unions : BoundUnions
  spelled : spells_unions unions ts rest

all_unions : (ts rest : List ParserToken) → Many Added ts rest → Unions ts rest
unfolding spells_unions
all_unions ts rest (no_more e) = record { unions = no_unions; spelled = e }
all_unions ts rest (one_more us t more) =
    let x = all_unions us rest more in
    record { unions = more_unions t.first.token.place t.second.tree x.unions; spelled = (t.middle, as_sign t.first, (us, (t.second.level, t.second.spelled), x.spelled)) }

unions_of_arrows : (b : BoundTree) (ts us rest : List ParserToken) → 1 ≤ level_of_bound b → spells_bound b ts us → Many Added us rest → Bound 0 ts rest
unfolding spells_bound spells_unions
unions_of_arrows b ts us rest level spelled (no_more e) = record { tree = b; level = omega arith; spelled = subst (λ vs. spells_bound b ts vs) e spelled }
unions_of_arrows b ts us rest level spelled (one_more vs t more) =
    let x = all_unions vs rest more in
    let unions = more_unions t.first.token.place t.second.tree x.unions in
    let s : spells_unions unions us rest = (t.middle, as_sign t.first, (vs, (t.second.level, t.second.spelled), x.spelled)) in
    record { tree = bound_union b unions; level = omega arith; spelled = (refl, (us, (level, spelled), s)) }

union_bound : (ts rest : List ParserToken) → Then (Bound 1) (Many Added) ts rest → Bound 0 ts rest
union_bound ts rest t = unions_of_arrows t.first.tree ts t.middle rest t.first.level t.first.spelled t.second

-- ---- their closings

abbrev pub close_side : Closing (Bound 2)
close_side = close_map named_bound close_name

abbrev close_words : Closing (Then (Maybe Word) (Bound 2))
close_words = close_then (close_maybe Word) close_side

abbrev close_aimed : Closing Aimed
close_aimed = close_then (close_token class.Arrow refl) close_words

abbrev close_arrow : Closing BoundArrow
close_arrow = close_then (close_maybe Word) close_aimed

abbrev pub close_bound : Closing (Bound 0)
close_bound = close_map (lower_bound 0 (omega arith)) close_side

opens_bound : (ts : List ParserToken) → begins_bound ts ≡ true → Opens (Bound 0) ts
unfolding begins_bound
opens_bound ts e =
    either_of e
    (opens class.LeftParen (close_map (lower_bound 0 (omega arith)) (close_map bracketed_bound (close_then (close_token class.LeftParen refl) (close_then close_bound (close_token class.RightParen refl))))) (λ rest. refl))
    (opens class.Name close_bound (λ rest. refl))

-- ---- words that are refused

abbrev word_at : List ParserToken → ParseStopView
word_at w = unsupported form.ArrowMultiplicity w

-- what reading gives, where a word may be refused that stands elsewhere
data Tells {A : Type 0} (E : List ParserToken → Type 0) (P : A × List ParserToken → Type 0) (F : Front) (ts : List ParserToken) (r : Result (A × List ParserToken) ParseStopView) : Type 0 where
  told : (x : A × List ParserToken) → r ≡ Ok x → Moved F ts x.1 → P x → Tells E P F ts r
  broke : (d : ParseStopView) → r ≡ Err d → Stopped F ts d → Tells E P F ts r
  elsewhere : (w : List ParserToken) → r ≡ Err (word_at w) → E w → Tells E P F ts r

abbrev Anything : {A : Type 0} → A → Type 0
Anything x = Unit {0}

tells_then : {A B : Type 0} {D E : List ParserToken → Type 0} {P : A × List ParserToken → Type 0} {Q : B × List ParserToken → Type 0} {F G : Front} {ts us : List ParserToken} {a : Result (A × List ParserToken) ParseStopView} {f : A × List ParserToken → Result (B × List ParserToken) ParseStopView}
    → Tells D P F us a → ((d : ParseStopView) → Stopped F us d → Stopped G ts d) → ((w : List ParserToken) → D w → Tells E Q G ts (Err (word_at w))) → ((x : A × List ParserToken) → a ≡ Ok x → Moved F us x.1 → P x → Tells E Q G ts (f x)) → Tells E Q G ts (a >>= f)
tells_then {A} {B} {D} {E} {P} {Q} {F} {G} {ts} {us} {a} {f} h ends other to =
    elim h [
      | told x e m p ↦ subst (λ (c : Result (A × List ParserToken) ParseStopView). Tells E Q G ts (c >>= f)) (sym e) (to x e m p)
      | broke d e s ↦ broke d (ap (λ (c : Result (A × List ParserToken) ParseStopView). c >>= f) e) (ends d s)
      | elsewhere w e o ↦ subst (λ (c : Result (A × List ParserToken) ParseStopView). Tells E Q G ts (c >>= f)) (sym e) (other w o)
    ]

tells : {A : Type 0} {E : List ParserToken → Type 0} {F : Front} {ts : List ParserToken} {r : Result (A × List ParserToken) ParseStopView} → Gives F ts r → Tells E Anything F ts r
tells {A} {E} {F} {ts} {r} h = elim h [ gone x e m ↦ told x e m tt | ended d e s ↦ broke d e s ]

tells_choice : {A : Type 0} {E : List ParserToken → Type 0} {P : A × List ParserToken → Type 0} {F : Front} {ts : List ParserToken} (test : Bool) {u v : Result (A × List ParserToken) ParseStopView} → (test ≡ true → Tells E P F ts u) → (test ≡ false → Tells E P F ts v) → Tells E P F ts (if test then u else v)
tells_choice true p q = p refl
tells_choice false p q = q refl

tells_word : {A : Type 0} {E : List ParserToken → Type 0} {P : A × List ParserToken → Type 0} {F : Front} {ts : List ParserToken} (strict : Bool) (o : Option (List ParserToken)) {u : Result (A × List ParserToken) ParseStopView}
    → ((w : List ParserToken) → o ≡ Some w → Tells E P F ts (Err (word_at w))) → Tells E P F ts u → Tells E P F ts (refuse_word strict o >>= λ _. u)
tells_word strict None p q = q
tells_word true (Some w) p q = p w refl
tells_word false (Some w) p q = q

tells_repeated : {A : Type 0} {E : List ParserToken → Type 0} {P : List ParserToken → A × List ParserToken → Type 0} {F : Front} (test : List ParserToken → Bool) (p : Parser A) → ((us : List ParserToken) → test us ≡ true → Tells E (P us) F us (p us)) → (n : ℕ) (ts : List ParserToken) → Tells E Anything (Many F) ts (repeated test p n ts)
unfolding repeated
tells_repeated {A} {E} {P} {F} test p h zero ts = told ([], ts) refl (moved_here (λ us. no_more refl) ts) tt
tells_repeated {A} {E} {P} {F} test p h (suc n) ts =
    tells_choice (test ts)
    (λ is. tells_then (h ts is) (λ d s. stopped_map (λ us vs t. one_more t.middle t.first t.second) (stopped_close s (close_none F))) (λ w o. elsewhere w refl o) (λ x e m _.
    tells_then (tells_repeated {P = P} test p h n x.1) (λ d s. stopped_map (λ us vs t. one_more t.middle t.first t.second) (stopped_then m s)) (λ w o. elsewhere w refl o) (λ xs f k _.
    told _ refl (moved_map (λ us vs t. one_more t.middle t.first t.second) (moved_then m k)) tt)))
    (λ _. told ([], ts) refl (moved_here (λ us. no_more refl) ts) tt)

-- ---- bounds

-- the word of the arrow round a bound
abbrev Round : Standing → List ParserToken → Type 0
Round s w = word_round s ≡ Some w

-- a word that was read may be refused yet
abbrev Marks : Front → List ParserToken → Bounded × List ParserToken → Type 0
Marks F ts x = (w : List ParserToken) → x.0.marked ≡ Some w → Stopped F ts (word_at w)

abbrev Bounds : BoundReader → ℕ → Type 0
Bounds j l = (s : Standing) (ts : List ParserToken) → Tells (Round s) (Marks (Bound l) ts) (Bound l) ts (j s ts)

-- the words beside an arrow
abbrev Beside : List ParserToken → BoundArrowTree × List ParserToken → Type 0
Beside ts x = (w : List ParserToken) → word_beside ts ≡ Some w → Stopped BoundArrow ts (word_at w)

some_is : {P : Type 0} (u : List ParserToken) → None ≡ Some u → P
some_is u e = absurd cc

same_word : (u w : List ParserToken) → Some u ≡ Some w → u ≡ w
same_word u w e = cc

arrow_next : (p : Place) (ts rest : List ParserToken) → sign class.Arrow p ts rest → next_is class.Arrow ts ≡ true
unfolding next_is is_class
arrow_next p ts rest s = ap (next_is class.Arrow) s.1 ∙ ap (λ c. is_class c class.Arrow) s.2

beside_stops : (ts : List ParserToken) (p : Place) (rest : List ParserToken) → sign class.Arrow p (after_mark ts) rest → (w : List ParserToken) → word_beside ts ≡ Some w → Stopped BoundArrow ts (word_at w)
unfolding word_beside after_mark
beside_stops ts p rest arrow w e =
    elim (either (is_mark ts)) [
      | inl is ↦ (
          let s : sign class.Arrow p (after ts) rest = rw is at arrow in
          let here = stopped_here (word_at ts) close_arrow (λ s. not_there s) (is, inl (arrow_next p (after ts) rest s)) in
          subst (λ u. Stopped BoundArrow ts (word_at u)) (same_word ts w (rw is at e)) here)
      | inr fails ↦ elim (either (is_mark (after ts))) [
        | inl is ↦ (
            let s : sign class.Arrow p ts rest = rw fails at arrow in
            let behind : rest ≡ after ts = sym (ap after s.1) in
            let here = stopped_after (moved_sign s) (word_at (after ts)) close_words behind (λ s. not_there s) (is, inr (ts, all_last ts, arrow_next p ts rest s, refl)) in
            subst (λ u. Stopped BoundArrow ts (word_at u)) (same_word (after ts) w (rw (fails, is) at e)) (stopped_then (moved_maybe Word ts) here))
        | inr none ↦ some_is w (rw (fails, none) at e)
      ]
    ]

round_operand : (s : Standing) (w : List ParserToken) → word_round (operand_in s) ≡ Some w → word_round s ≡ Some w
unfolding word_round operand_in
round_operand whole w e = e
round_operand part w e = e
round_operand (beside u) w e = e

round_beside : (o : Option (List ParserToken)) (w : List ParserToken) → word_round (standing_beside o) ≡ Some w → o ≡ Some w
unfolding word_round standing_beside
round_beside None w e = e
round_beside (Some u) w e = e

module _ (strict : Bool) (j : BoundReader) (below : Bounds j 0) where
  side_tells : Bounds (side_over j) 2
  unfolding side_over
  side_tells s ts =
      tells_choice (next_is class.LeftParen ts)
      (λ is. let open_paren = moved_token class.LeftParen ts is in
      let close = close_token class.RightParen refl in
      tells_then (below s (after ts)) (λ d k. stopped_map bracketed_bound (stopped_then open_paren (stopped_close k close))) (λ w o. elsewhere w refl o) (λ x e m marks.
      tells_then {E = Round s} {Q = Marks (Bound 2) ts} (tells {E = Round s} (expect_gives class.RightParen refl x.1)) (λ d k. stopped_map bracketed_bound (stopped_then open_paren (stopped_then m k))) (λ w o. elsewhere w refl o) (λ c f k _.
      told _ refl (moved_map bracketed_bound (moved_then open_paren (moved_then m k))) (λ w is. stopped_map bracketed_bound (stopped_then open_paren (stopped_close (marks w is) close))))))
      (λ _. tells_then {E = Round s} {Q = Marks (Bound 2) ts} (tells {E = Round s} (spelled_gives class.Name refl ts)) (λ d k. stopped_map named_bound k) (λ w o. elsewhere w refl o) (λ x e m _. told _ refl (moved_map named_bound m) (λ w is. some_is w is)))

  -- the word round the arrow, or one that was read before it
  abbrev Before : Standing → Option (List ParserToken) → List ParserToken → Type 0
  Before s marked w = Round s w ⊎ (marked ≡ Some w)

  tells_here : {A : Type 0} {E : List ParserToken → Type 0} {P : A × List ParserToken → Type 0} {F : Front} {ts : List ParserToken} (us : List ParserToken) (s : Standing) (has_arrow : Bool) {u : Result (A × List ParserToken) ParseStopView}
      → ((w : List ParserToken) → word_beside us ≡ Some w → Tells E P F ts (Err (word_at w))) → Tells E P F ts u → Tells E P F ts ((if is_whole s && not has_arrow then Ok tt else refuse_word strict (word_beside us)) >>= λ _. u)
  tells_here {A} {E} {P} {F} {ts} us s has_arrow {u} p q =
      elim (either (is_whole s && not has_arrow)) [
        | inl is ↦ rw is q
        | inr fails ↦ rw fails (tells_word strict (word_beside us) p q)
      ]

  arrow_tells : (s : Standing) (marked : Option (List ParserToken)) (has_arrow : Bool) (ts : List ParserToken) → Tells (Before s marked) (Beside ts) BoundArrow ts (bound_arrow_over strict j s marked has_arrow ts)
  unfolding bound_arrow_over
  arrow_tells s marked has_arrow ts =
      tells_then (tells {E = Before s marked} (expect_gives class.Arrow refl (after_mark ts))) (λ d k. stopped_then (moved_word ts) (stopped_close k close_words)) (λ w o. elsewhere w refl o) (λ a e m _.
      let words = beside_stops ts a.0 a.1 (expect_read class.Arrow (after_mark ts) a.0 a.1 e) in
      tells_word strict (word_round s) (λ w is. elsewhere w refl (inl is))
      (tells_word strict marked (λ w is. elsewhere w refl (inr is))
      (tells_here ts s has_arrow (λ w is. broke (word_at w) refl (words w is))
      (tells_then (side_tells (standing_beside (word_beside ts)) (after_mark a.1)) (λ d k. stopped_then (moved_word ts) (stopped_then m (stopped_then (moved_word a.1) k))) (λ w o. broke (word_at w) refl (words w (round_beside (word_beside ts) w o)))
      (λ x f k _. told _ refl (moved_then (moved_word ts) (moved_then m (moved_then (moved_word a.1) k))) words)))))

  -- the first arrow is taken for one of several
  first_arrow : (ts rest : List ParserToken) → BoundArrow ts rest → Many BoundArrow ts rest
  first_arrow ts rest a = one_more rest a (no_more refl)

  more_arrow : (ts rest : List ParserToken) → Then BoundArrow (Many BoundArrow) ts rest → Many BoundArrow ts rest
  more_arrow ts rest t = one_more t.middle t.first t.second

  more_tell : (s : Standing) (marked : Option (List ParserToken)) (first : BoundArrowTree) → (ts : List ParserToken) → Tells (Before s marked) Anything (Many BoundArrow) ts (more_bound_arrows strict j s marked first ts)
  unfolding more_bound_arrows
  more_tell s marked first ts =
      tells_then (tells_repeated {P = Beside} begins_bound_arrow (bound_arrow_over strict j s marked true) (λ us _. arrow_tells s marked true us) (suc (length ts)) ts) (λ d k. k) (λ w o. elsewhere w refl o)
      (λ x e m _. told _ refl m tt)

  arrows_tell : Bounds (bound_arrows_over strict j) 1
  unfolding bound_arrows_over
  arrows_tell s ts =
      let none_more = close_none BoundArrow in
      tells_then (side_tells s ts) (λ d k. stopped_map arrows_bound (stopped_close k none_more)) (λ w o. elsewhere w refl o) (λ x e m marks.
      tells_choice (begins_bound_arrow x.1)
      (λ _. tells_then (arrow_tells s x.0.marked x.0.has_arrow x.1) (λ d k. stopped_map arrows_bound (stopped_then m (stopped_map first_arrow k)))
      (λ w o. elim o [ inl round ↦ elsewhere w refl round | inr mark ↦ broke (word_at w) refl (stopped_map arrows_bound (stopped_close (marks w mark) none_more)) ])
      (λ a f k words. let here = λ (w : List ParserToken) (is : word_beside x.1 ≡ Some w). stopped_map arrows_bound (stopped_then m (stopped_map first_arrow (words w is))) in
      tells_then (more_tell s (word_beside x.1) a.0 a.1) (λ d l. stopped_map arrows_bound (stopped_then m (stopped_map more_arrow (stopped_then k l))))
      (λ w o. elim o [ inl round ↦ elsewhere w refl round | inr mark ↦ broke (word_at w) refl (here w mark) ])
      (λ more g l _. told _ refl (moved_map arrows_bound (moved_then m (moved_map more_arrow (moved_then k l)))) here)))
      (λ _. told x refl (moved_map arrows_bound (moved_then m (moved_here (λ us. no_more refl) x.1))) (λ w is. stopped_map arrows_bound (stopped_close (marks w is) none_more))))

  operand_tells : (s : Standing) (ts : List ParserToken) → next_is class.Plus ts ≡ true → Tells (Round s) Anything Added ts (operand_over strict j s ts)
  unfolding operand_over
  operand_tells s ts is =
      tells_then (arrows_tell (operand_in s) (after ts)) (λ d k. stopped_then (moved_token class.Plus ts is) k) (λ w o. elsewhere w refl (round_operand s w o)) (λ x e m _.
      told _ refl (moved_then (moved_token class.Plus ts is) m) tt)

  bound_tells : Bounds (bound_over strict j) 0
  unfolding bound_over
  bound_tells s ts =
      let none_more = close_none Added in
      tells_then (arrows_tell s ts) (λ d k. stopped_map union_bound (stopped_close k none_more)) (λ w o. elsewhere w refl o) (λ x e m marks.
      tells_choice (next_is class.Plus x.1)
      (λ _. tells_word strict x.0.marked (λ w is. broke (word_at w) refl (stopped_map union_bound (stopped_close (marks w is) none_more)))
      (tells_then (tells_repeated {P = λ us x. Unit {0}} (next_is class.Plus) (operand_over strict j s) (operand_tells s) (suc (length x.1)) x.1) (λ d k. stopped_map union_bound (stopped_then m k)) (λ w o. elsewhere w refl o)
      (λ more f k _. told _ refl (moved_map union_bound (moved_then m k)) (λ w is. some_is w is))))
      (λ _. told x refl (moved_map union_bound (moved_then m (moved_here (λ us. no_more refl) x.1))) (λ w is. stopped_map union_bound (stopped_close (marks w is) none_more))))

within_tells : (strict : Bool) (room : ℕ) → Bounds (bound_within strict room) 0
unfolding bound_within
within_tells strict zero s ts =
    tells_choice (begins_bound ts)
    (λ is. let o = opens_bound ts is in broke (too_deep ts) refl (stopped_here (too_deep ts) o.close (λ _. o.alike) tt))
    (λ _. broke (refused ts) refl (stopped_here (refused ts) close_bound (λ s. not_there s) tt))
within_tells strict (suc room) s ts = bound_tells strict (bound_within strict room) (within_tells strict room) s ts

-- a field's bound
pub bound_gives : (strict : Bool) (room : ℕ) (ts : List ParserToken) → Gives (Bound 0) ts (bound_within strict room whole ts)
unfolding word_round
bound_gives strict room ts =
    elim (within_tells strict room whole ts) [
      | told x e m _ ↦ gone x e m
      | broke d e s ↦ ended d e s
      | elsewhere w e o ↦ some_is w o
    ]
