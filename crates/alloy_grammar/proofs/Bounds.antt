-- What is read of a field's bound is spelled so, and has words only where the language takes them.
use Rattle.std.proofs.Common.{◌≡◌, ℕ, zero, suc, ◌≤◌, ◌<◌, ◌⊎◌, inl, inr, Bool, true, false, not, ◌||◌, ◌&&◌, if◌then◌else◌, List, [], ◌∷◌, map, length, Option, Some, None, Ok, refl, sym, ap, subst, ◌∙◌, arith}
use Rattle.std.specs.List.{list_any}
use Rattle.alloy_lex.specs.declared.token.Place.{Place}
use Rattle.alloy_syntax.specs.declared.class.Class.TheVariants as class
use Rattle.alloy_syntax.specs.declared.tree.Name.{Name}
use Rattle.alloy_syntax.specs.declared.tree.MultiplicityWord.{MultiplicityWord}
use Rattle.alloy_syntax.specs.declared.parser_token.ParserToken.{ParserToken}
use Rattle.alloy_syntax.specs.Tree.{BoundTree, bound_named, bound_bracketed, bound_union, bound_arrows, BoundArrowTree, BoundUnions, BoundArrows, unions_of, arrows_of}
use Rattle.alloy_syntax.specs.Readers.{next_is, after, place_at, expect, name_at, is_mark, mark_at, after_mark, many}
use Rattle.alloy_syntax.specs.Bounds.{Bounded, Standing, whole, part, beside, BoundReader, is_whole, word_round, operand_in, standing_beside, word_beside, refuse_word, side_over, begins_bound_arrow, bound_arrow_over, more_bound_arrows, bound_arrows_over, operand_over, bound_over, begins_bound, bound_within}
use Rattle.alloy_grammar.specs.Fronts.{sign, mark_of, name, mark, each}
use Rattle.alloy_grammar.specs.Bounds.{level_of_bound, spells_bound, spells_unions, spells_arrows, depth_of_bound, depth_of_unions, depth_of_arrows, is_word, has_arrow, unions_have_arrow, has_word, unions_have_word, arrows_have_word, is_one_arrow, is_plain_bound}
use Rattle.alloy_grammar.proofs.Results.{success, stop, known, either, no_success, got, value_is, rest_is, true_not_false}
use Rattle.alloy_grammar.proofs.Tokens.{token, marks, expect_read, spelled_read, after_mark_is_short, mark_read}
use Rattle.alloy_grammar.proofs.Lists.{Taken, Shortens, many_read, many_stops, each_of}

-- ---- what may stand where

abbrev no_word : Option (List ParserToken)
no_word = None

-- a bound that is a side of an arrow with a word has no arrow, a part has no word, and a whole one may be one arrow with words
abbrev pub Allowed : Standing → Option (List ParserToken) → BoundTree → Type 0
Allowed whole w b = (w ≡ no_word → has_word b ≡ false) × ((has_word b ≡ false) ⊎ (is_one_arrow b ≡ true))
Allowed part w b = has_word b ≡ false
Allowed (beside word) w b = (has_word b ≡ false) × (has_arrow b ≡ false)

pub record FoundBound (strict : Bool) (room l : ℕ) (s : Standing) (x : Bounded) (ts rest : List ParserToken) : Type 0 where
  pub spelled : spells_bound x.bound ts rest
  pub level : l ≤ level_of_bound x.bound
  pub shallow : depth_of_bound x.bound < room
  pub arrows : x.has_arrow ≡ has_arrow x.bound
  pub allowed : strict ≡ true → Allowed s x.marked x.bound
  pub shorter : length rest < length ts

-- the same without what was marked
pub record FoundSide (strict : Bool) (room l : ℕ) (b : BoundTree) (ts rest : List ParserToken) : Type 0 where
  pub spelled : spells_bound b ts rest
  pub level : l ≤ level_of_bound b
  pub shallow : depth_of_bound b < room
  pub shorter : length rest < length ts

side_of : {strict : Bool} {room l : ℕ} {s : Standing} {x : Bounded} {ts rest : List ParserToken} → FoundBound strict room l s x ts rest → FoundSide strict room l x.bound ts rest
side_of f = record { spelled = f.spelled; level = f.level; shallow = f.shallow; shorter = f.shorter }

bound_land : {strict : Bool} {room l : ℕ} {s : Standing} {x y : Bounded} {ts us rest : List ParserToken} → got x us ≡ got y rest → FoundBound strict room l s x ts us → FoundBound strict room l s y ts rest
bound_land {strict} {room} {l} {s} {x} {y} {ts} {us} {rest} e f =
    subst (λ (vs : List ParserToken). FoundBound strict room l s y ts vs) (rest_is x y us rest e) (subst (λ (z : Bounded). FoundBound strict room l s z ts us) (value_is x y us rest e) f)

bound_lowered : {strict : Bool} {room l : ℕ} {s : Standing} {x : Bounded} {ts rest : List ParserToken} → (m : ℕ) → m ≤ l → FoundBound strict room l s x ts rest → FoundBound strict room m s x ts rest
bound_lowered m less f = record { spelled = f.spelled; level = omega arith; shallow = f.shallow; arrows = f.arrows; allowed = f.allowed; shorter = f.shorter }

abbrev pub BoundBelow : Bool → ℕ → BoundReader → Type 0
BoundBelow strict room j = (s : Standing) (ts : List ParserToken) (x : Bounded) (rest : List ParserToken) → j s ts ≡ Ok (x, rest) → FoundBound strict room 0 s x ts rest

-- ---- sides

named_allowed : (s : Standing) (n : Name) → Allowed s no_word (bound_named n)
unfolding has_word has_arrow
named_allowed whole n = (λ _. refl, inl refl)
named_allowed part n = refl
named_allowed (beside word) n = (refl, refl)

bracketed_allowed : (s : Standing) (w : Option (List ParserToken)) (p : Place) (b : BoundTree) → Allowed s w b → Allowed s w (bound_bracketed p b)
unfolding has_word has_arrow is_one_arrow
bracketed_allowed whole w p b a = a
bracketed_allowed part w p b a = a
bracketed_allowed (beside word) w p b a = a

named_bound : (strict : Bool) (room : ℕ) (s : Standing) (n : Name) (ts rest : List ParserToken) → name n ts rest → FoundBound strict (suc room) 2 s (record { bound = bound_named n; marked = no_word; has_arrow = false }) ts rest
unfolding spells_bound depth_of_bound has_arrow
named_bound strict room s n ts rest f = record {
  spelled = f;
  level = omega arith;
  shallow = omega arith;
  arrows = refl;
  allowed = λ _. named_allowed s n;
  shorter = omega (arith, ap length f.1);
}

bracketed_bound : (strict : Bool) (room : ℕ) (s : Standing) (p : Place) (x : Bounded) (ts us vs rest : List ParserToken) → sign class.LeftParen p ts us → FoundBound strict room 0 s x us vs → mark_of class.RightParen vs rest
    → FoundBound strict (suc room) 2 s (record { bound = bound_bracketed p x.bound; marked = x.marked; has_arrow = x.has_arrow }) ts rest
unfolding spells_bound depth_of_bound has_arrow
bracketed_bound strict room s p x ts us vs rest o f c = record {
  spelled = (us, o, (vs, f.spelled, c));
  level = omega arith;
  shallow = omega (arith, f.shallow);
  arrows = f.arrows;
  allowed = λ h. bracketed_allowed s x.marked p x.bound (f.allowed h);
  shorter = omega (arith, ap length o.1, ap length c.1, f.shorter);
}

-- ---- words

refused_word : (strict : Bool) (w : Option (List ParserToken)) (u : Unit {0}) → refuse_word strict w ≡ Ok u → strict ≡ true → w ≡ no_word
refused_word strict None u e is = refl
refused_word true (Some word) u e is = no_success _ _ e
refused_word false (Some word) u e is = true_not_false (sym is)

some_not_none : {P : Type 0} (word : List ParserToken) → Some word ≡ no_word → P
some_not_none word e = absurd cc

abbrev no_mark : Option MultiplicityWord
no_mark = None

-- where no word stands beside the arrow, there is none in the tree
no_left : (ts : List ParserToken) → word_beside ts ≡ no_word → mark_at ts ≡ no_mark
unfolding word_beside mark_at
no_left ts e = elim (either (is_mark ts)) [ inl is ↦ some_not_none ts (rw is at e) | inr other ↦ rw other refl ]

no_right : (ts : List ParserToken) (p : Place) (rest : List ParserToken) → word_beside ts ≡ no_word → sign class.Arrow p (after_mark ts) rest → mark_at rest ≡ no_mark
unfolding word_beside mark_at after_mark
no_right ts p rest e s =
    elim (either (is_mark ts)) [
      | inl is ↦ some_not_none ts (rw is at e)
      | inr other ↦ (
          let here : ts ≡ s.0 ∷ rest = rw other at s.1 in
          let same : after ts ≡ rest = ap after here in
          elim (either (is_mark (after ts))) [
            | inl is ↦ some_not_none (after ts) (rw (other, is) at e)
            | inr no_more ↦ (let none : is_mark rest ≡ false = subst (λ us. is_mark us ≡ false) same no_more in rw none refl)
          ])
    ]

-- what an arrow may have, where it stands so behind a side that is marked so and may have arrows
pub record ArrowAllowed (s : Standing) (marked : Option (List ParserToken)) (h : Bool) (w : Option (List ParserToken)) (a : BoundArrowTree) : Type 0 where
  pub round : word_round s ≡ no_word
  pub front : marked ≡ no_word
  pub side : has_word a.side ≡ false
  pub none : w ≡ no_word → (a.left ≡ no_mark) × (a.right ≡ no_mark)
  pub some : (w ≡ no_word) ⊎ ((is_whole s ≡ true) × (h ≡ false) × (has_arrow a.side ≡ false))

pub record FoundArrow (strict : Bool) (room : ℕ) (s : Standing) (marked : Option (List ParserToken)) (h : Bool) (a : BoundArrowTree) (ts rest : List ParserToken) : Type 0 where
  pub behind_left : List ParserToken
  pub left : mark a.left ts behind_left
  pub behind_arrow : List ParserToken
  pub arrow : sign class.Arrow a.place behind_left behind_arrow
  pub behind_right : List ParserToken
  pub right : mark a.right behind_arrow behind_right
  pub side : FoundSide strict room 2 a.side behind_right rest
  pub allowed : strict ≡ true → ArrowAllowed s marked h (word_beside ts) a
  pub shorter : length rest < length ts

side_allowed : (w m : Option (List ParserToken)) (b : BoundTree) → Allowed (standing_beside w) m b → (has_word b ≡ false) × ((w ≡ no_word) ⊎ (has_arrow b ≡ false))
unfolding standing_beside
side_allowed None m b a = (a, inl refl)
side_allowed (Some word) m b a = (a.0, inr a.1)

and_not : (a b : Bool) → (a && not b) ≡ true → (a ≡ true) × (b ≡ false)
and_not true true e = absurd cc
and_not true false e = (refl, refl)
and_not false b e = absurd cc

-- the word that isn't refused beside an arrow
here_allowed : (strict : Bool) (s : Standing) (h : Bool) (ts : List ParserToken) (u : Unit {0}) → (if is_whole s && not h then Ok tt else refuse_word strict (word_beside ts)) ≡ Ok u → strict ≡ true
    → (word_beside ts ≡ no_word) ⊎ ((is_whole s ≡ true) × (h ≡ false))
here_allowed strict s h ts u e is =
    elim (either (is_whole s && not h)) [
      | inl both ↦ inr (and_not (is_whole s) h both)
      | inr other ↦ inl (refused_word strict (word_beside ts) u (rw other at e) is)
    ]

some_of : (w : Option (List ParserToken)) (s : Standing) (h : Bool) (b : BoundTree) → (w ≡ no_word) ⊎ ((is_whole s ≡ true) × (h ≡ false)) → (w ≡ no_word) ⊎ (has_arrow b ≡ false)
    → (w ≡ no_word) ⊎ ((is_whole s ≡ true) × (h ≡ false) × (has_arrow b ≡ false))
some_of w s h b (inl none) q = inl none
some_of w s h b (inr p) (inl none) = inl none
some_of w s h b (inr p) (inr q) = inr (p.0, p.1, q)

module _ (strict : Bool) (room : ℕ) (j : BoundReader) (below : BoundBelow strict room j) where
  side_read : (s : Standing) (ts : List ParserToken) (x : Bounded) (rest : List ParserToken) → side_over j s ts ≡ Ok (x, rest) → FoundBound strict (suc room) 2 s x ts rest
  unfolding side_over
  side_read s ts x rest e =
      elim (either (next_is class.LeftParen ts)) [
        | inl is ↦ (
            let e1 = rw is at e in
            elim (known (j s (after ts))) [
              | stop d fails ↦ no_success _ _ (rw fails at e1)
              | success y inner ↦ (
                  let e2 = rw inner at e1 in
                  elim (known (expect class.RightParen y.1)) [
                    | stop d fails ↦ no_success _ _ (rw fails at e2)
                    | success c closing ↦ (
                        let e3 = rw closing at e2 in
                        bound_land e3 (bracketed_bound strict room s (place_at ts) y.0 ts (after ts) y.1 c.1 (token class.LeftParen ts is) (below s (after ts) y.0 y.1 inner) (marks class.RightParen c.0 y.1 c.1 (expect_read class.RightParen y.1 c.0 c.1 closing))))
                  ])
            ])
        | inr other ↦ (
            let e1 = rw other at e in
            elim (known (name_at ts)) [
              | stop d fails ↦ no_success _ _ (rw fails at e1)
              | success n is ↦ (let e2 = rw is at e1 in bound_land e2 (named_bound strict room s n.0 ts n.1 (spelled_read class.Name ts n.0 n.1 is)))
            ])
      ]

  pub arrow_read : (s : Standing) (marked : Option (List ParserToken)) (h : Bool) (ts : List ParserToken) (a : BoundArrowTree) (rest : List ParserToken) → bound_arrow_over strict j s marked h ts ≡ Ok (a, rest) → FoundArrow strict (suc room) s marked h a ts rest
  unfolding bound_arrow_over
  arrow_read s marked h ts a rest e =
      elim (known (expect class.Arrow (after_mark ts))) [
        | stop d fails ↦ no_success _ _ (rw fails at e)
        | success o arrow ↦ (
            let e1 = rw arrow at e in
            elim (known (refuse_word strict (word_round s))) [
              | stop d fails ↦ no_success _ _ (rw fails at e1)
              | success u1 round ↦ (
                  let e2 = rw round at e1 in
                  elim (known (refuse_word strict marked)) [
                    | stop d fails ↦ no_success _ _ (rw fails at e2)
                    | success u2 front ↦ (
                        let e3 = rw front at e2 in
                        elim (known (if is_whole s && not h then Ok tt else refuse_word strict (word_beside ts))) [
                          | stop d fails ↦ no_success _ _ (rw fails at e3)
                          | success u3 here ↦ (
                              let e4 = rw here at e3 in
                              elim (known (side_over j (standing_beside (word_beside ts)) (after_mark o.1))) [
                                | stop d fails ↦ no_success _ _ (rw fails at e4)
                                | success x read ↦ (
                                    let e5 = rw read at e4 in
                                    let f = side_read (standing_beside (word_beside ts)) (after_mark o.1) x.0 x.1 read in
                                    let sg = expect_read class.Arrow (after_mark ts) o.0 o.1 arrow in
                                    let this : BoundArrowTree = record { left = mark_at ts; place = o.0; right = mark_at o.1; side = x.0.bound } in
                                    let may : strict ≡ true → ArrowAllowed s marked h (word_beside ts) this = λ is.
                                    let both = side_allowed (word_beside ts) x.0.marked x.0.bound (f.allowed is) in
                                    record {
                                      round = refused_word strict (word_round s) u1 round is;
                                      front = refused_word strict marked u2 front is;
                                      side = both.0;
                                      none = λ w. (no_left ts w, no_right ts o.0 o.1 w sg);
                                      some = some_of (word_beside ts) s h x.0.bound (here_allowed strict s h ts u3 here is) both.1;
                                    } in
                                    let g : FoundArrow strict (suc room) s marked h this ts x.1 = record {
                                      behind_left = after_mark ts;
                                      left = mark_read ts;
                                      behind_arrow = o.1;
                                      arrow = sg;
                                      behind_right = after_mark o.1;
                                      right = mark_read o.1;
                                      side = side_of f;
                                      allowed = may;
                                      shorter = omega (arith, after_mark_is_short ts, after_mark_is_short o.1, ap length sg.1, f.shorter);
                                    } in
                                    subst (λ us. FoundArrow strict (suc room) s marked h a ts us) (rest_is this a x.1 rest e5) (subst (λ b. FoundArrow strict (suc room) s marked h b ts x.1) (value_is this a x.1 rest e5) g))
                              ])
                        ])
                  ])
            ])
      ]

-- ---- arrows

pub record FoundArrows (room : ℕ) (as' : BoundArrows) (ts rest : List ParserToken) : Type 0 where
  spelled : spells_arrows as' ts rest
  shallow : depth_of_arrows as' < room
  shorter : length rest ≤ length ts

arrows_found : (strict : Bool) (room : ℕ) (s : Standing) (marked : Option (List ParserToken)) (h : Bool) (as' : List BoundArrowTree) (ts rest : List ParserToken) → each (FoundArrow strict (suc room) s marked h) as' ts rest
    → FoundArrows (suc room) (arrows_of as') ts rest
unfolding spells_arrows depth_of_arrows
arrows_found strict room s marked h [] ts rest p = record { spelled = p; shallow = omega arith; shorter = omega (arith, ap length p) }
arrows_found strict room s marked h (a ∷ as') ts rest p =
    let more = arrows_found strict room s marked h as' p.0 rest p.2 in
    let f = p.1.side in
    record {
      spelled = (p.1.behind_left, p.1.left, (p.1.behind_arrow, p.1.arrow, (p.1.behind_right, p.1.right, (p.0, (f.level, f.spelled), more.spelled))));
      shallow = omega (arith, f.shallow, more.shallow);
      shorter = omega (arith, p.1.shorter, more.shorter);
    }

-- the first arrow and the others, where no word stands beside any
words_of_one : (l r : Option MultiplicityWord) (b others : Bool) → l ≡ no_mark → r ≡ no_mark → b ≡ false → others ≡ false → (is_word l || (is_word r || (b || others))) ≡ false
words_of_one l r b others e1 e2 e3 e4 = rw (e1, e2, e3, e4) refl

no_words : (strict : Bool) (room : ℕ) (s : Standing) (marked : Option (List ParserToken)) (as' : List BoundArrowTree) (ts rest : List ParserToken) → each (FoundArrow strict (suc room) s marked true) as' ts rest → strict ≡ true
    → arrows_have_word (arrows_of as') ≡ false
unfolding arrows_have_word
no_words strict room s marked [] ts rest p is = refl
no_words strict room s marked (a ∷ as') ts rest p is =
    let may = p.1.allowed is in
    let none : word_beside ts ≡ no_word = elim may.some [ inl w ↦ w | inr q ↦ true_not_false q.1 ] in
    let marks_none = may.none none in
    words_of_one a.left a.right (has_word a.side) (arrows_have_word (arrows_of as')) marks_none.0 marks_none.1 may.side (no_words strict room s marked as' p.0 rest p.2 is)

first_no_word : (s : Standing) (m : Option (List ParserToken)) (b : BoundTree) → Allowed s m b → m ≡ no_word → has_word b ≡ false
first_no_word whole m b a none = a.0 none
first_no_word part m b a none = a
first_no_word (beside word) m b a none = a.0

or_false : (a b : Bool) → a ≡ false → b ≡ false → (a || b) ≡ false
or_false a b e f = rw (e, f) refl

-- no word stands in the bound that an arrow and others make
without_words : (strict : Bool) (room : ℕ) (s : Standing) (x : Bounded) (a : BoundArrowTree) (as' : List BoundArrowTree) (us vs rest : List ParserToken) → Allowed s x.marked x.bound → ArrowAllowed s x.marked x.has_arrow (word_beside us) a
    → each (FoundArrow strict (suc room) s (word_beside us) true) as' vs rest → strict ≡ true → word_beside us ≡ no_word → has_word (bound_arrows x.bound (arrows_of (a ∷ as'))) ≡ false
unfolding has_word arrows_have_word
without_words strict room s x a as' us vs rest first may p is none =
    let marks_none = may.none none in
    or_false (has_word x.bound) (arrows_have_word (arrows_of (a ∷ as'))) (first_no_word s x.marked x.bound first may.front)
    (words_of_one a.left a.right (has_word a.side) (arrows_have_word (arrows_of as')) marks_none.0 marks_none.1 may.side (no_words strict room s (word_beside us) as' vs rest p is))

one_arrow : (b : BoundTree) (a : BoundArrowTree) → has_arrow b ≡ false → has_arrow a.side ≡ false → is_one_arrow (bound_arrows b (arrows_of (a ∷ []))) ≡ true
unfolding is_one_arrow
one_arrow b a e f = rw (e, f) refl

whole_arrows : (strict : Bool) (room : ℕ) (x : Bounded) (a : BoundArrowTree) (as' : List BoundArrowTree) (us vs rest : List ParserToken) → Allowed whole x.marked x.bound → x.has_arrow ≡ has_arrow x.bound
    → ArrowAllowed whole x.marked x.has_arrow (word_beside us) a → each (FoundArrow strict (suc room) whole (word_beside us) true) as' vs rest → strict ≡ true → Allowed whole (word_beside us) (bound_arrows x.bound (arrows_of (a ∷ as')))
whole_arrows strict room x a [] us vs rest first same may p is =
    let without = without_words strict room whole x a [] us vs rest first may p is in
    (without, elim may.some [ inl none ↦ inl (without none) | inr q ↦ inr (one_arrow x.bound a (sym same ∙ q.1) q.2) ])
whole_arrows strict room x a (c ∷ as') us vs rest first same may p is =
    let without = without_words strict room whole x a (c ∷ as') us vs rest first may p is in
    (without, inl (without (p.1.allowed is).front))

arrows_allowed : (strict : Bool) (room : ℕ) (s : Standing) (x : Bounded) (a : BoundArrowTree) (as' : List BoundArrowTree) (us vs rest : List ParserToken) → Allowed s x.marked x.bound → x.has_arrow ≡ has_arrow x.bound
    → ArrowAllowed s x.marked x.has_arrow (word_beside us) a → each (FoundArrow strict (suc room) s (word_beside us) true) as' vs rest → strict ≡ true → Allowed s (word_beside us) (bound_arrows x.bound (arrows_of (a ∷ as')))
unfolding is_whole word_round
arrows_allowed strict room whole x a as' us vs rest first same may p is = whole_arrows strict room x a as' us vs rest first same may p is
arrows_allowed strict room part x a as' us vs rest first same may p is =
    without_words strict room part x a as' us vs rest first may p is (elim may.some [ inl none ↦ none | inr q ↦ true_not_false (sym q.0) ])
arrows_allowed strict room (beside word) x a as' us vs rest first same may p is = some_not_none word may.round

arrows_bound : (strict : Bool) (room : ℕ) (s : Standing) (x : Bounded) (a : BoundArrowTree) (as' : List BoundArrowTree) (ts us vs rest : List ParserToken) → FoundBound strict (suc room) 2 s x ts us
    → FoundArrow strict (suc room) s x.marked x.has_arrow a us vs → each (FoundArrow strict (suc room) s (word_beside us) true) as' vs rest
    → FoundBound strict (suc room) 1 s (record { bound = bound_arrows x.bound (arrows_of (a ∷ as')); marked = word_beside us; has_arrow = true }) ts rest
unfolding spells_bound spells_arrows depth_of_bound depth_of_arrows has_arrow
arrows_bound strict room s x a as' ts us vs rest f g p =
    let more = arrows_found strict room s (word_beside us) true as' vs rest p in
    let k = g.side in
    record {
      spelled = (refl, (us, (f.level, f.spelled), (g.behind_left, g.left, (g.behind_arrow, g.arrow, (g.behind_right, g.right, (vs, (k.level, k.spelled), more.spelled))))));
      level = omega arith;
      shallow = omega (arith, f.shallow, k.shallow, more.shallow);
      arrows = refl;
      allowed = λ is. arrows_allowed strict room s x a as' us vs rest (f.allowed is) f.arrows (g.allowed is) p is;
      shorter = omega (arith, f.shorter, g.shorter, more.shorter);
    }

-- ---- unions

operand_no_word : (s : Standing) (m : Option (List ParserToken)) (b : BoundTree) → Allowed (operand_in s) m b → has_word b ≡ false
unfolding operand_in
operand_no_word whole m b a = a
operand_no_word part m b a = a
operand_no_word (beside word) m b a = a.0

pub record FoundOperand (strict : Bool) (room : ℕ) (s : Standing) (u : Place × Bounded) (ts rest : List ParserToken) : Type 0 where
  pub behind : List ParserToken
  pub plus : sign class.Plus u.0 ts behind
  pub found : FoundBound strict room 1 (operand_in s) u.1 behind rest

abbrev trees_in : List (Place × Bounded) → BoundUnions
trees_in us = unions_of (map (λ x. (x.0, x.1.bound)) us)

pub record FoundUnions (strict : Bool) (room : ℕ) (s : Standing) (us : List (Place × Bounded)) (ts rest : List ParserToken) : Type 0 where
  spelled : spells_unions (trees_in us) ts rest
  shallow : depth_of_unions (trees_in us) < room
  arrows : list_any (λ x. x.1.has_arrow) us ≡ unions_have_arrow (trees_in us)
  words : strict ≡ true → unions_have_word (trees_in us) ≡ false
  shorter : length rest ≤ length ts

unions_found : (strict : Bool) (room : ℕ) (s : Standing) (us : List (Place × Bounded)) (ts rest : List ParserToken) → each (FoundOperand strict (suc room) s) us ts rest → FoundUnions strict (suc room) s us ts rest
unfolding spells_unions depth_of_unions unions_have_arrow unions_have_word
unions_found strict room s [] ts rest p = record { spelled = p; shallow = omega arith; arrows = refl; words = λ _. refl; shorter = omega (arith, ap length p) }
unions_found strict room s (u ∷ us) ts rest p =
    let more = unions_found strict room s us p.0 rest p.2 in
    let f = p.1.found in
    record {
      spelled = (p.1.behind, p.1.plus, (p.0, (f.level, f.spelled), more.spelled));
      shallow = omega (arith, f.shallow, more.shallow);
      arrows = rw (f.arrows, more.arrows) refl;
      words = λ is. or_false (has_word u.1.bound) (unions_have_word (trees_in us)) (operand_no_word s u.1.marked u.1.bound (f.allowed is)) (more.words is);
      shorter = omega (arith, ap length p.1.plus.1, f.shorter, more.shorter);
    }

-- beside a word no operand has an arrow
no_arrows_beside : (strict : Bool) (room : ℕ) (word : List ParserToken) (us : List (Place × Bounded)) (ts rest : List ParserToken) → each (FoundOperand strict (suc room) (beside word)) us ts rest → strict ≡ true → unions_have_arrow (trees_in us) ≡ false
unfolding unions_have_arrow operand_in
no_arrows_beside strict room word [] ts rest p is = refl
no_arrows_beside strict room word (u ∷ us) ts rest p is =
    or_false (has_arrow u.1.bound) (unions_have_arrow (trees_in us)) (p.1.found.allowed is).1 (no_arrows_beside strict room word us p.0 rest p.2 is)

union_allowed : (strict : Bool) (room : ℕ) (s : Standing) (x : Bounded) (us : List (Place × Bounded)) (ts rest : List ParserToken) → Allowed s x.marked x.bound → x.marked ≡ no_word → each (FoundOperand strict (suc room) s) us ts rest → strict ≡ true
    → Allowed s no_word (bound_union x.bound (trees_in us))
unfolding has_word has_arrow
union_allowed strict room whole x us ts rest first none p is =
    let without = or_false (has_word x.bound) (unions_have_word (trees_in us)) (first_no_word whole x.marked x.bound first none) ((unions_found strict room whole us ts rest p).words is) in
    (λ _. without, inl without)
union_allowed strict room part x us ts rest first none p is =
    or_false (has_word x.bound) (unions_have_word (trees_in us)) (first_no_word part x.marked x.bound first none) ((unions_found strict room part us ts rest p).words is)
union_allowed strict room (beside word) x us ts rest first none p is = (
  or_false (has_word x.bound) (unions_have_word (trees_in us)) (first_no_word (beside word) x.marked x.bound first none) ((unions_found strict room (beside word) us ts rest p).words is),
  or_false (has_arrow x.bound) (unions_have_arrow (trees_in us)) first.1 (no_arrows_beside strict room word us ts rest p is),
)

union_bound : (strict : Bool) (room : ℕ) (s : Standing) (x : Bounded) (u : Place × Bounded) (us : List (Place × Bounded)) (ts vs rest : List ParserToken) → FoundBound strict (suc room) 1 s x ts vs → (strict ≡ true → x.marked ≡ no_word)
    → each (FoundOperand strict (suc room) s) (u ∷ us) vs rest
    → FoundBound strict (suc room) 0 s (record { bound = bound_union x.bound (trees_in (u ∷ us)); marked = no_word; has_arrow = x.has_arrow || list_any (λ y. y.1.has_arrow) (u ∷ us) }) ts rest
unfolding spells_bound depth_of_bound has_arrow
union_bound strict room s x u us ts vs rest f none p =
    let more = unions_found strict room s (u ∷ us) vs rest p in
    record {
      spelled = (refl, (vs, (f.level, f.spelled), more.spelled));
      level = omega arith;
      shallow = omega (arith, f.shallow, more.shallow);
      arrows = rw (f.arrows, more.arrows) refl;
      allowed = λ is. union_allowed strict room s x (u ∷ us) vs rest (f.allowed is) (none is) p is;
      shorter = omega (arith, f.shorter, more.shorter);
    }

module _ (strict : Bool) (room : ℕ) (j : BoundReader) (below : BoundBelow strict room j) where
  bound_arrows_read : (s : Standing) (ts : List ParserToken) (x : Bounded) (rest : List ParserToken) → bound_arrows_over strict j s ts ≡ Ok (x, rest) → FoundBound strict (suc room) 1 s x ts rest
  unfolding bound_arrows_over more_bound_arrows
  bound_arrows_read s ts x rest e =
      elim (known (side_over j s ts)) [
        | stop d fails ↦ no_success _ _ (rw fails at e)
        | success y is ↦ (
            let e1 = rw is at e in
            let f = side_read strict room j below s ts y.0 y.1 is in
            elim (either (begins_bound_arrow y.1)) [
              | inr ends ↦ (let e2 = rw ends at e1 in bound_lowered 1 (omega arith) (bound_land e2 f))
              | inl goes ↦ (
                  let e2 = rw goes at e1 in
                  elim (known (bound_arrow_over strict j s y.0.marked y.0.has_arrow y.1)) [
                    | stop d fails ↦ no_success _ _ (rw fails at e2)
                    | success a first ↦ (
                        let e3 = rw first at e2 in
                        elim (known (many begins_bound_arrow (bound_arrow_over strict j s (word_beside y.1) true) a.1)) [
                          | stop d fails ↦ no_success _ _ (rw fails at e3)
                          | success bs more ↦ (
                              let e4 = rw more at e3 in
                              let all = each_of (Taken begins_bound_arrow (bound_arrow_over strict j s (word_beside y.1) true)) (FoundArrow strict (suc room) s (word_beside y.1) true)
                              (λ b us vs t. arrow_read strict room j below s (word_beside y.1) true us b vs t.1) bs.0 a.1 bs.1 (many_read begins_bound_arrow (bound_arrow_over strict j s (word_beside y.1) true) a.1 bs.0 bs.1 more) in
                              bound_land e4 (arrows_bound strict room s y.0 a.0 bs.0 ts y.1 a.1 bs.1 f (arrow_read strict room j below s y.0.marked y.0.has_arrow y.1 a.0 a.1 first) all))
                        ])
                  ])
            ])
      ]

  pub operand_read : (s : Standing) (ts : List ParserToken) (u : Place × Bounded) (rest : List ParserToken) → next_is class.Plus ts ≡ true → operand_over strict j s ts ≡ Ok (u, rest) → FoundOperand strict (suc room) s u ts rest
  unfolding operand_over
  operand_read s ts u rest goes e =
      elim (known (bound_arrows_over strict j (operand_in s) (after ts))) [
        | stop d fails ↦ no_success _ _ (rw fails at e)
        | success x is ↦ (
            let e1 = rw is at e in
            let this : Place × Bounded = (place_at ts, x.0) in
            let f : FoundOperand strict (suc room) s this ts x.1 = record { behind = after ts; plus = token class.Plus ts goes; found = bound_arrows_read (operand_in s) (after ts) x.0 x.1 is } in
            subst (λ us. FoundOperand strict (suc room) s u ts us) (rest_is this u x.1 rest e1) (subst (λ (v : Place × Bounded). FoundOperand strict (suc room) s v ts x.1) (value_is this u x.1 rest e1) f))
      ]

  operands_shorten : (s : Standing) → Shortens (next_is class.Plus) (operand_over strict j s)
  operands_shorten s ts u rest goes e = let f = operand_read s ts u rest goes e in omega (arith, ap length f.plus.1, f.found.shorter)

  unions_of_operands : (s : Standing) (x : Bounded) (us : List (Place × Bounded)) (ts vs rest : List ParserToken) → FoundBound strict (suc room) 1 s x ts vs → (strict ≡ true → x.marked ≡ no_word) → next_is class.Plus vs ≡ true
      → each (Taken (next_is class.Plus) (operand_over strict j s)) us vs rest → next_is class.Plus rest ≡ false
      → FoundBound strict (suc room) 0 s (record { bound = bound_union x.bound (trees_in us); marked = no_word; has_arrow = x.has_arrow || list_any (λ y. y.1.has_arrow) us }) ts rest
  unions_of_operands s x [] ts vs rest f none goes p ends = true_not_false (sym goes ∙ (ap (next_is class.Plus) p ∙ ends))
  unions_of_operands s x (u ∷ us) ts vs rest f none goes p ends =
      union_bound strict room s x u us ts vs rest f none (each_of (Taken (next_is class.Plus) (operand_over strict j s)) (FoundOperand strict (suc room) s) (λ v ws os t. operand_read s ws v os t.0 t.1) (u ∷ us) vs rest p)

  bound_read : (s : Standing) (ts : List ParserToken) (x : Bounded) (rest : List ParserToken) → bound_over strict j s ts ≡ Ok (x, rest) → FoundBound strict (suc room) 0 s x ts rest
  unfolding bound_over
  bound_read s ts x rest e =
      elim (known (bound_arrows_over strict j s ts)) [
        | stop d fails ↦ no_success _ _ (rw fails at e)
        | success y is ↦ (
            let e1 = rw is at e in
            let f = bound_arrows_read s ts y.0 y.1 is in
            elim (either (next_is class.Plus y.1)) [
              | inr ends ↦ (let e2 = rw ends at e1 in bound_lowered 0 (omega arith) (bound_land e2 f))
              | inl goes ↦ (
                  let e2 = rw goes at e1 in
                  elim (known (refuse_word strict y.0.marked)) [
                    | stop d fails ↦ no_success _ _ (rw fails at e2)
                    | success w front ↦ (
                        let e3 = rw front at e2 in
                        elim (known (many (next_is class.Plus) (operand_over strict j s) y.1)) [
                          | stop d fails ↦ no_success _ _ (rw fails at e3)
                          | success us more ↦ (
                              let e4 = rw more at e3 in
                              bound_land e4 (unions_of_operands s y.0 us.0 ts y.1 us.1 f (refused_word strict y.0.marked w front) goes (many_read (next_is class.Plus) (operand_over strict j s) y.1 us.0 us.1 more)
                              (many_stops (next_is class.Plus) (operand_over strict j s) (operands_shorten s) y.1 us.0 us.1 more)))
                        ])
                  ])
            ])
      ]

pub bounds_read : (strict : Bool) (room : ℕ) → BoundBelow strict room (bound_within strict room)
unfolding bound_within
bounds_read strict zero s ts x rest e =
    elim (either (begins_bound ts)) [ inl is ↦ no_success _ _ (rw is at e) | inr other ↦ no_success _ _ (rw other at e) ]
bounds_read strict (suc room) s ts x rest e = bound_read strict room (bound_within strict room) (bounds_read strict room) s ts x rest e

-- what is found of a field's bound
pub record FoundWhole (strict : Bool) (room : ℕ) (b : BoundTree) (ts rest : List ParserToken) : Type 0 where
  pub spelled : spells_bound b ts rest
  pub shallow : depth_of_bound b < room
  pub plain : strict ≡ true → is_plain_bound b ≡ true
  pub shorter : length rest < length ts

plain_of : (b : BoundTree) → (has_word b ≡ false) ⊎ (is_one_arrow b ≡ true) → is_plain_bound b ≡ true
plain_of b (inl none) = rw none refl
plain_of b (inr one) = elim (either (has_word b)) [ inl is ↦ rw (is, one) refl | inr none ↦ rw none refl ]

pub whole_read : (strict : Bool) (room : ℕ) (ts : List ParserToken) (x : Bounded) (rest : List ParserToken) → bound_within strict room whole ts ≡ Ok (x, rest) → FoundWhole strict room x.bound ts rest
whole_read strict room ts x rest e =
    let f = bounds_read strict room whole ts x rest e in
    record { spelled = f.spelled; shallow = f.shallow; plain = λ is. plain_of x.bound (f.allowed is).1; shorter = f.shorter }
