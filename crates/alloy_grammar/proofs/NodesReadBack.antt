-- What spells a node is read as it, where what stands behind ends it.
use Rattle.std.proofs.Common.{◌≡◌, ℕ, zero, suc, ◌≤◌, ◌<◌, ◌⊎◌, inl, inr, Bool, true, false, ◌&&◌, List, [], ◌∷◌, length, Ok, refl, sym, ap, subst, ◌∙◌, arith}
use Rattle.std.proofs.Common.{nat_le}
use Rattle.std.proofs.lemmas.Grind.{common_steps}
use Rattle.alloy_lex.specs.declared.token.Place.{Place}
use Rattle.alloy_syntax.specs.declared.class.Class.{Class}
use Rattle.alloy_syntax.specs.declared.class.Class.TheVariants as class
use Rattle.alloy_syntax.specs.declared.reading.Around.{Around}
use Rattle.alloy_syntax.specs.declared.reading.Around.TheVariants as around
use Rattle.alloy_syntax.specs.declared.reading.Level.{Level}
use Rattle.alloy_syntax.specs.declared.reading.Level.TheVariants as level
use Rattle.alloy_syntax.specs.declared.reading.Inside.{Inside}
use Rattle.alloy_syntax.specs.declared.reading.Inside.TheVariants as inside
use Rattle.alloy_syntax.specs.declared.tree.Name.{Name}
use Rattle.alloy_syntax.specs.declared.tree.Number.{Number}
use Rattle.alloy_syntax.specs.declared.tree.Constant.{Constant}
use Rattle.alloy_syntax.specs.declared.tree.Constant.TheVariants as constants
use Rattle.alloy_syntax.specs.declared.tree.Prefix.{Prefix}
use Rattle.alloy_syntax.specs.declared.tree.Prefix.TheVariants as prefix
use Rattle.alloy_syntax.specs.declared.tree.Operator.{Operator}
use Rattle.alloy_syntax.specs.declared.tree.Operator.TheVariants as operator
use Rattle.alloy_syntax.specs.declared.tree.Comparison.{Comparison}
use Rattle.alloy_syntax.specs.declared.tree.Comparison.TheVariants as comparison
use Rattle.alloy_syntax.specs.declared.tree.Comparing.{Comparing}
use Rattle.alloy_syntax.specs.declared.parser_token.ParserToken.{ParserToken}
use Rattle.alloy_syntax.specs.Class.{is_class}
use Rattle.alloy_syntax.specs.Tree.{Tree, named, numbered, constant, bracketed, prefixed, chain, compared, LinkTree, links_of}
use Rattle.alloy_syntax.specs.Readers.{Parser, next_is, after, place_at, expect, spelled_at, number_at, value_from, is_mark, many, repeated}
use Rattle.alloy_syntax.specs.Nodes.{Reader, block_tree, paren_over, is_constant, constant_of, primary_over, is_tightening, tightening_of, behind_prefix, tight_over, path_over, begins_link, operator_of, link_over, chained, restrict_over, begins_arrow, arrow_over, arrows_over, meet_over, override_over, size_over, sum_over, is_counting, counting_of, counted_over, is_plain_comparison, begins_comparison, comparison_of, negated_comparing, comparing_at, comparison_over, begins_declaration, negation_over, and_over, implication_over, iff_over, node_over}
use Rattle.alloy_grammar.specs.Fronts.{Front, sign, mark_of, spelled_as, name, number, each}
use Rattle.alloy_grammar.specs.Levels.{level_of_operator, level_of_prefix}
use Rattle.alloy_grammar.specs.Nodes.{class_of_constant, class_of_prefix, class_of_operator, class_of_comparison, comparing, comparing_over}
use Rattle.alloy_grammar.proofs.Results.{either, got}
use Rattle.alloy_grammar.proofs.Tokens.{marks}
use Rattle.alloy_grammar.proofs.FirstTokens.{rank, First, looser, never_first, too_loose}
use Rattle.alloy_grammar.proofs.TextEnds.{same_class, is_next, after_is, differs, Ends}

-- ---- one token

class_true : (c : Class) (ts rest : List ParserToken) (m : mark_of c ts rest) → is_class m.0.class c ≡ true
class_true c ts rest m = subst (λ k. is_class k c ≡ true) (sym m.2) (same_class c)

pub mark_full : (c : Class) (ts rest : List ParserToken) (m : mark_of c ts rest) → expect c ts ≡ Ok (m.0.place, rest)
unfolding expect
mark_full c ts rest m = subst (λ us. expect c us ≡ Ok (m.0.place, rest)) (sym m.1) (rw (class_true c ts rest m) refl)

pub expect_full : (c : Class) (p : Place) (ts rest : List ParserToken) → sign c p ts rest → expect c ts ≡ Ok (p, rest)
expect_full c p ts rest s = mark_full c ts rest (s.0, s.1, s.2) ∙ ap (λ q. got q rest) s.3

pub spelled_full : (c : Class) (n : Name) (ts rest : List ParserToken) → spelled_as c n ts rest → spelled_at c ts ≡ Ok (n, rest)
unfolding spelled_at
spelled_full c n ts rest s =
    let same : record { text = s.0.text; place = s.0.place } ≡ n = λ i. record { text = s.3 i; place = s.4 i } in
    subst (λ us. spelled_at c us ≡ Ok (n, rest)) (sym s.1) (rw (class_true c ts rest (s.0, s.1, s.2)) (ap (λ (m : Name). got m rest) same))

pub number_full : (n : Number) (ts rest : List ParserToken) → number n ts rest → number_at ts ≡ Ok (n, rest)
unfolding number_at
number_full n ts rest s =
    let same : record { value = value_from 0 s.0.text; place = s.0.place } ≡ n = λ i. record { value = s.3 i; place = s.4 i } in
    subst (λ us. number_at us ≡ Ok (n, rest)) (sym s.1) (rw (class_true class.Number ts rest (s.0, s.1, s.2)) (ap (λ (m : Number). got m rest) same))

pub place_is : (c : Class) (p : Place) (ts rest : List ParserToken) → sign c p ts rest → place_at ts ≡ p
place_is c p ts rest s = ap place_at s.1 ∙ s.3

-- ---- one after the other

-- the item is read, and takes a token
abbrev pub Goes : {A : Type 0} → (List ParserToken → Bool) → Parser A → A → Front
Goes test item x ts rest = (test ts ≡ true) × (item ts ≡ Ok (x, rest)) × (length rest < length ts)

repeated_full : {A : Type 0} (test : List ParserToken → Bool) (item : Parser A) (n : ℕ) (xs : List A) (ts rest : List ParserToken) → length ts < n → each (Goes test item) xs ts rest → test rest ≡ false → repeated test item n ts ≡ Ok (xs, rest)
unfolding repeated
repeated_full test item zero xs ts rest enough p ends = absurd (omega arith)
repeated_full {A} test item (suc n) [] ts rest enough p ends = subst (λ us. repeated test item (suc n) us ≡ Ok ([], rest)) (sym p) (rw ends refl)
repeated_full {A} test item (suc n) (x ∷ xs) ts rest enough p ends = let more = repeated_full test item n xs p.0 rest (omega (arith, p.1.2)) p.2 ends in rw (p.1.0, p.1.1, more) refl

pub many_full : {A : Type 0} (test : List ParserToken → Bool) (item : Parser A) (xs : List A) (ts rest : List ParserToken) → each (Goes test item) xs ts rest → test rest ≡ false → many test item ts ≡ Ok (xs, rest)
many_full test item xs ts rest p ends = repeated_full test item (suc (length ts)) xs ts rest (omega arith) p ends

-- ---- readers by level

abbrev pub reader : Reader → Around → ℕ → Parser Tree
reader i a zero = node_over i a
reader i a (suc zero) = iff_over i a
reader i a (suc (suc zero)) = implication_over i a
reader i a (suc (suc (suc zero))) = and_over i a
reader i a (suc (suc (suc (suc zero)))) = negation_over i a
reader i a (suc (suc (suc (suc (suc zero))))) = comparison_over i a
reader i a (suc (suc (suc (suc (suc (suc zero)))))) = counted_over i a
reader i a (suc (suc (suc (suc (suc (suc (suc zero))))))) = sum_over i a
reader i a (suc (suc (suc (suc (suc (suc (suc (suc zero)))))))) = size_over i a
reader i a (suc (suc (suc (suc (suc (suc (suc (suc (suc zero))))))))) = override_over i a
reader i a (suc (suc (suc (suc (suc (suc (suc (suc (suc (suc zero)))))))))) = meet_over i a
reader i a (suc (suc (suc (suc (suc (suc (suc (suc (suc (suc (suc zero))))))))))) = arrows_over i a
reader i a (suc (suc (suc (suc (suc (suc (suc (suc (suc (suc (suc (suc zero)))))))))))) = restrict_over i a
reader i a (suc (suc (suc (suc (suc (suc (suc (suc (suc (suc (suc (suc (suc zero))))))))))))) = path_over i a
reader i a (suc (suc (suc (suc (suc (suc (suc (suc (suc (suc (suc (suc (suc (suc zero)))))))))))))) = tight_over i a
reader i a (suc (suc (suc (suc (suc (suc (suc (suc (suc (suc (suc (suc (suc (suc (suc n))))))))))))))) = primary_over i

-- what begins the tokens of a part that is read from level l on
pub record Fronts (a : Around) (l m : ℕ) (ts : List ParserToken) : Type 0 where
  pub first : First m ts
  pub counted : l ≤ 4 → 5 ≤ m → (is_counting ts && begins_declaration a (after ts)) ≡ false

chained_one : (lv : Level) (item : Parser Tree) (ts : List ParserToken) (x : Tree) (rest : List ParserToken) → item ts ≡ Ok (x, rest) → begins_link lv rest ≡ false → chained lv item ts ≡ Ok (x, rest)
unfolding chained
chained_one lv item ts x rest e ends = rw (e, ends) refl

pub not_counting : (ts : List ParserToken) → First 7 ts → is_counting ts ≡ false
unfolding is_counting rank
not_counting ts f = rw (too_loose class.Some 7 (omega arith) ts f, too_loose class.No 7 (omega arith) ts f, too_loose class.Lone 7 (omega arith) ts f, too_loose class.One 7 (omega arith) ts f) refl

not_tightening : (ts : List ParserToken) → First 15 ts → is_tightening ts ≡ false
unfolding is_tightening rank
not_tightening ts f = rw (too_loose class.Tilde 15 (omega arith) ts f, too_loose class.Caret 15 (omega arith) ts f, too_loose class.Star 15 (omega arith) ts f) refl

step : (i : Reader) (a : Around) (l : ℕ) (x : Tree) (ts rest : List ParserToken) (k : ℕ) → l ≤ k → Fronts a l (suc k) ts → Ends a l rest → reader i a (suc k) ts ≡ Ok (x, rest) → reader i a k ts ≡ Ok (x, rest)
unfolding node_over iff_over implication_over and_over negation_over comparison_over counted_over sum_over size_over override_over meet_over arrows_over restrict_over path_over tight_over begins_link rank
step i a l x ts rest zero less f ends e = chained_one level.Or (iff_over i a) ts x rest e (ends.disjunction less)
step i a l x ts rest (suc zero) less f ends e = chained_one level.Iff (implication_over i a) ts x rest e (ends.iff less)
step i a l x ts rest (suc (suc zero)) less f ends e = rw (e, ends.implication less) refl
step i a l x ts rest (suc (suc (suc zero))) less f ends e = chained_one level.And (negation_over i a) ts x rest e (ends.conjunction less)
step i a l x ts rest (suc (suc (suc (suc zero)))) less f ends e =
    rw (too_loose class.Not 5 (omega arith) ts f.first, too_loose class.All 5 (omega arith) ts f.first, too_loose class.Let 5 (omega arith) ts f.first, f.counted less (omega arith)) e
step i a l x ts rest (suc (suc (suc (suc (suc zero))))) less f ends e = rw (e, ends.comparison less) refl
step i a l x ts rest (suc (suc (suc (suc (suc (suc zero)))))) less f ends e = rw (not_counting ts f.first) e
step i a l x ts rest (suc (suc (suc (suc (suc (suc (suc zero))))))) less f ends e = chained_one level.Sum (size_over i a) ts x rest e (ends.sum less)
step i a l x ts rest (suc (suc (suc (suc (suc (suc (suc (suc zero)))))))) less f ends e = rw (too_loose class.Hash 9 (omega arith) ts f.first) e
step i a l x ts rest (suc (suc (suc (suc (suc (suc (suc (suc (suc zero))))))))) less f ends e = chained_one level.Override (meet_over i a) ts x rest e (ends.override less)
step i a l x ts rest (suc (suc (suc (suc (suc (suc (suc (suc (suc (suc zero)))))))))) less f ends e = chained_one level.Meet (arrows_over i a) ts x rest e (ends.meet less)
step i a l x ts rest (suc (suc (suc (suc (suc (suc (suc (suc (suc (suc (suc zero))))))))))) less f ends e = rw (e, ends.arrow less) refl
step i a l x ts rest (suc (suc (suc (suc (suc (suc (suc (suc (suc (suc (suc (suc zero)))))))))))) less f ends e = chained_one level.Restrict (path_over i a) ts x rest e (ends.restrict less)
step i a l x ts rest (suc (suc (suc (suc (suc (suc (suc (suc (suc (suc (suc (suc (suc zero))))))))))))) less f ends e = rw (e, ends.step less) refl
step i a l x ts rest (suc (suc (suc (suc (suc (suc (suc (suc (suc (suc (suc (suc (suc (suc zero)))))))))))))) less f ends e = rw (not_tightening ts f.first) e
step i a l x ts rest (suc (suc (suc (suc (suc (suc (suc (suc (suc (suc (suc (suc (suc (suc (suc n))))))))))))))) less f ends e = e

fronts_of : (a : Around) (l m : ℕ) (ts : List ParserToken) → Fronts a l (suc m) ts → Fronts a l m ts
fronts_of a l m ts f = record { first = looser m (omega arith) f.first; counted = λ h k. f.counted h (omega arith) }

same_or_less : (l m : ℕ) → l ≤ suc m → (l ≤ m) ⊎ (l ≡ suc m)
same_or_less l m h = elim (either (nat_le l m)) [ inl is ↦ inl (grind (arith, common_steps)) | inr is ↦ inr (grind (arith, common_steps)) ]

-- what is read at a level is read at a looser one
pub climb : (i : Reader) (a : Around) (x : Tree) (ts rest : List ParserToken) (m l : ℕ) → l ≤ m → Fronts a l m ts → Ends a l rest → reader i a m ts ≡ Ok (x, rest) → reader i a l ts ≡ Ok (x, rest)
climb i a x ts rest zero l less f ends e = let same : zero ≡ l = omega arith in subst (λ k. reader i a k ts ≡ Ok (x, rest)) same e
climb i a x ts rest (suc m) l less f ends e =
    elim (same_or_less l m less) [
      | inr same ↦ subst (λ k. reader i a k ts ≡ Ok (x, rest)) (sym same) e
      | inl lower ↦ climb i a x ts rest m l lower (fronts_of a l m ts f) ends (step i a l x ts rest m lower f ends e)
    ]

-- ---- primaries

not_constant : (c : Class) (ts rest : List ParserToken) → mark_of c ts rest → is_class c class.None ≡ false → is_class c class.Univ ≡ false → is_class c class.Iden ≡ false → is_constant ts ≡ false
unfolding is_constant
not_constant c ts rest m e1 e2 e3 = rw (differs c class.None ts rest m e1, differs c class.Univ ts rest m e2, differs c class.Iden ts rest m e3) refl

pub named_full : (i : Reader) (n : Name) (ts rest : List ParserToken) → name n ts rest → primary_over i ts ≡ Ok (named n, rest)
unfolding primary_over
named_full i n ts rest s = rw (is_next class.Name ts rest (s.0, s.1, s.2), spelled_full class.Name n ts rest s) refl

pub path_named_full : (i : Reader) (n : Name) (ts rest : List ParserToken) → spelled_as class.Path n ts rest → primary_over i ts ≡ Ok (named n, rest)
unfolding primary_over is_class
path_named_full i n ts rest s = let m : mark_of class.Path ts rest = (s.0, s.1, s.2) in rw (differs class.Path class.Name ts rest m refl, is_next class.Path ts rest m, spelled_full class.Path n ts rest s) refl

pub numbered_full : (i : Reader) (n : Number) (ts rest : List ParserToken) → number n ts rest → primary_over i ts ≡ Ok (numbered n, rest)
unfolding primary_over is_class
numbered_full i n ts rest s = let m : mark_of class.Number ts rest = (s.0, s.1, s.2) in rw (differs class.Number class.Name ts rest m refl, differs class.Number class.Path ts rest m refl, is_next class.Number ts rest m, number_full n ts rest s) refl

constant_read : (i : Reader) (c : Constant) (p : Place) (ts rest : List ParserToken) → sign (class_of_constant c) p ts rest → next_is class.Name ts ≡ false → next_is class.Path ts ≡ false → next_is class.Number ts ≡ false → is_constant ts ≡ true → constant_of ts ≡ c
    → primary_over i ts ≡ Ok (constant c p, rest)
unfolding primary_over
constant_read i c p ts rest s e1 e2 e3 is same = rw (e1, e2, e3, is, same, place_is (class_of_constant c) p ts rest s, after_is (class_of_constant c) ts rest (s.0, s.1, s.2)) refl

pub constant_full : (i : Reader) (c : Constant) (p : Place) (ts rest : List ParserToken) → sign (class_of_constant c) p ts rest → primary_over i ts ≡ Ok (constant c p, rest)
unfolding is_constant constant_of is_class
constant_full i constants.None p ts rest s =
    let m = marks class.None p ts rest s in
    let is = is_next class.None ts rest m in
    constant_read i constants.None p ts rest s (differs class.None class.Name ts rest m refl) (differs class.None class.Path ts rest m refl) (differs class.None class.Number ts rest m refl) (rw is refl) (rw is refl)
constant_full i constants.Univ p ts rest s =
    let m = marks class.Univ p ts rest s in
    let is = is_next class.Univ ts rest m in
    let none = differs class.Univ class.None ts rest m refl in
    constant_read i constants.Univ p ts rest s (differs class.Univ class.Name ts rest m refl) (differs class.Univ class.Path ts rest m refl) (differs class.Univ class.Number ts rest m refl) (rw (none, is) refl) (rw (none, is) refl)
constant_full i constants.Iden p ts rest s =
    let m = marks class.Iden p ts rest s in
    let is = is_next class.Iden ts rest m in
    let none = differs class.Iden class.None ts rest m refl in
    let univ = differs class.Iden class.Univ ts rest m refl in
    constant_read i constants.Iden p ts rest s (differs class.Iden class.Name ts rest m refl) (differs class.Iden class.Path ts rest m refl) (differs class.Iden class.Number ts rest m refl) (rw (none, univ, is) refl) (rw (none, univ) refl)

pub paren_full : (i : Reader) (p : Place) (x : Tree) (ts us vs rest : List ParserToken) → sign class.LeftParen p ts us → i around.Parens inside.Node us ≡ Ok (x, vs) → mark_of class.RightParen vs rest → primary_over i ts ≡ Ok (bracketed p x, rest)
unfolding primary_over paren_over is_class
paren_full i p x ts us vs rest s e c =
    let m = marks class.LeftParen p ts us s in
    rw (differs class.LeftParen class.Name ts us m refl, differs class.LeftParen class.Path ts us m refl, differs class.LeftParen class.Number ts us m refl, not_constant class.LeftParen ts us m refl refl refl, is_next class.LeftParen ts us m, expect_full class.LeftParen p ts us s, e, mark_full class.RightParen vs rest c) refl

pub brace_is_block : (i : Reader) (ts us : List ParserToken) → mark_of class.LeftBrace ts us → primary_over i ts ≡ block_tree i ts
unfolding primary_over is_class
brace_is_block i ts us m =
    rw (differs class.LeftBrace class.Name ts us m refl, differs class.LeftBrace class.Path ts us m refl, differs class.LeftBrace class.Number ts us m refl, not_constant class.LeftBrace ts us m refl refl refl, differs class.LeftBrace class.LeftParen ts us m refl) refl

-- ---- prefixes

-- what stands behind a prefix
unfoldable pub part_of : Prefix → Inside
part_of prefix.Not = inside.Negation
part_of prefix.No = inside.Sum
part_of prefix.Some = inside.Sum
part_of prefix.Lone = inside.Sum
part_of prefix.One = inside.Sum
part_of prefix.Size = inside.Size
part_of prefix.Transpose = inside.Tight
part_of prefix.Closure = inside.Tight
part_of prefix.ReflexiveClosure = inside.Tight

behind_full : (f : Prefix) (item : Parser Tree) (p : Place) (x : Tree) (ts us rest : List ParserToken) → sign (class_of_prefix f) p ts us → item us ≡ Ok (x, rest) → behind_prefix f item ts ≡ Ok (prefixed f p x, rest)
unfolding behind_prefix
behind_full f item p x ts us rest s e = rw (after_is (class_of_prefix f) ts us (s.0, s.1, s.2), e, place_is (class_of_prefix f) p ts us s) refl

pub prefixed_full : (i : Reader) (a : Around) (f : Prefix) (p : Place) (x : Tree) (ts us rest : List ParserToken) → sign (class_of_prefix f) p ts us → i a (part_of f) us ≡ Ok (x, rest) → reader i a (level_of_prefix f) ts ≡ Ok (prefixed f p x, rest)
unfolding part_of negation_over counted_over size_over tight_over is_counting counting_of is_tightening tightening_of is_class
prefixed_full i a prefix.Not p x ts us rest s e = rw (is_next class.Not ts us (marks class.Not p ts us s)) (behind_full prefix.Not (i a inside.Negation) p x ts us rest s e)
prefixed_full i a prefix.Some p x ts us rest s e = rw (is_next class.Some ts us (marks class.Some p ts us s)) (behind_full prefix.Some (i a inside.Sum) p x ts us rest s e)
prefixed_full i a prefix.No p x ts us rest s e =
    let m = marks class.No p ts us s in
    rw (differs class.No class.Some ts us m refl, is_next class.No ts us m) (behind_full prefix.No (i a inside.Sum) p x ts us rest s e)
prefixed_full i a prefix.Lone p x ts us rest s e =
    let m = marks class.Lone p ts us s in
    rw (differs class.Lone class.Some ts us m refl, differs class.Lone class.No ts us m refl, is_next class.Lone ts us m) (behind_full prefix.Lone (i a inside.Sum) p x ts us rest s e)
prefixed_full i a prefix.One p x ts us rest s e =
    let m = marks class.One p ts us s in
    rw (differs class.One class.Some ts us m refl, differs class.One class.No ts us m refl, differs class.One class.Lone ts us m refl, is_next class.One ts us m) (behind_full prefix.One (i a inside.Sum) p x ts us rest s e)
prefixed_full i a prefix.Size p x ts us rest s e = rw (is_next class.Hash ts us (marks class.Hash p ts us s)) (behind_full prefix.Size (i a inside.Size) p x ts us rest s e)
prefixed_full i a prefix.Transpose p x ts us rest s e = rw (is_next class.Tilde ts us (marks class.Tilde p ts us s)) (behind_full prefix.Transpose (i a inside.Tight) p x ts us rest s e)
prefixed_full i a prefix.Closure p x ts us rest s e =
    let m = marks class.Caret p ts us s in
    rw (differs class.Caret class.Tilde ts us m refl, is_next class.Caret ts us m) (behind_full prefix.Closure (i a inside.Tight) p x ts us rest s e)
prefixed_full i a prefix.ReflexiveClosure p x ts us rest s e =
    let m = marks class.Star p ts us s in
    rw (differs class.Star class.Tilde ts us m refl, differs class.Star class.Caret ts us m refl, is_next class.Star ts us m) (behind_full prefix.ReflexiveClosure (i a inside.Tight) p x ts us rest s e)

-- ---- chains

-- whose operators make a chain
pub data Kind : Type 0 where
  levelled : Level → Kind
  arrows : Kind

unfoldable pub kind_of : Operator → Kind
kind_of operator.Or = levelled level.Or
kind_of operator.Iff = levelled level.Iff
kind_of operator.And = levelled level.And
kind_of operator.Union = levelled level.Sum
kind_of operator.Minus = levelled level.Sum
kind_of operator.Override = levelled level.Override
kind_of operator.Meet = levelled level.Meet
kind_of operator.Product = arrows
kind_of operator.Domain = levelled level.Restrict
kind_of operator.Range = levelled level.Restrict

-- the same kind, where the level is the same
pub same_kind : (o n : Operator) → level_of_operator o ≡ level_of_operator n → kind_of o ≡ kind_of n
unfolding kind_of
same_kind operator.Or operator.Or e = refl
same_kind operator.Iff operator.Iff e = refl
same_kind operator.And operator.And e = refl
same_kind operator.Union operator.Union e = refl
same_kind operator.Union operator.Minus e = refl
same_kind operator.Minus operator.Union e = refl
same_kind operator.Minus operator.Minus e = refl
same_kind operator.Override operator.Override e = refl
same_kind operator.Meet operator.Meet e = refl
same_kind operator.Product operator.Product e = refl
same_kind operator.Domain operator.Domain e = refl
same_kind operator.Domain operator.Range e = refl
same_kind operator.Range operator.Domain e = refl
same_kind operator.Range operator.Range e = refl
same_kind _ _ e = absurd (omega arith)

abbrev pub kind_test : Kind → List ParserToken → Bool
kind_test (levelled l) = begins_link l
kind_test arrows = begins_arrow

-- the reader of an operand
abbrev pub operand_reader : Reader → Around → Kind → Parser Tree
operand_reader i a (levelled level.Or) = iff_over i a
operand_reader i a (levelled level.Iff) = implication_over i a
operand_reader i a (levelled level.And) = negation_over i a
operand_reader i a (levelled level.Sum) = size_over i a
operand_reader i a (levelled level.Override) = meet_over i a
operand_reader i a (levelled level.Meet) = arrows_over i a
operand_reader i a (levelled level.Restrict) = path_over i a
operand_reader i a arrows = restrict_over i a

abbrev pub kind_link : Reader → Around → Kind → Parser LinkTree
kind_link i a (levelled l) = link_over l (operand_reader i a (levelled l))
kind_link i a arrows = arrow_over i a

link_full : (lv : Level) (item : Parser Tree) (o : Operator) (p : Place) (y : Tree) (ts us rest : List ParserToken) → sign (class_of_operator o) p ts us → operator_of lv ts ≡ o → item us ≡ Ok (y, rest)
    → link_over lv item ts ≡ Ok (record { operator = o; place = p; operand = y }, rest)
unfolding link_over
link_full lv item o p y ts us rest s same e = rw (after_is (class_of_operator o) ts us (s.0, s.1, s.2), e, same, place_is (class_of_operator o) p ts us s) refl

not_marked : (l : ℕ) (ts : List ParserToken) → First 12 ts → is_mark ts ≡ false
unfolding is_mark rank
not_marked l ts f = rw (never_first class.Set refl 12 ts f, too_loose class.One 12 (omega arith) ts f, too_loose class.Lone 12 (omega arith) ts f, too_loose class.Some 12 (omega arith) ts f) refl

arrow_full : (i : Reader) (a : Around) (p : Place) (y : Tree) (ts us rest : List ParserToken) → sign class.Arrow p ts us → First 12 us → restrict_over i a us ≡ Ok (y, rest) → arrow_over i a ts ≡ Ok (record { operator = operator.Product; place = p; operand = y }, rest)
unfolding arrow_over is_mark is_class
arrow_full i a p y ts us rest s f e =
    let m = marks class.Arrow p ts us s in
    let here : is_mark ts ≡ false = rw (differs class.Arrow class.Set ts us m refl, differs class.Arrow class.One ts us m refl, differs class.Arrow class.Lone ts us m refl, differs class.Arrow class.Some ts us m refl) refl in
    let there : is_mark (after ts) ≡ false = subst (λ vs. is_mark vs ≡ false) (sym (after_is class.Arrow ts us m)) (not_marked 12 us f) in
    rw (here, there, after_is class.Arrow ts us m, e, place_is class.Arrow p ts us s) refl

-- an operator and its operand
pub operator_full : (i : Reader) (a : Around) (o : Operator) (p : Place) (y : Tree) (ts us rest : List ParserToken) → sign (class_of_operator o) p ts us → First (suc (level_of_operator o)) us → reader i a (suc (level_of_operator o)) us ≡ Ok (y, rest)
    → (kind_test (kind_of o) ts ≡ true) × (kind_link i a (kind_of o) ts ≡ Ok (record { operator = o; place = p; operand = y }, rest))
unfolding kind_of begins_link begins_arrow operator_of is_class
operator_full i a operator.Or p y ts us rest s f e = (is_next class.Or ts us (marks class.Or p ts us s), link_full level.Or (iff_over i a) operator.Or p y ts us rest s refl e)
operator_full i a operator.Iff p y ts us rest s f e = (is_next class.Iff ts us (marks class.Iff p ts us s), link_full level.Iff (implication_over i a) operator.Iff p y ts us rest s refl e)
operator_full i a operator.And p y ts us rest s f e = (is_next class.And ts us (marks class.And p ts us s), link_full level.And (negation_over i a) operator.And p y ts us rest s refl e)
operator_full i a operator.Union p y ts us rest s f e = let is = is_next class.Plus ts us (marks class.Plus p ts us s) in (rw is refl, link_full level.Sum (size_over i a) operator.Union p y ts us rest s (rw is refl) e)
operator_full i a operator.Minus p y ts us rest s f e =
    let m = marks class.Minus p ts us s in
    let none = differs class.Minus class.Plus ts us m refl in
    (rw (none, is_next class.Minus ts us m) refl, link_full level.Sum (size_over i a) operator.Minus p y ts us rest s (rw none refl) e)
operator_full i a operator.Override p y ts us rest s f e = (is_next class.PlusPlus ts us (marks class.PlusPlus p ts us s), link_full level.Override (meet_over i a) operator.Override p y ts us rest s refl e)
operator_full i a operator.Meet p y ts us rest s f e = (is_next class.Ampersand ts us (marks class.Ampersand p ts us s), link_full level.Meet (arrows_over i a) operator.Meet p y ts us rest s refl e)
operator_full i a operator.Product p y ts us rest s f e = (rw (is_next class.Arrow ts us (marks class.Arrow p ts us s)) refl, arrow_full i a p y ts us rest s f e)
operator_full i a operator.Domain p y ts us rest s f e = let is = is_next class.DomainArrow ts us (marks class.DomainArrow p ts us s) in (rw is refl, link_full level.Restrict (path_over i a) operator.Domain p y ts us rest s (rw is refl) e)
operator_full i a operator.Range p y ts us rest s f e =
    let m = marks class.RangeArrow p ts us s in
    let none = differs class.RangeArrow class.DomainArrow ts us m refl in
    (rw (none, is_next class.RangeArrow ts us m) refl, link_full level.Restrict (path_over i a) operator.Range p y ts us rest s (rw none refl) e)

-- a first operand and links
chained_full : (lv : Level) (item : Parser Tree) (x : Tree) (ks : List LinkTree) (ts us rest : List ParserToken) → item ts ≡ Ok (x, us) → begins_link lv us ≡ true → many (begins_link lv) (link_over lv item) us ≡ Ok (ks, rest) → chained lv item ts ≡ Ok (chain x (links_of ks), rest)
unfolding chained
chained_full lv item x ks ts us rest e goes more = rw (e, goes, more) refl

pub chain_full : (i : Reader) (a : Around) (o : Operator) (x : Tree) (ks : List LinkTree) (ts us rest : List ParserToken) → reader i a (suc (level_of_operator o)) ts ≡ Ok (x, us) → kind_test (kind_of o) us ≡ true → many (kind_test (kind_of o)) (kind_link i a (kind_of o)) us ≡ Ok (ks, rest)
    → reader i a (level_of_operator o) ts ≡ Ok (chain x (links_of ks), rest)
unfolding kind_of node_over iff_over and_over sum_over override_over meet_over arrows_over restrict_over
chain_full i a operator.Or x ks ts us rest e goes more = chained_full level.Or (iff_over i a) x ks ts us rest e goes more
chain_full i a operator.Iff x ks ts us rest e goes more = chained_full level.Iff (implication_over i a) x ks ts us rest e goes more
chain_full i a operator.And x ks ts us rest e goes more = chained_full level.And (negation_over i a) x ks ts us rest e goes more
chain_full i a operator.Union x ks ts us rest e goes more = chained_full level.Sum (size_over i a) x ks ts us rest e goes more
chain_full i a operator.Minus x ks ts us rest e goes more = chained_full level.Sum (size_over i a) x ks ts us rest e goes more
chain_full i a operator.Override x ks ts us rest e goes more = chained_full level.Override (meet_over i a) x ks ts us rest e goes more
chain_full i a operator.Meet x ks ts us rest e goes more = chained_full level.Meet (arrows_over i a) x ks ts us rest e goes more
chain_full i a operator.Product x ks ts us rest e goes more = rw (e, goes, more) refl
chain_full i a operator.Domain x ks ts us rest e goes more = chained_full level.Restrict (path_over i a) x ks ts us rest e goes more
chain_full i a operator.Range x ks ts us rest e goes more = chained_full level.Restrict (path_over i a) x ks ts us rest e goes more

-- ---- comparisons

-- the terminal of a comparison that isn't negated
plain_begins : (a : Around) (c : Comparison) (ts rest : List ParserToken) → mark_of (class_of_comparison c) ts rest → (begins_comparison a ts ≡ true) × (next_is class.Not ts ≡ false) × (comparison_of ts ≡ c) × (next_is class.NotEqual ts ≡ false)
unfolding begins_comparison is_plain_comparison comparison_of is_class
plain_begins a comparison.In ts rest m = let is = is_next class.In ts rest m in (rw is refl, differs class.In class.Not ts rest m refl, rw is refl, differs class.In class.NotEqual ts rest m refl)
plain_begins a comparison.Equal ts rest m =
    let is = is_next class.Equal ts rest m in
    let e1 = differs class.Equal class.In ts rest m refl in
    let e2 = differs class.Equal class.Less ts rest m refl in
    let e3 = differs class.Equal class.Greater ts rest m refl in
    let e4 = differs class.Equal class.AtMost ts rest m refl in
    let e5 = differs class.Equal class.AtLeast ts rest m refl in
    (rw (e1, is) refl, differs class.Equal class.Not ts rest m refl, rw (e1, e2, e3, e4, e5) refl, differs class.Equal class.NotEqual ts rest m refl)
plain_begins a comparison.Less ts rest m =
    let is = is_next class.Less ts rest m in
    let e1 = differs class.Less class.In ts rest m refl in
    let e2 = differs class.Less class.Equal ts rest m refl in
    let e3 = differs class.Less class.NotEqual ts rest m refl in
    (rw (e1, e2, e3, is) refl, differs class.Less class.Not ts rest m refl, rw (e1, is) refl, e3)
plain_begins a comparison.Greater ts rest m =
    let is = is_next class.Greater ts rest m in
    let e1 = differs class.Greater class.In ts rest m refl in
    let e2 = differs class.Greater class.Equal ts rest m refl in
    let e3 = differs class.Greater class.NotEqual ts rest m refl in
    let e4 = differs class.Greater class.Less ts rest m refl in
    (rw (e1, e2, e3, e4, is) refl, differs class.Greater class.Not ts rest m refl, rw (e1, e4, is) refl, e3)
plain_begins a comparison.AtMost ts rest m =
    let is = is_next class.AtMost ts rest m in
    let e1 = differs class.AtMost class.In ts rest m refl in
    let e2 = differs class.AtMost class.Equal ts rest m refl in
    let e3 = differs class.AtMost class.NotEqual ts rest m refl in
    let e4 = differs class.AtMost class.Less ts rest m refl in
    let e5 = differs class.AtMost class.Greater ts rest m refl in
    (rw (e1, e2, e3, e4, e5, is) refl, differs class.AtMost class.Not ts rest m refl, rw (e1, e4, e5, is) refl, e3)
plain_begins a comparison.AtLeast ts rest m =
    let is = is_next class.AtLeast ts rest m in
    let e1 = differs class.AtLeast class.In ts rest m refl in
    let e2 = differs class.AtLeast class.Equal ts rest m refl in
    let e3 = differs class.AtLeast class.NotEqual ts rest m refl in
    let e4 = differs class.AtLeast class.Less ts rest m refl in
    let e5 = differs class.AtLeast class.Greater ts rest m refl in
    let e6 = differs class.AtLeast class.AtMost ts rest m refl in
    (rw (e1, e2, e3, e4, e5, e6, is) refl, differs class.AtLeast class.Not ts rest m refl, rw (e1, e4, e5, e6, is) refl, e3)

abbrev compares : Comparison → Bool → Place → Comparing
compares c b p = record { comparison = c; negated = b; place = p }

not_plain : (ts rest : List ParserToken) → mark_of class.Not ts rest → is_plain_comparison ts ≡ false
unfolding is_plain_comparison is_class
not_plain ts rest m =
    rw (differs class.Not class.In ts rest m refl, differs class.Not class.Equal ts rest m refl, differs class.Not class.NotEqual ts rest m refl, differs class.Not class.Less ts rest m refl, differs class.Not class.Greater ts rest m refl, differs class.Not class.AtMost ts rest m refl, differs class.Not class.AtLeast ts rest m refl) refl

negated_in : (a : Around) (p : Place) (ts us rest : List ParserToken) → sign class.Not p ts us → mark_of class.In us rest → (begins_comparison a ts ≡ true) × (comparing_at ts ≡ Ok (compares comparison.In true p, rest))
unfolding begins_comparison comparing_at negated_comparing comparison_of
negated_in a p ts us rest s m =
    let n = marks class.Not p ts us s in
    let there : next_is class.In (after ts) ≡ true = subst (λ vs. next_is class.In vs ≡ true) (sym (after_is class.Not ts us n)) (is_next class.In us rest m) in
    let last : after (after ts) ≡ rest = ap after (after_is class.Not ts us n) ∙ after_is class.In us rest m in
    (rw (not_plain ts us n, is_next class.Not ts us n, there) refl, rw (is_next class.Not ts us n, there, place_is class.Not p ts us s, last) refl)

negated_equal : (a : Around) (p : Place) (ts us rest : List ParserToken) → sign class.Not p ts us → mark_of class.Equal us rest → (begins_comparison a ts ≡ true) × (comparing_at ts ≡ Ok (compares comparison.Equal true p, rest))
unfolding begins_comparison comparing_at negated_comparing comparison_of is_class
negated_equal a p ts us rest s m =
    let n = marks class.Not p ts us s in
    let same = after_is class.Not ts us n in
    let e1 : next_is class.In (after ts) ≡ false = subst (λ vs. next_is class.In vs ≡ false) (sym same) (differs class.Equal class.In us rest m refl) in
    let e2 : next_is class.Less (after ts) ≡ false = subst (λ vs. next_is class.Less vs ≡ false) (sym same) (differs class.Equal class.Less us rest m refl) in
    let e3 : next_is class.Greater (after ts) ≡ false = subst (λ vs. next_is class.Greater vs ≡ false) (sym same) (differs class.Equal class.Greater us rest m refl) in
    let e4 : next_is class.AtMost (after ts) ≡ false = subst (λ vs. next_is class.AtMost vs ≡ false) (sym same) (differs class.Equal class.AtMost us rest m refl) in
    let e5 : next_is class.AtLeast (after ts) ≡ false = subst (λ vs. next_is class.AtLeast vs ≡ false) (sym same) (differs class.Equal class.AtLeast us rest m refl) in
    let there : next_is class.Equal (after ts) ≡ true = subst (λ vs. next_is class.Equal vs ≡ true) (sym same) (is_next class.Equal us rest m) in
    let last : after (after ts) ≡ rest = ap after same ∙ after_is class.Equal us rest m in
    (rw (not_plain ts us n, is_next class.Not ts us n, e1, there) refl, rw (is_next class.Not ts us n, e1, there, e2, e3, e4, e5, place_is class.Not p ts us s, last) refl)

unequal : (a : Around) (p : Place) (ts rest : List ParserToken) → sign class.NotEqual p ts rest → (begins_comparison a ts ≡ true) × (comparing_at ts ≡ Ok (compares comparison.Equal true p, rest))
unfolding begins_comparison is_plain_comparison comparing_at comparison_of is_class
unequal a p ts rest s =
    let m = marks class.NotEqual p ts rest s in
    let is = is_next class.NotEqual ts rest m in
    let e1 = differs class.NotEqual class.In ts rest m refl in
    let e2 = differs class.NotEqual class.Equal ts rest m refl in
    let e3 = differs class.NotEqual class.Less ts rest m refl in
    let e4 = differs class.NotEqual class.Greater ts rest m refl in
    let e5 = differs class.NotEqual class.AtMost ts rest m refl in
    let e6 = differs class.NotEqual class.AtLeast ts rest m refl in
    (rw (e1, e2, is) refl, rw (differs class.NotEqual class.Not ts rest m refl, e1, e3, e4, e5, e6, is, place_is class.NotEqual p ts rest s, after_is class.NotEqual ts rest m) refl)

comparing_with : (a : Around) (c : Comparison) (b : Bool) (p : Place) (ts rest : List ParserToken) → comparing_over c b p ts rest → (begins_comparison a ts ≡ true) × (comparing_at ts ≡ Ok (compares c b p, rest))
unfolding comparing_at
comparing_with a c false p ts rest s =
    let m = marks (class_of_comparison c) p ts rest s in
    let k = plain_begins a c ts rest m in
    (k.0, rw (k.1, k.2, k.3, place_is (class_of_comparison c) p ts rest s, after_is (class_of_comparison c) ts rest m) refl)
comparing_with a comparison.In true p ts rest s = negated_in a p ts s.0 rest s.1 s.2
comparing_with a comparison.Equal true p ts rest s = elim s [ inl t ↦ negated_equal a p ts t.0 rest t.1 t.2 | inr t ↦ unequal a p ts rest t ]
comparing_with a comparison.Less true p ts rest s = absurd s
comparing_with a comparison.Greater true p ts rest s = absurd s
comparing_with a comparison.AtMost true p ts rest s = absurd s
comparing_with a comparison.AtLeast true p ts rest s = absurd s

pub comparing_full : (a : Around) (c : Comparing) (ts rest : List ParserToken) → comparing c ts rest → (begins_comparison a ts ≡ true) × (comparing_at ts ≡ Ok (c, rest))
comparing_full a c ts rest s = comparing_with a c.comparison c.negated c.place ts rest s

pub compared_full : (i : Reader) (a : Around) (x : Tree) (c : Comparing) (y : Tree) (ts us vs rest : List ParserToken) → counted_over i a ts ≡ Ok (x, us) → comparing c us vs → counted_over i a vs ≡ Ok (y, rest) → comparison_over i a ts ≡ Ok (compared x c y, rest)
unfolding comparison_over
compared_full i a x c y ts us vs rest e s f = let k = comparing_full a c us vs s in rw (e, k.0, k.1, f) refl
