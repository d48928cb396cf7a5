-- One token at the front, and what readers of one token say.
use Rattle.std.proofs.Common.{◌≡◌, ℕ, ◌≤◌, ◌<◌, inl, inr, Bool, true, false, ◌||◌, ◌&&◌, if◌then◌else◌, List, [], ◌∷◌, length, get_or, Ok, refl, sym, ap, subst, ◌∙◌, arith}
use Rattle.std.proofs.lemmas.Grind.{common_steps}
use Rattle.alloy_lex.specs.declared.token.Place.{Place}
use Rattle.alloy_syntax.specs.declared.class.Class.{Class}
use Rattle.alloy_syntax.specs.declared.class.Class.TheVariants as class
use Rattle.alloy_syntax.specs.declared.tree.Name.{Name}
use Rattle.alloy_syntax.specs.declared.tree.Number.{Number}
use Rattle.alloy_syntax.specs.declared.parser_token.ParserToken.{ParserToken}
use Rattle.alloy_syntax.specs.Class.{is_class, code_of}
use Rattle.alloy_syntax.specs.Readers.{next_is, after, place_at, one, expect, spelled_at, number_at, is_mark, mark_at, after_mark, multiplicity_of, value_from}
use Rattle.alloy_syntax.specs.declared.reading.Level.{Level}
use Rattle.alloy_syntax.specs.declared.reading.Level.TheVariants as level
use Rattle.alloy_syntax.specs.Nodes.{is_counting, counting_of, quantifier_of, is_tightening, tightening_of, is_constant, constant_of, begins_link, operator_of, is_plain_comparison, begins_comparison, comparison_of, negated_comparing, comparing_at}
use Rattle.alloy_syntax.specs.declared.reading.Around.{Around}
use Rattle.alloy_syntax.specs.declared.tree.Comparing.{Comparing}
use Rattle.alloy_syntax.specs.declared.tree.Comparison.TheVariants as comparison
use Rattle.alloy_grammar.specs.Levels.{or_level, iff_level, and_level, counted_level, sum_level, override_level, meet_level, restrict_level, tight_level, level_of_operator, level_of_prefix, level_behind}
use Rattle.alloy_grammar.specs.Nodes.{class_of_constant, class_of_prefix, class_of_operator, class_of_quantifier, comparing_over, comparing}
use Rattle.alloy_grammar.specs.Fronts.{sign, mark_of, spelled_as, number, mark, flag, class_of_multiplicity}
use Rattle.alloy_grammar.proofs.Results.{either, no_success, value_is, rest_is, true_not_false}

-- ---- terminals

classes : List Class
classes = class.Name ∷ class.Path ∷ class.Number ∷ class.LeftBrace ∷ class.RightBrace ∷ class.LeftBracket ∷ class.RightBracket ∷ class.LeftParen ∷ class.RightParen ∷ class.Comma ∷ class.Colon ∷ class.Bar ∷ class.Dot ∷ class.Plus ∷ class.Minus ∷ class.Ampersand ∷ class.Arrow ∷ class.Tilde ∷ class.Caret ∷ class.Star ∷ class.PlusPlus ∷ class.DomainArrow ∷ class.RangeArrow ∷ class.Hash ∷ class.Equal ∷ class.NotEqual ∷ class.Less ∷ class.Greater ∷ class.AtMost ∷ class.AtLeast ∷ class.Not ∷ class.And ∷ class.Or ∷ class.Iff ∷ class.Implies ∷ class.Abstract ∷ class.All ∷ class.As ∷ class.Assert ∷ class.But ∷ class.Check ∷ class.Disj ∷ class.Else ∷ class.Exactly ∷ class.Expect ∷ class.Extends ∷ class.Fact ∷ class.For ∷ class.Fun ∷ class.Iden ∷ class.In ∷ class.Let ∷ class.Lone ∷ class.Module ∷ class.No ∷ class.None ∷ class.One ∷ class.Open ∷ class.Pred ∷ class.Run ∷ class.Set ∷ class.Sig ∷ class.Some ∷ class.Univ ∷ class.Refused ∷ []

at_code : (c : Class) → get_or classes (code_of c) class.Refused ≡ c
unfolding classes
at_code class.Name = refl
at_code _ = refl

same_code : (c d : Class) → is_class c d ≡ true → code_of c ≡ code_of d
unfolding is_class
same_code c d e = grind (arith, common_steps)

pub class_is : (c d : Class) → is_class c d ≡ true → c ≡ d
class_is c d e = sym (at_code c) ∙ (ap (λ n. get_or classes n class.Refused) (same_code c d e) ∙ at_code d)

-- ---- one token

pub token : (c : Class) (ts : List ParserToken) → next_is c ts ≡ true → sign c (place_at ts) ts (after ts)
unfolding next_is
token c [] e = absurd cc
token c (t ∷ ts) e = (t, refl, class_is t.class c e, refl)

pub token_is_one : (c : Class) (p : Place) (ts rest : List ParserToken) → sign c p ts rest → length rest < length ts
token_is_one c p ts rest s = omega (arith, ap length s.1)

pub marks : (c : Class) (p : Place) (ts rest : List ParserToken) → sign c p ts rest → mark_of c ts rest
marks c p ts rest s = (s.0, s.1, s.2)

pub mark_is_one : (c : Class) (ts rest : List ParserToken) → mark_of c ts rest → length rest < length ts
mark_is_one c ts rest s = omega (arith, ap length s.1)

one_read : {A : Type 0} (c : Class) (f : ParserToken → A) (ts : List ParserToken) (x : A) (rest : List ParserToken) → one c f ts ≡ Ok (x, rest) → (t : ParserToken) × (ts ≡ t ∷ rest) × (t.class ≡ c) × (f t ≡ x)
one_read c f [] x rest e = no_success _ _ e
one_read c f (t ∷ ts) x rest e =
    elim (either (is_class t.class c)) [
      | inl is ↦ (let h = rw is at e in (t, ap (λ us. t ∷ us) (rest_is (f t) x ts rest h), class_is t.class c is, value_is (f t) x ts rest h))
      | inr other ↦ no_success _ _ (rw other at e)
    ]

pub expect_read : (c : Class) (ts : List ParserToken) (p : Place) (rest : List ParserToken) → expect c ts ≡ Ok (p, rest) → sign c p ts rest
unfolding expect
expect_read c ts p rest e = one_read c (λ t. t.place) ts p rest e

pub spelled_read : (c : Class) (ts : List ParserToken) (n : Name) (rest : List ParserToken) → spelled_at c ts ≡ Ok (n, rest) → spelled_as c n ts rest
unfolding spelled_at
spelled_read c ts n rest e =
    let r = one_read c (λ t. record { text = t.text; place = t.place }) ts n rest e in
    (r.0, r.1, r.2, ap (λ (m : Name). m.text) r.3, ap (λ (m : Name). m.place) r.3)

pub spelled_is_one : (c : Class) (n : Name) (ts rest : List ParserToken) → spelled_as c n ts rest → length rest < length ts
spelled_is_one c n ts rest s = omega (arith, ap length s.1)

-- ---- which token of several it is

pub and_left : (a b : Bool) → (a && b) ≡ true → a ≡ true
and_left true b e = refl
and_left false b e = e

pub counting_sign : (ts : List ParserToken) → is_counting ts ≡ true → sign (class_of_prefix (counting_of ts)) (place_at ts) ts (after ts)
unfolding is_counting counting_of
counting_sign ts e =
    elim (either (next_is class.Some ts)) [
      | inl is ↦ rw is (token class.Some ts is)
      | inr a ↦ elim (either (next_is class.No ts)) [
        | inl is ↦ rw (a, is) (token class.No ts is)
        | inr b ↦ elim (either (next_is class.Lone ts)) [
          | inl is ↦ rw (a, b, is) (token class.Lone ts is)
          | inr c ↦ rw (a, b, c) (token class.One ts (rw (a, b, c) at e))
        ]
      ]
    ]

pub counting_levels : (ts : List ParserToken) → (level_of_prefix (counting_of ts) ≡ counted_level) × (level_behind (counting_of ts) ≡ sum_level)
unfolding counting_of
counting_levels ts =
    elim (either (next_is class.Some ts)) [
      | inl is ↦ rw is (refl, refl)
      | inr a ↦ elim (either (next_is class.No ts)) [
        | inl is ↦ rw (a, is) (refl, refl)
        | inr b ↦ elim (either (next_is class.Lone ts)) [ inl is ↦ rw (a, b, is) (refl, refl) | inr c ↦ rw (a, b, c) (refl, refl) ]
      ]
    ]

pub quantifier_sign : (ts : List ParserToken) → is_counting ts ≡ true → sign (class_of_quantifier (quantifier_of ts)) (place_at ts) ts (after ts)
unfolding is_counting quantifier_of
quantifier_sign ts e =
    elim (either (next_is class.Some ts)) [
      | inl is ↦ rw is (token class.Some ts is)
      | inr a ↦ elim (either (next_is class.No ts)) [
        | inl is ↦ rw (a, is) (token class.No ts is)
        | inr b ↦ elim (either (next_is class.Lone ts)) [
          | inl is ↦ rw (a, b, is) (token class.Lone ts is)
          | inr c ↦ rw (a, b, c) (token class.One ts (rw (a, b, c) at e))
        ]
      ]
    ]

pub tightening_sign : (ts : List ParserToken) → is_tightening ts ≡ true → sign (class_of_prefix (tightening_of ts)) (place_at ts) ts (after ts)
unfolding is_tightening tightening_of
tightening_sign ts e =
    elim (either (next_is class.Tilde ts)) [
      | inl is ↦ rw is (token class.Tilde ts is)
      | inr a ↦ elim (either (next_is class.Caret ts)) [ inl is ↦ rw (a, is) (token class.Caret ts is) | inr b ↦ rw (a, b) (token class.Star ts (rw (a, b) at e)) ]
    ]

pub tightening_levels : (ts : List ParserToken) → (level_of_prefix (tightening_of ts) ≡ tight_level) × (level_behind (tightening_of ts) ≡ tight_level)
unfolding tightening_of
tightening_levels ts =
    elim (either (next_is class.Tilde ts)) [
      | inl is ↦ rw is (refl, refl)
      | inr a ↦ elim (either (next_is class.Caret ts)) [ inl is ↦ rw (a, is) (refl, refl) | inr b ↦ rw (a, b) (refl, refl) ]
    ]

pub constant_sign : (ts : List ParserToken) → is_constant ts ≡ true → sign (class_of_constant (constant_of ts)) (place_at ts) ts (after ts)
unfolding is_constant constant_of
constant_sign ts e =
    elim (either (next_is class.None ts)) [
      | inl is ↦ rw is (token class.None ts is)
      | inr a ↦ elim (either (next_is class.Univ ts)) [ inl is ↦ rw (a, is) (token class.Univ ts is) | inr b ↦ rw (a, b) (token class.Iden ts (rw (a, b) at e)) ]
    ]

-- the number of a level whose operands make a chain
abbrev pub number_of : Level → ℕ
number_of level.Or = or_level
number_of level.Iff = iff_level
number_of level.And = and_level
number_of level.Sum = sum_level
number_of level.Override = override_level
number_of level.Meet = meet_level
number_of level.Restrict = restrict_level

pub link_sign : (l : Level) (ts : List ParserToken) → begins_link l ts ≡ true → sign (class_of_operator (operator_of l ts)) (place_at ts) ts (after ts)
unfolding begins_link operator_of
link_sign level.Or ts e = token class.Or ts e
link_sign level.Iff ts e = token class.Iff ts e
link_sign level.And ts e = token class.And ts e
link_sign level.Sum ts e = elim (either (next_is class.Plus ts)) [ inl is ↦ rw is (token class.Plus ts is) | inr a ↦ rw a (token class.Minus ts (rw a at e)) ]
link_sign level.Override ts e = token class.PlusPlus ts e
link_sign level.Meet ts e = token class.Ampersand ts e
link_sign level.Restrict ts e = elim (either (next_is class.DomainArrow ts)) [ inl is ↦ rw is (token class.DomainArrow ts is) | inr a ↦ rw a (token class.RangeArrow ts (rw a at e)) ]

pub link_level : (l : Level) (ts : List ParserToken) → level_of_operator (operator_of l ts) ≡ number_of l
unfolding operator_of
link_level level.Or ts = refl
link_level level.Iff ts = refl
link_level level.And ts = refl
link_level level.Sum ts = elim (either (next_is class.Plus ts)) [ inl is ↦ rw is refl | inr a ↦ rw a refl ]
link_level level.Override ts = refl
link_level level.Meet ts = refl
link_level level.Restrict ts = elim (either (next_is class.DomainArrow ts)) [ inl is ↦ rw is refl | inr a ↦ rw a refl ]

-- ---- multiplicity words

pub multiplicity_sign : (ts : List ParserToken) → is_mark ts ≡ true → sign (class_of_multiplicity (multiplicity_of ts)) (place_at ts) ts (after ts)
unfolding is_mark
multiplicity_sign ts e =
    elim (either (next_is class.Set ts)) [
      | inl is ↦ rw is (token class.Set ts is)
      | inr a ↦ elim (either (next_is class.One ts)) [
        | inl is ↦ rw (a, is) (token class.One ts is)
        | inr b ↦ elim (either (next_is class.Lone ts)) [
          | inl is ↦ rw (a, b, is) (token class.Lone ts is)
          | inr c ↦ rw (a, b, c) (token class.Some ts (rw (a, b, c) at e))
        ]
      ]
    ]

pub mark_read : (ts : List ParserToken) → mark (mark_at ts) ts (after_mark ts)
unfolding mark_at after_mark
mark_read ts = elim (either (is_mark ts)) [ inl is ↦ rw is (multiplicity_sign ts is) | inr other ↦ rw other refl ]

pub after_is_short : (ts : List ParserToken) → length (after ts) ≤ length ts
after_is_short [] = omega arith
after_is_short (t ∷ ts) = omega arith

pub after_mark_is_short : (ts : List ParserToken) → length (after_mark ts) ≤ length ts
unfolding after_mark
after_mark_is_short ts = elim (either (is_mark ts)) [ inl is ↦ rw is (after_is_short ts) | inr other ↦ rw other (omega arith) ]

-- a word that may stand there, or not
pub flag_read : (c : Class) (ts : List ParserToken) → flag c (next_is c ts) ts (if next_is c ts then after ts else ts)
flag_read c ts = elim (either (next_is c ts)) [ inl is ↦ rw is (marks c (place_at ts) ts (after ts) (token c ts is)) | inr other ↦ rw other refl ]

pub number_read : (ts : List ParserToken) (n : Number) (rest : List ParserToken) → number_at ts ≡ Ok (n, rest) → number n ts rest
unfolding number_at
number_read ts n rest e =
    let r = one_read class.Number (λ t. record { value = value_from 0 t.text; place = t.place }) ts n rest e in
    (r.0, r.1, r.2, ap (λ (m : Number). m.value) r.3, ap (λ (m : Number). m.place) r.3)

pub or_no : (b : Bool) → (b || false) ≡ true → b ≡ true
or_no true e = refl
or_no false e = e

pub and_right : (a b : Bool) → (a && b) ≡ true → b ≡ true
and_right true b e = e
and_right false b e = absurd cc

-- one terminal is no other
pub other : (c d : Class) (ts : List ParserToken) → next_is c ts ≡ true → is_class c d ≡ false → next_is d ts ≡ false
unfolding next_is
other c d [] e differs = refl
other c d (t ∷ ts) e differs = ap (λ k. is_class k d) (class_is t.class c e) ∙ differs

plain_comparing : (ts : List ParserToken) → is_plain_comparison ts ≡ true → comparing_over (comparison_of ts) (next_is class.NotEqual ts) (place_at ts) ts (after ts)
unfolding is_plain_comparison comparison_of is_class
plain_comparing ts e =
    elim (either (next_is class.In ts)) [
      | inl is ↦ rw (is, other class.In class.NotEqual ts is refl) (token class.In ts is)
      | inr a ↦ elim (either (next_is class.Less ts)) [
        | inl is ↦ rw (a, is, other class.Less class.NotEqual ts is refl) (token class.Less ts is)
        | inr b ↦ elim (either (next_is class.Greater ts)) [
          | inl is ↦ rw (a, b, is, other class.Greater class.NotEqual ts is refl) (token class.Greater ts is)
          | inr c ↦ elim (either (next_is class.AtMost ts)) [
            | inl is ↦ rw (a, b, c, is, other class.AtMost class.NotEqual ts is refl) (token class.AtMost ts is)
            | inr d ↦ elim (either (next_is class.AtLeast ts)) [
              | inl is ↦ rw (a, b, c, d, is, other class.AtLeast class.NotEqual ts is refl) (token class.AtLeast ts is)
              | inr f ↦ elim (either (next_is class.NotEqual ts)) [
                | inl is ↦ rw (a, b, c, d, f, is) (inr (token class.NotEqual ts is))
                | inr g ↦ elim (either (next_is class.Equal ts)) [
                  | inl is ↦ rw (a, b, c, d, f, g) (token class.Equal ts is)
                  | inr h ↦ true_not_false (sym (rw (a, h, g, b, c, d, f) at e))
                ]
              ]
            ]
          ]
        ]
      ]
    ]

negated_read : (ts : List ParserToken) (c : Comparing) (rest : List ParserToken) → next_is class.Not ts ≡ true → negated_comparing ts ≡ Ok (c, rest) → comparing c ts rest × (length rest ≤ length ts)
unfolding negated_comparing comparison_of is_class
negated_read ts c rest word e =
    let short : length (after (after ts)) ≤ length ts = omega (arith, after_is_short ts, after_is_short (after ts)) in
    elim (either (next_is class.In (after ts))) [
      | inl is ↦ (
          let h = rw is at e in
          let here : Comparing = record { comparison = comparison.In; negated = true; place = place_at ts } in
          let f : comparing here ts (after (after ts)) × (length (after (after ts)) ≤ length ts) = ((after ts, token class.Not ts word, marks class.In (place_at (after ts)) (after ts) (after (after ts)) (token class.In (after ts) is)), short) in
          subst (λ us. comparing c ts us × (length us ≤ length ts)) (rest_is here c (after (after ts)) rest h) (subst (λ d. comparing d ts (after (after ts)) × (length (after (after ts)) ≤ length ts)) (value_is here c (after (after ts)) rest h) f))
      | inr a ↦ elim (either (next_is class.Equal (after ts))) [
        | inl is ↦ (
            let h = rw (a, is, other class.Equal class.Less (after ts) is refl, other class.Equal class.Greater (after ts) is refl, other class.Equal class.AtMost (after ts) is refl, other class.Equal class.AtLeast (after ts) is refl) at e in
            let here : Comparing = record { comparison = comparison.Equal; negated = true; place = place_at ts } in
            let f : comparing here ts (after (after ts)) × (length (after (after ts)) ≤ length ts) = (inl (after ts, token class.Not ts word, marks class.Equal (place_at (after ts)) (after ts) (after (after ts)) (token class.Equal (after ts) is)), short) in
            subst (λ us. comparing c ts us × (length us ≤ length ts)) (rest_is here c (after (after ts)) rest h) (subst (λ d. comparing d ts (after (after ts)) × (length (after (after ts)) ≤ length ts)) (value_is here c (after (after ts)) rest h) f))
        | inr b ↦ no_success _ _ (rw (a, b) at e)
      ]
    ]

pub comparing_read : (a : Around) (ts : List ParserToken) (c : Comparing) (rest : List ParserToken) → begins_comparison a ts ≡ true → comparing_at ts ≡ Ok (c, rest) → comparing c ts rest × (length rest ≤ length ts)
unfolding comparing_at begins_comparison
comparing_read a ts c rest goes e =
    elim (either (next_is class.Not ts)) [
      | inl is ↦ negated_read ts c rest is (rw is at e)
      | inr fails ↦ (
          let h = rw fails at e in
          let here : Comparing = record { comparison = comparison_of ts; negated = next_is class.NotEqual ts; place = place_at ts } in
          let f : comparing here ts (after ts) × (length (after ts) ≤ length ts) = (plain_comparing ts (or_no (is_plain_comparison ts) (rw fails at goes)), after_is_short ts) in
          subst (λ us. comparing c ts us × (length us ≤ length ts)) (rest_is here c (after ts) rest h) (subst (λ d. comparing d ts (after ts) × (length (after ts) ≤ length ts)) (value_is here c (after ts) rest h) f))
    ]
