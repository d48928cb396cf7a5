-- Readings that find no token too deep: those of which no construct is a part.
use Rattle.std.proofs.Common.{◌≡◌, ℕ, zero, suc, Bool, true, false, ◌||◌, if◌then◌else◌, List, [], ◌∷◌, length, Result, Ok, Err, refl, subst}
use Rattle.std.specs.Prelude.{codes, bytes_eq}
use Rattle.alloy_syntax.specs.declared.class.Class.{Class}
use Rattle.alloy_syntax.specs.declared.class.Class.TheVariants as class
use Rattle.alloy_syntax.specs.declared.parser_token.ParserToken.{ParserToken}
use Rattle.alloy_syntax.specs.Class.{is_class}
use Rattle.alloy_syntax.specs.Readers.{ParseStopView, refused, too_deep, unsupported, Parser, ◌>>=◌, next_is, after, one, expect, spelled_at, name_at, number_at, repeated, many, behind, others, listed, names_at}
use Rattle.alloy_syntax.specs.Nodes.{negated_comparing, comparing_at, after_disj, variable_names, variables_over}
use Rattle.alloy_syntax.specs.Paragraphs.{parent_at, label_at, entry_at, entries_at, exceptions_at, has_default, scope_at, expected_at, heading_at, ordering_at, open_at}

abbrev pub is_deep : {A : Type 0} → Result A ParseStopView → Bool
is_deep (Ok x) = false
is_deep (Err (refused ts)) = false
is_deep (Err (too_deep ts)) = true
is_deep (Err (unsupported f ts)) = false

-- no token lies too deep
pub data Calm {A : Type 0} (a : Result A ParseStopView) : Type 0 where
  calm : is_deep a ≡ false → Calm a

abbrev failed : (A : Type 0) → ParseStopView → Result A ParseStopView
failed A d = Err d

-- whatever was to be read
pub stop_calm : {A B : Type 0} (d : ParseStopView) → Calm (failed A d) → Calm (failed B d)
stop_calm (refused ts) h = calm refl
stop_calm (too_deep ts) h = elim h [ calm e ↦ absurd cc ]
stop_calm (unsupported f ts) h = calm refl

pub never_deep : {A P : Type 0} {a : Result A ParseStopView} (ts : List ParserToken) → Calm a → a ≡ Err (too_deep ts) → P
never_deep {A} ts h e = elim (subst (λ (b : Result A ParseStopView). Calm b) e h) [ calm f ↦ absurd cc ]

pub stopped_calm : {A B : Type 0} {a : Result A ParseStopView} (d : ParseStopView) → Calm a → a ≡ Err d → Calm (failed B d)
stopped_calm {A} d h e = stop_calm d (subst (λ (b : Result A ParseStopView). Calm b) e h)

calm_on : {A B : Type 0} (a : Result A ParseStopView) {f : A → Result B ParseStopView} → Calm a → ((x : A) → Calm (f x)) → Calm (a >>= f)
calm_on (Ok x) h to = to x
calm_on (Err d) h to = stop_calm d h

pub calm_then : {A B : Type 0} {a : Result A ParseStopView} {f : A → Result B ParseStopView} → Calm a → ((x : A) → Calm (f x)) → Calm (a >>= f)
calm_then {A} {B} {a} h to = calm_on a h to

pub calm_choice : {A : Type 0} (test : Bool) {u v : Result A ParseStopView} → Calm u → Calm v → Calm (if test then u else v)
calm_choice true p q = p
calm_choice false p q = q

-- ---- one token

one_calm : {A : Type 0} (c : Class) (f : ParserToken → A) (ts : List ParserToken) → Calm (one c f ts)
one_calm c f [] = calm refl
one_calm c f (t ∷ ts) = calm_choice (is_class t.class c) (calm refl) (calm refl)

pub expect_calm : (c : Class) (ts : List ParserToken) → Calm (expect c ts)
unfolding expect
expect_calm c ts = one_calm c (λ t. t.place) ts

pub spelled_calm : (c : Class) (ts : List ParserToken) → Calm (spelled_at c ts)
unfolding spelled_at
spelled_calm c ts = one_calm c (λ t. record { text = t.text; place = t.place }) ts

pub number_calm : (ts : List ParserToken) → Calm (number_at ts)
unfolding number_at
number_calm ts = one_calm class.Number _ ts

-- ---- one after the other

repeated_calm : {A : Type 0} (test : List ParserToken → Bool) (p : Parser A) → ((ts : List ParserToken) → Calm (p ts)) → (n : ℕ) (ts : List ParserToken) → Calm (repeated test p n ts)
unfolding repeated
repeated_calm test p h zero ts = calm refl
repeated_calm test p h (suc n) ts = calm_choice (test ts) (calm_then (h ts) (λ x. calm_then (repeated_calm test p h n x.1) (λ xs. calm refl))) (calm refl)

pub many_calm : {A : Type 0} (test : List ParserToken → Bool) (p : Parser A) → ((ts : List ParserToken) → Calm (p ts)) → (ts : List ParserToken) → Calm (many test p ts)
many_calm test p h ts = repeated_calm test p h (suc (length ts)) ts

listed_calm : {A : Type 0} (p : Parser A) → ((ts : List ParserToken) → Calm (p ts)) → (ts : List ParserToken) → Calm (listed p ts)
unfolding listed others
listed_calm p h ts = calm_then (h ts) (λ x. calm_then (many_calm (next_is class.Comma) (behind p) (λ us. h (after us)) x.1) (λ xs. calm refl))

pub names_calm : (ts : List ParserToken) → Calm (names_at ts)
unfolding names_at
names_calm = listed_calm name_at (spelled_calm class.Name)

-- ---- parts of nodes

pub comparing_calm : (ts : List ParserToken) → Calm (comparing_at ts)
unfolding comparing_at negated_comparing
comparing_calm ts = calm_choice (next_is class.Not ts) (calm_choice (next_is class.In (after ts) || next_is class.Equal (after ts)) (calm refl) (calm refl)) (calm refl)

pub variables_calm : (ts : List ParserToken) → Calm (variables_over false ts)
unfolding variables_over variable_names
variables_calm ts = calm_then (names_calm (after_disj ts)) (λ ns. calm_then (expect_calm class.Colon ns.1) (λ c. calm refl))

-- ---- parts of paragraphs

pub parent_calm : (ts : List ParserToken) → Calm (parent_at ts)
unfolding parent_at
parent_calm ts =
    calm_choice (next_is class.Extends ts) (calm_then (spelled_calm class.Name (after ts)) (λ x. calm refl))
    (calm_choice (next_is class.In ts) (calm_then (spelled_calm class.Name (after ts)) (λ x. calm refl)) (calm refl))

pub label_calm : (ts : List ParserToken) → Calm (label_at ts)
unfolding label_at
label_calm ts = calm_choice (next_is class.Name ts) (calm_then (spelled_calm class.Name ts) (λ x. calm refl)) (calm refl)

entry_calm : (ts : List ParserToken) → Calm (entry_at ts)
unfolding entry_at
entry_calm ts = calm_then (number_calm (if next_is class.Exactly ts then after ts else ts)) (λ n. calm_then (spelled_calm class.Name n.1) (λ x. calm refl))

entries_calm : (ts : List ParserToken) → Calm (entries_at ts)
unfolding entries_at
entries_calm = listed_calm entry_at entry_calm

exceptions_calm : (ts : List ParserToken) → Calm (exceptions_at ts)
unfolding exceptions_at
exceptions_calm ts = calm_choice (next_is class.But ts) (entries_calm (after ts)) (calm refl)

pub scope_calm : (ts : List ParserToken) → Calm (scope_at ts)
unfolding scope_at
scope_calm ts =
    calm_choice (next_is class.For ts)
    (calm_choice (has_default (after ts)) (calm_then (number_calm (after ts)) (λ n. calm_then (exceptions_calm n.1) (λ es. calm refl))) (calm_then (entries_calm (after ts)) (λ es. calm refl)))
    (calm refl)

pub expected_calm : (ts : List ParserToken) → Calm (expected_at ts)
unfolding expected_at
expected_calm ts = calm_choice (next_is class.Expect ts) (calm_then (number_calm (after ts)) (λ n. calm refl)) (calm refl)

pub heading_calm : (ts : List ParserToken) → Calm (heading_at ts)
unfolding heading_at
heading_calm ts = calm_choice (next_is class.Module ts) (calm_then (spelled_calm class.Name (after ts)) (λ x. calm refl)) (calm refl)

ordering_calm : (ts : List ParserToken) → Calm (ordering_at ts)
unfolding ordering_at
ordering_calm ts = calm_then (spelled_calm class.Path ts) (λ x. calm_choice (bytes_eq x.0.text (codes "util/ordering")) (calm refl) (calm refl))

pub open_calm : (ts : List ParserToken) → Calm (open_at ts)
unfolding open_at
open_calm ts =
    calm_then (ordering_calm (after ts)) (λ p. calm_then (expect_calm class.LeftBracket p.1) (λ o. calm_then (spelled_calm class.Name o.1) (λ s.
    calm_then (expect_calm class.RightBracket s.1) (λ c. calm_then (expect_calm class.As c.1) (λ w. calm_then (spelled_calm class.Name w.1) (λ a. calm refl))))))
