-- Marks of what was declared so far.
use Rattle.std.proofs.Common.{rules, ◌≡◌, ℕ, ◌+◌, ◌<◌, ◌≤◌, ◌==◌, Bool, true, false, ◌&&◌, ◌||◌, List, [], ◌∷◌, ◌++◌, flat_map, length, get_or, take, drop, Some, None, refl, sym, ap, ◌∙◌, subst, inl, inr, if◌then◌else◌}
use Rattle.std.specs.List.{list_any}
use Rattle.std.proofs.lemmas.Bool.{cases_Bool}
use Rattle.std.proofs.lemmas.List.Folds.{list_any-append}
use Rattle.std.proofs.lemmas.List.{take_more, drop_more, at_drop_all, append-nil}
use Rattle.std.proofs.lemmas.Grind.{flat_map-append}
use Rattle.named_model.specs.declared.fault.NameFault.TheVariants.{Twice}
use Rattle.named_model.specs.Answers.{first_in}
use Rattle.name_tables.proofs.Texts.{agree}
use Rattle.indexmap.specs.IndexSet.{insert_key}
use Rattle.name_tables.specs.declared.repeated_names.marks.Mark.{Mark}
use Rattle.name_tables.specs.declared.repeated_names.marks.Mark.TheVariants as mark
use Rattle.name_tables.specs.declared.repeated_names.stated.Space.{Space}
use Rattle.name_tables.specs.declared.repeated_names.stated.Space.TheVariants.{Global, Under, Loose, Assertions, Parameters}
use Rattle.name_tables.specs.declared.repeated_names.stated.Coded.{Coded}
use Rattle.name_tables.specs.Repeats.Coded.{exclude, repeats_one, repeats}
use Rattle.name_tables.specs.Repeats.Marks.{same_mark, has, AreMarks, marks_of, is_marked}
use Rattle.name_tables.specs.contracts.repeated_names.marks.MarkPartialEq.TheImpl.{eq-value}

-- ---- the test of the code

eq_true : (a b : Mark) → eq-value.it a b ≡ true → a ≡ b
eq_true a b h = search rules

eq_self : (a : Mark) → eq-value.it a a ≡ true
eq_self a = search rules

same_true : (a b : Mark) → same_mark a b ≡ true → a ≡ b
same_true a b h = search rules

same_self : (a : Mark) → same_mark a a ≡ true
same_self a = search rules

same_test : (a b : Mark) → eq-value.it a b ≡ same_mark b a
same_test a b =
    agree (eq-value.it a b) (same_mark b a)
    (λ e. subst (λ x. same_mark b x ≡ true) (sym (eq_true a b e)) (same_self b))
    (λ e. subst (λ x. eq-value.it a x ≡ true) (sym (same_true b a e)) (eq_self a))

pub any_has : (m : Mark) (keys : List Mark) → list_any (eq-value.it m) keys ≡ has keys m
any_has m [] = refl
any_has m (x ∷ keys) = ap (λ b. b || list_any (eq-value.it m) keys) (same_test m x) ∙ ap (λ b. same_mark x m || b) (any_has m keys)

absorbed : (b c : Bool) → (c ≡ true → b ≡ true) → b ≡ (b || (c || false))
absorbed true c h = refl
absorbed false true h = absurd (false_is_not_true (h refl))
  where
    false_is_not_true : false ≡ true → ⊥
    false_is_not_true e = absurd cc
absorbed false false h = refl

-- a mark more
pub marks_put : (ms keys : List Mark) (m : Mark) → AreMarks ms keys → AreMarks (ms ++ m ∷ []) (insert_key eq-value.it keys m)
marks_put ms keys m are q =
    elim (cases_Bool (list_any (eq-value.it m) keys)) [
      | inl there ↦
          let kept : insert_key eq-value.it keys m ≡ keys = ap (λ (b : Bool). if b then keys else keys ++ m ∷ []) there in
          ap (λ ks. has ks q) kept
          ∙ absorbed (has keys q) (same_mark m q) (λ e. subst (λ x. has keys x ≡ true) (same_true m q e) (sym (any_has m keys) ∙ there))
          ∙ ap (λ b. b || (same_mark m q || false)) (are q)
          ∙ sym (list_any-append (λ x. same_mark x q) ms (m ∷ []))
      | inr new ↦
          let put : insert_key eq-value.it keys m ≡ keys ++ m ∷ [] = ap (λ (b : Bool). if b then keys else keys ++ m ∷ []) new in
          ap (λ ks. has ks q) put
          ∙ list_any-append (λ x. same_mark x q) keys (m ∷ [])
          ∙ ap (λ b. b || (same_mark m q || false)) (are q)
          ∙ sym (list_any-append (λ x. same_mark x q) ms (m ∷ []))
    ]

pub marks_two : (ms : List Mark) (a b : Mark) (keys : List Mark) → AreMarks ((ms ++ a ∷ []) ++ b ∷ []) keys → AreMarks (ms ++ a ∷ b ∷ []) keys
marks_two ms a b keys are = subst (λ xs. AreMarks xs keys) (two ms) are
  where
    two : (xs : List Mark) → (xs ++ a ∷ []) ++ b ∷ [] ≡ xs ++ a ∷ b ∷ []
    two [] = refl
    two (x ∷ xs) = ap (λ zs. x ∷ zs) (two xs)

-- ---- marks tell what is repeated

or_in : (x a b : Bool) → ((x || a) || b) ≡ (x || (a || b))
or_in true a b = refl
or_in false a b = refl

or_past : (x a b : Bool) → (a || (x || b)) ≡ (x || (a || b))
or_past true true b = refl
or_past true false b = refl
or_past false a b = refl

or_inner : (x a b c : Bool) → ((a || (x || b)) || c) ≡ (x || ((a || b) || c))
or_inner x a b c = ap (λ d. d || c) (or_past x a b) ∙ or_in x (a || b) c

marked_more : (d s : Space) (v w : ℕ) (rest : List Mark) → is_marked (marks_of d v ++ rest) s w ≡ ((exclude d s && (v == w)) || is_marked rest s w)
marked_more Global Global v w rest = or_in (v == w) (has rest (mark.Global w)) (has rest (mark.Field w))
marked_more (Under t) Global v w rest = or_past (v == w) (has rest (mark.Global w)) (has rest (mark.Field w))
marked_more Loose Global v w rest = or_past (v == w) (has rest (mark.Global w)) (has rest (mark.Field w))
marked_more Assertions Global v w rest = refl
marked_more (Parameters k) Global v w rest = refl
marked_more Global (Under u) v w rest =
    ap (λ b. b || has rest (mark.Under u w)) (or_in (v == w) (has rest (mark.Global w)) (has rest (mark.Loose w)))
    ∙ or_in (v == w) (has rest (mark.Global w) || has rest (mark.Loose w)) (has rest (mark.Under u w))
marked_more (Under t) (Under u) v w rest = or_past ((t == u) && (v == w)) (has rest (mark.Global w) || has rest (mark.Loose w)) (has rest (mark.Under u w))
marked_more Loose (Under u) v w rest = or_inner (v == w) (has rest (mark.Global w)) (has rest (mark.Loose w)) (has rest (mark.Under u w))
marked_more Assertions (Under u) v w rest = refl
marked_more (Parameters k) (Under u) v w rest = refl
marked_more Global Loose v w rest = or_in (v == w) (has rest (mark.Global w)) (has rest (mark.Field w))
marked_more (Under t) Loose v w rest = or_past (v == w) (has rest (mark.Global w)) (has rest (mark.Field w))
marked_more Loose Loose v w rest = or_past (v == w) (has rest (mark.Global w)) (has rest (mark.Field w))
marked_more Assertions Loose v w rest = refl
marked_more (Parameters k) Loose v w rest = refl
marked_more Global Assertions v w rest = refl
marked_more (Under t) Assertions v w rest = refl
marked_more Loose Assertions v w rest = refl
marked_more Assertions Assertions v w rest = refl
marked_more (Parameters k) Assertions v w rest = refl
marked_more Global (Parameters l) v w rest = refl
marked_more (Under t) (Parameters l) v w rest = refl
marked_more Loose (Parameters l) v w rest = refl
marked_more Assertions (Parameters l) v w rest = refl
marked_more (Parameters k) (Parameters l) v w rest = refl

-- the marks of all these
abbrev pub marks_in : List Coded → List Mark
marks_in = flat_map (λ (d : Coded). marks_of d.space d.word)

none_marked : (s : Space) (w : ℕ) → is_marked [] s w ≡ false
none_marked Global w = refl
none_marked (Under t) w = refl
none_marked Loose w = refl
none_marked Assertions w = refl
none_marked (Parameters k) w = refl

marked : (c : Coded) (before : List Coded) → is_marked (marks_in before) c.space c.word ≡ list_any (repeats_one c) before
marked c [] = none_marked c.space c.word
marked c (d ∷ before) = marked_more d.space c.space d.word c.word (marks_in before) ∙ ap (λ b. (exclude d.space c.space && (d.word == c.word)) || b) (marked c before)

-- ---- a loop over what is declared

abbrev pub no_name : Coded
no_name = record { space = Global; word = 0; place = record { line = 0; column = 0 } }

module _ (all : List Coded) (i : ℕ) where
  -- the marks are those of the first ones, and none of them is repeated
  pub record AreFirst (keys : List Mark) : Type 0 where
    pub marks_are : AreMarks (marks_in (take i all)) keys
    pub told : first_in (repeats (take i all) (drop i all)) ≡ first_in (repeats [] all)

  module _ (keys : List Mark) (first : AreFirst keys) (c : Coded) (l : i < length all) (is : c ≡ get_or all i c) where
    next_told : first_in ((if list_any (repeats_one c) (take i all) then Twice c.place ∷ [] else []) ++ repeats (take i all ++ c ∷ []) (drop (i + 1) all)) ≡ first_in (repeats [] all)
    next_told = sym (ap (λ xs. first_in (repeats (take i all) xs)) (drop_more all i c l ∙ ap (λ x. x ∷ drop (i + 1) all) (sym is))) ∙ first.told

    taken : take (i + 1) all ≡ take i all ++ c ∷ []
    taken = take_more all i c l ∙ ap (λ x. take i all ++ x ∷ []) (sym is)

    pub repeated_here : (b : Bool) → b ≡ is_marked (marks_in (take i all)) c.space c.word → b ≡ true → Some (Twice c.place) ≡ first_in (repeats [] all)
    repeated_here b marked_is holds =
        sym (ap (λ e. first_in ((if e then Twice c.place ∷ [] else []) ++ repeats (take i all ++ c ∷ []) (drop (i + 1) all))) (sym (marked c (take i all)) ∙ sym marked_is ∙ holds)) ∙ next_told

    pub not_here : (b : Bool) → b ≡ is_marked (marks_in (take i all)) c.space c.word → b ≡ false → first_in (repeats (take (i + 1) all) (drop (i + 1) all)) ≡ first_in (repeats [] all)
    not_here b marked_is fails =
        ap (λ xs. first_in (repeats xs (drop (i + 1) all))) taken
        ∙ sym (ap (λ e. first_in ((if e then Twice c.place ∷ [] else []) ++ repeats (take i all ++ c ∷ []) (drop (i + 1) all))) (sym (marked c (take i all)) ∙ sym marked_is ∙ fails)) ∙ next_told

    pub marks_next : (new : List Mark) → AreMarks (marks_in (take i all) ++ marks_of c.space c.word) new → AreMarks (marks_in (take (i + 1) all)) new
    marks_next new are =
        subst (λ ms. AreMarks ms new)
        (sym (ap marks_in taken ∙ flat_map-append (λ (d : Coded). marks_of d.space d.word) (take i all) (c ∷ []) ∙ ap (λ ms. marks_in (take i all) ++ ms) (append-nil (marks_of c.space c.word)))) are

  pub none_here : (keys : List Mark) → AreFirst keys → length all ≤ i → None ≡ first_in (repeats [] all)
  none_here keys first l = sym (at_drop_all (λ xs. first_in (repeats (take i all) xs)) all i l) ∙ first.told
