-- Numbers of the variables that occur.
use Rattle.std.proofs.Common.{◌≡◌, ◌<◌, ◌≤◌, ◌+◌, ◌-◌, ◌^◌, ◌++◌, [], ◌∷◌, ℕ, zero, Some, List, length, get_or, take, map, All, eqb, Err, arith, sym, ◌∙◌, ap, ap₂, inl, inr, refl, subst}
use Rattle.std.proofs.lemmas.Bool.{cases_lt, cases_order}
use Rattle.std.proofs.lemmas.List.{map-append, length-map, get_or-map, get_or_default, get_or_past, take_more}
use Rattle.std.proofs.lemmas.List.Concat.{flat_map-cons}
use Rattle.std.proofs.lemmas.List.Folds.{flat_map-map}
use Rattle.std.proofs.lemmas.Grind.{flat_map-append}
use Rattle.std.proofs.lemmas.List.Elements.{All-nil, All-cons, All-append, All-head, All-map, All-tail, All-contains, Contains-get_or, Contains-append_left, Contains-append_right}
use Rattle.std.proofs.lemmas.List.Kept.{AllPairs-from_increasing, Contains-dedup_nat, Contains-from_dedup}
use Rattle.std.proofs.lemmas.List.Sorted.{Contains-permutation, IsPermutation-sym, searched}
use Rattle.std.proofs.lemmas.Map.Keys.{IsStrictlyIncreasing-dedup, sorted_from_strictly_increasing}
use Rattle.std.proofs.lemmas.Map.Views.{length-le_from_below}
use Rattle.std.proofs.lemmas.Option.{slice_get-get_or, get_or_from_slice_get, slice_get_within}
use Rattle.std.specs.List.{AllPairs, Contains, slice_get, flat_map, dedup}
use Rattle.std.specs.List.Sorted.{IsPermutation, IsSorted, IsStrictlyIncreasing}
use Rattle.std.specs.Ordering.{nat_cmp}
use Rattle.std.specs.List.Sorted.{IsBinarySearchResult}
use Rattle.cnf_core.specs.declared.literal.Lit.{Lit}
use Rattle.cnf_core.specs.Literal.{IsVariable, IsClause, HasVarsUpTo}
use Rattle.refutation_check.specs.declared.log.Step.{Step}
use Rattle.refutation_check.specs.Chain.{members_of}
use Rattle.refutation_check.specs.Renaming.{AreApart, renamed, renamed_clause, renamed_step}
use Rattle.refutation_check.proofs.Sights.{lit_equal}
use Rattle.refutation_check.specs.Numbering.{variables_of, IsNumbering, IsNumbered, name_in}

module _ (names : List ℕ) (is : IsNumbering names) where
  pairs : AllPairs (λ x y. x < y) names
  pairs = AllPairs-from_increasing names is.rising

  pub some : 0 < length names
  some = slice_get_within names 0 0 is.first

  -- the name of a number that is in the list, whatever stands for those behind it
  name_inside : (k d : ℕ) → k < length names → name_in names k ≡ get_or names k d
  name_inside k d in' = get_or_default names k (get_or names (length names - 1) 0 + k) d in'

  name_outside : (k : ℕ) → length names ≤ k → name_in names k ≡ get_or names (length names - 1) 0 + k
  name_outside k past = get_or_past names k (get_or names (length names - 1) 0 + k) past

  below_last : (k : ℕ) → k < length names → get_or names k 0 ≤ get_or names (length names - 1) 0
  below_last k in' =
      elim (cases_lt k (length names - 1)) [
        | inl lt ↦ let up : get_or names k 0 < get_or names (length names - 1) 0 = pairs k (length names - 1) 0 lt (omega (arith, some)) in omega arith
        | inr ge ↦ let last : k ≡ length names - 1 = omega arith in let e : get_or names k 0 ≡ get_or names (length names - 1) 0 = ap (λ (n : ℕ). get_or names n 0) last in omega arith
      ]

  pub name_rises : (a b : ℕ) → a < b → name_in names a < name_in names b
  name_rises a b less =
      elim (cases_lt b (length names)) [
        | inl inside ↦
            let up : get_or names a 0 < get_or names b 0 = pairs a b 0 less inside in
            omega (arith, name_inside a 0 (omega arith), name_inside b 0 inside)
        | inr outside ↦ elim (cases_lt a (length names)) [
          | inl inside ↦ omega (arith, name_inside a 0 inside, below_last a inside, name_outside b outside)
          | inr past ↦ omega (arith, name_outside a past, name_outside b outside)
        ]
      ]

  pub names_apart : AreApart (name_in names)
  names_apart a b e =
      elim (cases_order a b) [
        | inl same ↦ same
        | inr differ ↦ elim differ [
          | inl less ↦ absurd (omega (arith, name_rises a b less))
          | inr more ↦ absurd (omega (arith, name_rises b a more))
        ]
      ]

  name_rises_back : (a b : ℕ) → name_in names a < name_in names b → a < b
  name_rises_back a b less =
      elim (cases_order a b) [
        | inl same ↦ let e : name_in names a ≡ name_in names b = ap (name_in names) same in absurd (omega arith)
        | inr differ ↦ elim differ [ inl lt ↦ lt | inr more ↦ absurd (omega (arith, name_rises b a more)) ]
      ]

  pub named_at : (k var : ℕ) → k < length names → get_or names k 0 ≡ var → name_in names k ≡ var
  named_at k var in' at = name_inside k 0 in' ∙ at

  first_name : name_in names 0 ≡ 0
  first_name = name_inside 0 0 some ∙ get_or_from_slice_get names 0 0 0 is.first

  -- what has a variable's number has a number from 1
  number_is_variable : (k : ℕ) → IsVariable (name_in names k) → k ≤ length names - 1 → IsVariable k
  number_is_variable k named within =
      elim (cases_lt 0 k) [
        | inl low ↦ (low, omega (arith, some, is.few))
        | inr zero' ↦
            let none : k ≡ 0 = omega arith in
            let e : name_in names k ≡ 0 = ap (name_in names) none ∙ first_name in
            absurd (omega (arith, named.0))
      ]

  -- literals are a clause where they are one under the names
  pub clause_of_numbers : (made lits : List Lit) → renamed_clause (name_in names) made ≡ lits → HasVarsUpTo (length names - 1) made → IsClause lits → IsClause made
  clause_of_numbers made lits named within clause =
      let long : length lits ≡ length made = ap length (sym named) ∙ length-map made (renamed (name_in names)) in
      let at : (k : ℕ) (d : Lit) → k < length made → name_in names (get_or made k d).var ≡ (get_or lits k d).var =
      λ k d h. sym (ap (λ (l : Lit). l.var) (ap (λ (ls : List Lit). get_or ls k d) (sym named) ∙ get_or-map (renamed (name_in names)) made k d d h)) in
      record {
        rising = λ i j d less h.
            let up : (get_or lits i d).var < (get_or lits j d).var = clause.rising i j d less (omega arith) in
            name_rises_back (get_or made i d).var (get_or made j d).var (omega (arith, at i d (omega arith), at j d h));
        variables = λ k d h. number_is_variable (get_or made k d).var (subst IsVariable (sym (at k d h)) (clause.variables k d (omega arith))) (within k d h);
      }

  -- numbers that rise: the earlier stand at smaller places
  pub up : (i j : ℕ) → i ≤ j → j < length names → get_or names i 0 ≤ get_or names j 0
  up i j le in' =
      elim (cases_lt i j) [
        | inl lt ↦ let less : get_or names i 0 < get_or names j 0 = pairs i j 0 lt in' in omega arith
        | inr ge ↦ let same : i ≡ j = omega arith in let e : get_or names i 0 ≡ get_or names j 0 = ap (λ (n : ℕ). get_or names n 0) same in omega arith
      ]

-- ---- the variables that occur

variables_small : (clause : List Lit) → All (λ l. IsVariable l.var) clause → All (λ x. x < 2 ^ 31) (variables_of clause)
variables_small clause all = All-map (λ x. x < 2 ^ 31) (λ (l : Lit). l.var) clause (λ k d h. (all k d h).1)

all_small : (members : List (List Lit)) → All IsClause members → All (λ x. x < 2 ^ 31) (flat_map variables_of members)
all_small [] all = All-nil (λ x. x < 2 ^ 31)
all_small (c ∷ members) all =
    rw (flat_map-cons variables_of c members)
    (All-append (λ x. x < 2 ^ 31) (variables_of c) (flat_map variables_of members) (variables_small c (All-head IsClause c members all).variables) (all_small members (All-tail IsClause c members all)))

variable_there : (clause : List Lit) (k : ℕ) (d : Lit) → k < length clause → Contains (variables_of clause) (get_or clause k d).var
variable_there clause k d h =
    (k, omega (arith, length-map clause (λ (l : Lit). l.var)), get_or-map (λ (l : Lit). l.var) clause k d (get_or clause k d).var h)

each_numbered : (names : List ℕ) (members : List (List Lit)) → ((x : ℕ) → Contains (flat_map variables_of members) x → Contains names x) → All (IsNumbered names) members
each_numbered names [] into = All-nil (IsNumbered names)
each_numbered names (c ∷ members) into =
    let e = flat_map-cons variables_of c members in
    All-cons (IsNumbered names) c members
    (λ k d h. into (get_or c k d).var (rw e (Contains-append_left (variables_of c) (flat_map variables_of members) (get_or c k d).var (variable_there c k d h))))
    (each_numbered names members (λ x has. into x (rw e (Contains-append_right (variables_of c) (flat_map variables_of members) x has))))

module _ (members : List (List Lit)) (all : All IsClause members) (found sorted : List ℕ) (is : found ≡ 0 ∷ flat_map variables_of members) (moved : IsPermutation found sorted) (in_order : IsSorted nat_cmp sorted) where
  found_small : All (λ x. x < 2 ^ 31) found
  found_small = subst (All (λ x. x < 2 ^ 31)) (sym is) (All-cons (λ x. x < 2 ^ 31) 0 (flat_map variables_of members) (omega arith) (all_small members all))

  kept : (x : ℕ) → Contains found x → Contains (dedup eqb sorted) x
  kept x has = Contains-dedup_nat sorted x (Contains-permutation found sorted x moved has)

  rises : IsStrictlyIncreasing (dedup eqb sorted)
  rises = IsStrictlyIncreasing-dedup sorted in_order

  -- 0 is the least
  zero_first : Contains (dedup eqb sorted) 0 → slice_get (dedup eqb sorted) 0 ≡ Some 0
  zero_first (k, in', at) =
      elim (cases_lt 0 k) [
        | inl later ↦ let less : get_or (dedup eqb sorted) 0 0 < get_or (dedup eqb sorted) k 0 = AllPairs-from_increasing (dedup eqb sorted) rises 0 k 0 later in' in absurd (omega (arith, at))
        | inr none ↦
            let first : k ≡ 0 = omega arith in
            let there : get_or (dedup eqb sorted) 0 0 ≡ 0 = ap (λ (n : ℕ). get_or (dedup eqb sorted) n 0) (sym first) ∙ at in
            slice_get-get_or (dedup eqb sorted) 0 0 (omega arith) ∙ ap Some there
      ]

  kept_small : All (λ x. x < 2 ^ 31) (dedup eqb sorted)
  kept_small k d h =
      let x : ℕ = get_or (dedup eqb sorted) k d in
      All-contains (λ x. x < 2 ^ 31) found x found_small
      (Contains-permutation sorted found x (IsPermutation-sym found sorted moved) (Contains-from_dedup eqb sorted x (Contains-get_or (dedup eqb sorted) k d h)))

  pub numbering : IsNumbering (dedup eqb sorted)
  numbering =
      record {
        rising = rises;
        first = zero_first (kept 0 (subst (λ (xs : List ℕ). Contains xs 0) (sym is) (0, omega arith, refl)));
        few = length-le_from_below (2 ^ 31) (dedup eqb sorted) (sorted_from_strictly_increasing (dedup eqb sorted) rises) kept_small;
      }

  pub all_numbered : All (IsNumbered (dedup eqb sorted)) members
  all_numbered =
      each_numbered (dedup eqb sorted) members
      (λ x has. kept x (subst (λ (xs : List ℕ). Contains xs x) (sym is) (Contains-append_right (0 ∷ []) (flat_map variables_of members) x has)))

-- a variable that has a number is found
pub never_absent : (names : List ℕ) → IsNumbering names → (var n : ℕ) → Contains names var → IsBinarySearchResult (λ y. nat_cmp y var) names (Err n) → ⊥
never_absent names is var n (k, in', at) searching =
    let parted = searched names var (Err n) searching (up names is) in
    let here : get_or names k 0 ≡ var = get_or_default names k 0 var in' ∙ at in
    elim (cases_lt k n) [
      | inl before ↦ let less : get_or names k 0 < var = parted.1 k before in absurd (omega arith)
      | inr behind ↦ let more : var < get_or names k 0 = parted.2 k behind in' in absurd (omega arith)
    ]

-- a literal more, under its number
pub one_literal_more : (names : List ℕ) → IsNumbering names → (made lits : List Lit) (i : ℕ) (d : Lit) (number : ℕ) → i < length lits →
    number < length names → get_or names number 0 ≡ (get_or lits i d).var → renamed_clause (name_in names) made ≡ take i lits →
    renamed_clause (name_in names) (made ++ record { var = number; positive = (get_or lits i d).positive } ∷ []) ≡ take (i + 1) lits
one_literal_more names is made lits i d number in' low at named =
    let l : Lit = record { var = number; positive = (get_or lits i d).positive } in
    let same : renamed (name_in names) l ≡ get_or lits i d = lit_equal (renamed (name_in names) l) (get_or lits i d) (named_at names is number (get_or lits i d).var low at) refl in
    map-append (renamed (name_in names)) made (l ∷ []) ∙ (ap₂ (λ (xs : List Lit) (x : Lit). xs ++ x ∷ []) named same ∙ sym (take_more lits i d in'))

-- what each member meets, each clause and each step's clause do
pub each_clause : (P : List Lit → Type 0) (clauses : List (List Lit)) (steps : List Step) → All P (members_of clauses steps) → All P clauses
each_clause P clauses steps all k d h =
    All-contains P (members_of clauses steps) (get_or clauses k d) all (Contains-append_left clauses (map (λ (s : Step). s.clause) steps) (get_or clauses k d) (Contains-get_or clauses k d h))

pub each_step : (P : List Lit → Type 0) (clauses : List (List Lit)) (steps : List Step) → All P (members_of clauses steps) → All (λ s. P s.clause) steps
each_step P clauses steps all k d h =
    All-contains P (members_of clauses steps) (get_or steps k d).clause all
    (Contains-append_right clauses (map (λ (s : Step). s.clause) steps) (get_or steps k d).clause
    (k, omega (arith, length-map steps (λ (s : Step). s.clause)), get_or-map (λ (s : Step). s.clause) steps k d (get_or steps k d).clause h))

pub members_clauses : (clauses : List (List Lit)) (steps : List Step) → All IsClause clauses → All (λ s. IsClause s.clause) steps → All IsClause (members_of clauses steps)
members_clauses clauses steps first second = All-append IsClause clauses (map (λ (s : Step). s.clause) steps) first (All-map IsClause (λ (s : Step). s.clause) steps second)

pub members_variables : (clauses : List (List Lit)) (steps : List Step) → flat_map variables_of (members_of clauses steps) ≡ flat_map variables_of clauses ++ flat_map (λ (s : Step). variables_of s.clause) steps
members_variables clauses steps =
    flat_map-append variables_of clauses (map (λ (s : Step). s.clause) steps)
    ∙ ap (λ (xs : List ℕ). flat_map variables_of clauses ++ xs) (flat_map-map variables_of (λ (s : Step). s.clause) steps)

step_equal : (a b : Step) → a.clause ≡ b.clause → a.hints ≡ b.hints → a ≡ b
step_equal a b c h = ap₂ (λ (clause : List Lit) (hints : List ℕ). let s : Step = record { clause = clause; hints = hints } in s) c h

-- a step more, whose clause has the numbers
pub one_step_more : (name : ℕ → ℕ) (made steps : List Step) (i : ℕ) (d s : Step) → i < length steps → renamed_clause name s.clause ≡ (get_or steps i d).clause → s.hints ≡ (get_or steps i d).hints →
    map (renamed_step name) made ≡ take i steps → map (renamed_step name) (made ++ s ∷ []) ≡ take (i + 1) steps
one_step_more name made steps i d s in' clause hints named =
    map-append (renamed_step name) made (s ∷ []) ∙ (ap₂ (λ (xs : List Step) (x : Step). xs ++ x ∷ []) named (step_equal (renamed_step name s) (get_or steps i d) clause hints) ∙ sym (take_more steps i d in'))
