-- Least members in order, from one scenario to the next.
use Rattle.std.proofs.Common.{◌≡◌, ◌⊎◌, inl, inr, ◌↔◌, Bool, true, false, not, ℕ, ◌+◌, ◌-◌, zero, suc, ◌<◌, ◌≤◌, List, [], ◌∷◌, ◌++◌, take, drop, length, get_or, All, AllPairs, Contains, refl, sym, ◌∙◌, ap, subst, arith}
use Rattle.std.specs.List.{insert}
use Rattle.std.proofs.lemmas.Bool.{cases_lt}
use Rattle.std.proofs.lemmas.List.{get_or_default, take_more, length-take-le, get_or-take, get_or-drop, length-drop}
use Rattle.std.proofs.lemmas.List.Elements.{Contains-get_or, Contains-append_left, Contains-push, Contains-push_cases}
use Rattle.std.proofs.lemmas.List.Kept.{AllPairs-cons}
use Rattle.rel_formula.specs.Bounds.{Bounded, IsProblem}
use Rattle.rel_formula.specs.Instance.{IsScenario, IsMinimalAbove}
use Rattle.rel_formula.specs.Renaming.{IsRenamingOf, IsSymmetric}
use Rattle.rel_formula.proofs.Lists.{pairs_nil, pairs_append}
use Rattle.rel_formula.proofs.RisingNumbers.{Rises}
use Rattle.rel_formula.proofs.Renamed.{minimal_moved}
use Rattle.swap_symmetry.specs.Order.{IsEarlier}
use Rattle.swap_symmetry.specs.Due.{IsDue}
use Rattle.swap_symmetry.proofs.ScenarioOrders.{goes_on, compared}
use Rattle.swap_symmetry.proofs.Descent.{due_renaming, empty_scenario}
use Rattle.renaming_classes.specs.Least.{IsLeast, IsLeastRenamingOf}
use Rattle.renaming_classes.specs.Classes.{AreClasses, AreMinimalUpToRenaming}
use Rattle.renaming_classes.proofs.ClassLaws.{of_back, of_then, one_least, not_itself}

-- what is earlier than a scenario, and what is not, in a list in order
module _ (xs : List (List ℕ)) (s : List ℕ) (sorted : AllPairs IsEarlier xs) (middle : ℕ) (below : middle < length xs) where
  pub up_to : IsEarlier (get_or xs middle []) s → (k : ℕ) → k < middle + 1 → IsEarlier (get_or xs k []) s
  up_to h k l = elim (cases_lt k middle) [
    | inl less ↦ goes_on (get_or xs k []) (get_or xs middle []) s (sorted k middle [] less below) h
    | inr past ↦ let same : middle ≡ k = omega arith in subst (λ n. IsEarlier (get_or xs n []) s) same h
  ]

  pub from_on : (IsEarlier (get_or xs middle []) s → ⊥) → (k : ℕ) → middle ≤ k → k < length xs → IsEarlier (get_or xs k []) s → ⊥
  from_on h k l in' e = elim (cases_lt middle k) [
    | inr past ↦ let same : k ≡ middle = omega arith in h (subst (λ n. IsEarlier (get_or xs n []) s) same e)
    | inl less ↦ h (goes_on (get_or xs middle []) (get_or xs k []) s (sorted middle k [] less in') e)
  ]

-- one scenario more among those in order, before the first that is later
module _ (xs : List (List ℕ)) (n : ℕ) (s : List ℕ) (sorted : AllPairs IsEarlier xs) (le : n ≤ length xs)
    (before : (k : ℕ) → k < n → IsEarlier (get_or xs k []) s) (later : (n < length xs → IsEarlier s (get_or xs n []))) where
  front_sorted : AllPairs IsEarlier (take n xs)
  front_sorted i j d less l =
      let long = length-take-le n xs le in
      subst (λ x. IsEarlier x (get_or (take n xs) j d)) (sym (get_or-take n xs i d (omega arith)))
      (subst (IsEarlier (get_or xs i d)) (sym (get_or-take n xs j d (omega arith))) (sorted i j d less (omega arith)))

  behind_all : All (IsEarlier s) (drop n xs)
  behind_all k d l =
      let long : length (drop n xs) ≡ length xs - n = length-drop n xs in
      let at : get_or (drop n xs) k d ≡ get_or xs (n + k) d = get_or-drop n xs k d in
      let here = later (omega arith) in
      subst (IsEarlier s) (sym at) (elim (cases_lt 0 k) [
        | inl more ↦ goes_on s (get_or xs n []) (get_or xs (n + k) d) here
            (subst (λ x. IsEarlier x (get_or xs (n + k) d)) (get_or_default xs n d [] (omega arith)) (sorted n (n + k) d (omega arith) (omega arith)))
        | inr first ↦ let same : n ≡ n + k = omega arith in
            subst (λ i. IsEarlier s (get_or xs i d)) same (subst (IsEarlier s) (get_or_default xs n [] d (omega arith)) here)
      ])

  behind_sorted : AllPairs IsEarlier (drop n xs)
  behind_sorted i j d less l =
      let long : length (drop n xs) ≡ length xs - n = length-drop n xs in
      subst (λ x. IsEarlier x (get_or (drop n xs) j d)) (sym (get_or-drop n xs i d))
      (subst (IsEarlier (get_or xs (n + i) d)) (sym (get_or-drop n xs j d)) (sorted (n + i) (n + j) d (omega arith) (omega arith)))

  first_later : (j : ℕ) (e : List ℕ) → 0 < j → j < length (s ∷ drop n xs) → IsEarlier s (get_or (s ∷ drop n xs) j e)
  first_later zero e l m = absurd (omega arith)
  first_later (suc j) e l m = behind_all j e (omega arith)

  front_before : All (λ x. All (IsEarlier x) (s ∷ drop n xs)) (take n xs)
  front_before k d l j e m =
      let long = length-take-le n xs le in
      let x = get_or (take n xs) k d in
      let first : IsEarlier x s = subst (λ y. IsEarlier y s) (get_or_default xs k [] d (omega arith) ∙ sym (get_or-take n xs k d (omega arith))) (before k (omega arith)) in
      elim (cases_lt 0 j) [
        | inl more ↦ goes_on x s (get_or (s ∷ drop n xs) j e) first (first_later j e more m)
        | inr none ↦ let same : 0 ≡ j = omega arith in subst (λ i. IsEarlier x (get_or (s ∷ drop n xs) i e)) same first
      ]

  pub sorted_with : AllPairs IsEarlier (insert xs n s)
  sorted_with = pairs_append IsEarlier (take n xs) (s ∷ drop n xs) front_sorted (AllPairs-cons IsEarlier s (drop n xs) behind_all behind_sorted) front_before

pub not_true : (b : Bool) → not b ≡ true → b ≡ true → ⊥
not_true true n t = let e : false ≡ true = n in cc
not_true false n t = let e : false ≡ true = t in cc

pub not_false : (b : Bool) → not b ≡ false → b ≡ true
not_false true n = refl
not_false false n = absurd (let e : true ≡ false = n in cc)

-- what stands where a scenario would, and isn't later, is that scenario
pub found_there : (xs : List (List ℕ)) (n : ℕ) (s : List ℕ) → n < length xs → Rises (get_or xs n []) → Rises s → (IsEarlier (get_or xs n []) s → ⊥) → (IsEarlier s (get_or xs n []) → ⊥) → Contains xs s
found_there xs n s l up vp before later = elim (compared (get_or xs n []) s up vp) [
  | inl same ↦ subst (Contains xs) same (Contains-get_or xs n [] l)
  | inr other ↦ elim other [ inl e ↦ absurd (before e) | inr e ↦ absurd (later e) ]
]

-- one scenario more, whose least renaming is among those found
module _ (p : Bounded) (all : List (List ℕ)) (i : ℕ) (s : List ℕ) (below : i < length all) (is : s ≡ get_or all i s) (found new : List (List ℕ)) (member : List ℕ)
    (least : IsLeastRenamingOf p s member) (has : (t : List ℕ) → Contains new t ↔ (Contains found t ⊎ (t ≡ member))) where
  more : take (i + 1) all ≡ take i all ++ s ∷ []
  more = take_more all i s below ∙ ap (λ (x : List ℕ). take i all ++ x ∷ []) (sym is)

  was : (x : List ℕ) → Contains (take i all) x → Contains (take (i + 1) all) x
  was x c = subst (λ (xs : List (List ℕ)). Contains xs x) (sym more) (Contains-append_left (take i all) (s ∷ []) x c)

  pub one_class_more : AllPairs IsEarlier new → AreClasses p (take i all) found → AreClasses p (take (i + 1) all) new
  one_class_more sorted so_far = record {
    each = λ t c. elim ((has t).0 c) [
      | inl old ↦ let h = so_far.each t old in (h.0, was h.0 h.1, h.2)
      | inr same ↦ (s, subst (λ (xs : List (List ℕ)). Contains xs s) (sym more) (Contains-push (take i all) s), subst (IsLeastRenamingOf p s) (sym same) least)
    ];
    every = λ x c. elim (Contains-push_cases (take i all) s x (subst (λ (xs : List (List ℕ)). Contains xs x) more c)) [
      | inl old ↦ let h = so_far.every x old in (h.0, (has h.0).1 (inl h.1), h.2)
      | inr same ↦ (member, (has member).1 (inr refl), subst (λ y. IsLeastRenamingOf p y member) same least)
    ];
    sorted = sorted;
  }

pub no_classes : (p : Bounded) (all : List (List ℕ)) → AreClasses p (take 0 all) []
no_classes p all = record {
  each = λ t c. absurd (let l = c.1 in omega arith);
  every = λ s c. absurd (let l = c.1 in omega arith);
  sorted = pairs_nil IsEarlier;
}

module _ (p : Bounded) (well : IsProblem p) (symmetric : IsSymmetric p) where
  -- a renaming of a minimal instance is one
  pub minimal_renamed : (s t : List ℕ) → IsScenario p t → IsRenamingOf p s t → IsMinimalAbove p [] s → IsMinimalAbove p [] t
  minimal_renamed s t scenario is minimal =
      let none = empty_scenario p in
      minimal_moved p is.there is.back well is.renaming.there is.renaming.back (symmetric is.there is.back is.renaming) s t [] [] scenario none none is.image
      (λ r row. (λ h. absurd (let l = h.1.1 in omega arith), λ h. absurd (let l = h.1.1 in omega arith))) minimal

  -- what is due at the empty floor are minimal instances, and all of them up to renaming
  pub due_up_to_renaming : (all : List (List ℕ)) → ((x : List ℕ) → Contains all x ↔ IsDue p [] x) → AreMinimalUpToRenaming p all
  due_up_to_renaming all just = record {
    minimal = λ s c. ((just s).0 c).minimal;
    complete = λ s minimal. let h = due_renaming p well symmetric s minimal in (h.0, (just h.0).1 h.2, h.1);
  }

  module _ (all found : List (List ℕ)) (are : AreMinimalUpToRenaming p all) (classes : AreClasses p all found) where
    -- the classes are those of all minimal instances
    pub exactly_least : (t : List ℕ) → Contains found t ↔ (IsMinimalAbove p [] t × IsLeast p t)
    exactly_least t = (
      λ c. let h = classes.each t c in (minimal_renamed h.0 t h.2.least.scenario h.2.renaming (are.minimal h.0 h.1), h.2.least),
      λ h.
          let among = are.complete t h.0 in
          let member = classes.every among.0 among.1 in
          let same = one_least p member.0 t member.2.least h.1 (of_back p t member.0 (of_then p t among.0 member.0 among.2 member.2.renaming)) in
          subst (Contains found) same member.1,
    )

-- no two of them are renamings of each other
pub all_apart : (p : Bounded) (all found : List (List ℕ)) → AreClasses p all found → AllPairs (λ t u. IsRenamingOf p t u → ⊥) found
all_apart p all found classes i j d less l is =
    let t = get_or found i d in
    let u = get_or found j d in
    let first = classes.each t (Contains-get_or found i d (omega arith)) in
    let second = classes.each u (Contains-get_or found j d l) in
    let same = one_least p t u first.2.least second.2.least is in
    not_itself u (subst (λ x. IsEarlier x u) same (classes.sorted i j d less l))
