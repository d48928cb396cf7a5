-- How a crew's journal grows, and what it tells.
use Rattle.std.proofs.Common.{◌≡◌, ◌≢◌, ◌⊎◌, inl, inr, ◌<◌, ◌≤◌, ◌+◌, ℕ, Bool, true, false, cond, Option, Some, None, List, [], ◌∷◌, ◌++◌, length, All, AllPairs, Contains, refl, sym, ◌∙◌, ap, subst, arith, append_assoc, append-nil, length-append}
use Rattle.std.specs.Prelude.{MatchOption, is_some}
use Rattle.std.proofs.lemmas.List.Elements.{All-nil, All-push, All-contains, All-weaker, All-contains_itself, Contains-append_left, Contains-push}
use Rattle.std.proofs.lemmas.Grind.{flat_map-append}
use Rattle.rel_formula.specs.Instance.{AreCells}
use Rattle.rel_formula.proofs.Lists.{pairs_nil, pairs_append}
use Rattle.rel_formula.proofs.OneSetOfAtoms.{one_pair}
use Rattle.swap_symmetry.specs.Due.{IsDue}
use Rattle.translation_rules.specs.Translation.{Translated}
use Rattle.session_rules.specs.Proofs.{IsCopy, IsCovered}
use Rattle.crew_run.specs.declared.event.CrewEvent.{CrewEvent}
use Rattle.crew_run.specs.declared.event.CrewEvent.TheVariants.{Found, Copy, GaveUp, Ended}
use Rattle.crew_run.specs.declared.event.CrewEntry.{CrewEntry}
use Rattle.crew_run.specs.Crew.{found_by, told_by, found, told, MayFollow, HasEnded, IsCrewJournal}

-- what stands in a list with one more element is that element, or stood there before
pub one_more : {X : Type 0} (xs before : List X) (x y : X) (after : List X) → xs ++ x ∷ [] ≡ before ++ y ∷ after → ((before ≡ xs) × (x ≡ y)) ⊎ ((rest : List X) × (xs ≡ before ++ y ∷ rest))
one_more [] [] x y after e = inl (refl, cc)
one_more [] (b ∷ []) x y after e = absurd cc
one_more [] (b ∷ c ∷ bs) x y after e = absurd cc
one_more (a ∷ as') [] x y after e = inr (as', let same : a ≡ y = cc in ap (λ z. z ∷ as') same)
one_more (a ∷ as') (b ∷ bs) x y after e =
    let first : a ≡ b = cc in
    elim (one_more as' bs x y after cc) [
      | inl last ↦ inl (let same = last.0 in cc, last.1)
      | inr more ↦ inr (more.0, let same = more.1 in cc)
    ]

module _ (t : Translated) (budget most : ℕ) where
  pub nothing : IsCrewJournal t budget most []
  nothing = record { each = each; few = omega arith }
    where
      each : (before : List CrewEntry) (e : CrewEntry) (after : List CrewEntry) → [] ≡ before ++ e ∷ after → MayFollow t budget before e.by e.event × ¬ HasEnded before
      each [] e after split = absurd cc
      each (b ∷ before) e after split = absurd cc

  pub grows : (journal : List CrewEntry) (e : CrewEntry) → IsCrewJournal t budget most journal → MayFollow t budget journal e.by e.event → ¬ HasEnded journal → length (told (journal ++ e ∷ [])) ≤ most → IsCrewJournal t budget most (journal ++ e ∷ [])
  grows journal e legal may goes few = record {
    each = λ before y after split. elim (one_more journal before e y after split) [
      | inl last ↦
          let at : MayFollow t budget journal y.by y.event = subst (λ (z : CrewEntry). MayFollow t budget journal z.by z.event) last.1 may in
          (subst (λ (j : List CrewEntry). MayFollow t budget j y.by y.event) (sym last.0) at, subst (λ (j : List CrewEntry). ¬ HasEnded j) (sym last.0) goes)
      | inr inside ↦ legal.each before y inside.0 inside.1
    ];
    few = few;
  }

  pub told_of_both : (xs ys : List CrewEntry) → told (xs ++ ys) ≡ told xs ++ told ys
  told_of_both xs ys = flat_map-append (λ (e : CrewEntry). told_by e.event) xs ys

  pub front : (xs ys : List CrewEntry) → IsCrewJournal t budget most (xs ++ ys) → IsCrewJournal t budget most xs
  front xs ys legal = record {
    each = λ before e after split. legal.each before e (after ++ ys) (ap (λ (j : List CrewEntry). j ++ ys) split ∙ append_assoc before (e ∷ after) ys);
    few =
        let whole : length (told (xs ++ ys)) ≡ length (told xs) + length (told ys) = ap length (told_of_both xs ys) ∙ length-append (told xs) (told ys) in
        let few = legal.few in
        omega arith;
  }

pub found_of_both : (xs ys : List CrewEntry) → found (xs ++ ys) ≡ found xs ++ found ys
found_of_both xs ys = flat_map-append (λ (e : CrewEntry). found_by e.event) xs ys

pub found_more : (xs : List CrewEntry) (e : CrewEntry) → found (xs ++ e ∷ []) ≡ found xs ++ found_by e.event
found_more xs e = found_of_both xs (e ∷ []) ∙ ap (λ (ys : List (List ℕ)). found xs ++ ys) (append-nil (found_by e.event))

pub told_more : (xs : List CrewEntry) (e : CrewEntry) → told (xs ++ e ∷ []) ≡ told xs ++ told_by e.event
told_more xs e = flat_map-append (λ (y : CrewEntry). told_by y.event) xs (e ∷ []) ∙ ap (λ (ys : List (List ℕ)). told xs ++ ys) (append-nil (told_by e.event))

-- what was found is due, each scenario once, and is told of; and what is told of is that, and copies of it
pub record AreTold (t : Translated) (fs ts : List (List ℕ)) : Type 0 where
  pub due : All (IsDue t.problem []) fs
  pub once : AllPairs (λ (x y : List ℕ). x ≢ y) fs
  pub all_told : All (Contains ts) fs
  pub covered : IsCovered t.problem [] fs ts

module _ (t : Translated) where
  abbrev pub Known : List (List ℕ) → List ℕ → Type 0
  Known fs s = Contains fs s ⊎ IsCopy t.problem [] fs s

  -- a copy of what was found is one of more that was found
  pub copy_grows : (fs more : List (List ℕ)) (s : List ℕ) → IsCopy t.problem [] fs s → IsCopy t.problem [] (fs ++ more) s
  copy_grows fs more s copy = record { minimal = copy.minimal; unsettled = copy.unsettled; renamed = (copy.renamed.0, Contains-append_left fs more copy.renamed.0 copy.renamed.1, copy.renamed.2) }

  pub known_grows : (fs more : List (List ℕ)) (s : List ℕ) → Known fs s → Known (fs ++ more) s
  known_grows fs more s (inl there) = inl (Contains-append_left fs more s there)
  known_grows fs more s (inr copy) = inr (copy_grows fs more s copy)

  pub covered_grows : (fs more ts : List (List ℕ)) → IsCovered t.problem [] fs ts → IsCovered t.problem [] (fs ++ more) ts
  covered_grows fs more ts covered = All-weaker (Known fs) (Known (fs ++ more)) (known_grows fs more) ts covered

  none_told : AreTold t [] []
  none_told = record { due = All-nil (IsDue t.problem []); once = pairs_nil (λ (x y : List ℕ). x ≢ y); all_told = All-nil (Contains []); covered = All-nil (Known []) }

  one_found : (fs ts : List (List ℕ)) (s : List ℕ) → AreTold t fs ts → IsDue t.problem [] s → ¬ Contains fs s → AreTold t (fs ++ s ∷ []) (ts ++ s ∷ [])
  one_found fs ts s are due fresh = record {
    due = All-push (IsDue t.problem []) fs s are.due due;
    once = pairs_append (λ (x y : List ℕ). x ≢ y) fs (s ∷ []) are.once (one_pair (λ (x y : List ℕ). x ≢ y) s)
        (All-weaker (Contains fs) (λ x. All (λ y. x ≢ y) (s ∷ [])) (λ x there. All-push (λ y. x ≢ y) [] s (All-nil (λ y. x ≢ y)) (λ same. fresh (subst (Contains fs) same there))) fs (All-contains_itself fs));
    all_told = All-push (Contains (ts ++ s ∷ [])) fs s (All-weaker (Contains ts) (Contains (ts ++ s ∷ [])) (λ x there. Contains-append_left ts (s ∷ []) x there) fs are.all_told) (Contains-push ts s);
    covered = All-push (Known (fs ++ s ∷ [])) ts s (covered_grows fs (s ∷ []) ts are.covered) (inl (Contains-push fs s));
  }

  one_met : (fs ts : List (List ℕ)) (s : List ℕ) → AreTold t fs ts → IsCopy t.problem [] fs s → AreTold t (fs ++ []) (ts ++ s ∷ [])
  one_met fs ts s are copy = subst (λ (gs : List (List ℕ)). AreTold t gs (ts ++ s ∷ [])) (sym (append-nil fs)) (record {
    due = are.due;
    once = are.once;
    all_told = All-weaker (Contains ts) (Contains (ts ++ s ∷ [])) (λ x there. Contains-append_left ts (s ∷ []) x there) fs are.all_told;
    covered = All-push (Known fs) ts s are.covered (inr copy);
  })

  no_more : (fs ts : List (List ℕ)) → AreTold t fs ts → AreTold t (fs ++ []) (ts ++ [])
  no_more fs ts are = subst (λ (gs : List (List ℕ)). AreTold t gs (ts ++ [])) (sym (append-nil fs)) (subst (λ (us : List (List ℕ)). AreTold t fs us) (sym (append-nil ts)) are)

  by_event : (budget : ℕ) (before : List CrewEntry) (by : ℕ) (event : CrewEvent) → MayFollow t budget before by event → AreTold t (found before) (told before) → AreTold t (found before ++ found_by event) (told before ++ told_by event)
  by_event budget before by (Found s) may are = one_found (found before) (told before) s are may.due may.fresh
  by_event budget before by (Copy s) may are = one_met (found before) (told before) s are may.copy
  by_event budget before by (GaveUp read parts) may are = no_more (found before) (told before) are
  by_event budget before by (Ended proof) may are = no_more (found before) (told before) are

  module _ (budget most : ℕ) where
    -- what a front tells, entry by entry
    fronts : (xs ys : List CrewEntry) → IsCrewJournal t budget most (xs ++ ys) → AreTold t (found xs) (told xs) → AreTold t (found (xs ++ ys)) (told (xs ++ ys))
    fronts xs [] legal are = subst (λ (j : List CrewEntry). AreTold t (found j) (told j)) (sym (append-nil xs)) are
    fronts xs (e ∷ ys) legal are =
        let same : (xs ++ e ∷ []) ++ ys ≡ xs ++ e ∷ ys = append_assoc xs (e ∷ []) ys in
        let may = (legal.each xs e ys refl).0 in
        let here : AreTold t (found xs ++ found_by e.event) (told xs ++ told_by e.event) = by_event budget xs e.by e.event may are in
        let more : AreTold t (found (xs ++ e ∷ [])) (told (xs ++ e ∷ [])) =
        subst (λ (fs : List (List ℕ)). AreTold t fs (told (xs ++ e ∷ []))) (sym (found_more xs e)) (subst (λ (ts : List (List ℕ)). AreTold t (found xs ++ found_by e.event) ts) (sym (told_more xs e)) here) in
        subst (λ (j : List CrewEntry). AreTold t (found j) (told j)) same (fronts (xs ++ e ∷ []) ys (subst (IsCrewJournal t budget most) (sym same) legal) more)

    pub are_told : (journal : List CrewEntry) → IsCrewJournal t budget most journal → AreTold t (found journal) (told journal)
    are_told journal legal = fronts [] journal legal none_told

  -- what is told of are sets of cells
  pub cells_of_known : (fs : List (List ℕ)) (s : List ℕ) → All (IsDue t.problem []) fs → Known fs s → AreCells t.problem s
  cells_of_known fs s due (inl there) = (All-contains (IsDue t.problem []) fs s due there).minimal.instance_of.scenario.cells
  cells_of_known fs s due (inr copy) = copy.minimal.instance_of.scenario.cells

  pub cells_told : (fs ts : List (List ℕ)) → AreTold t fs ts → All (AreCells t.problem) ts
  cells_told fs ts are = All-weaker (Known fs) (AreCells t.problem) (λ s known. cells_of_known fs s are.due known) ts are.covered

-- an event tells of one scenario at most
pub told_count : {A : Type 0} (event : CrewEvent) (r : Option A) (scenario_of : A → List ℕ) → MatchOption r (told_by event ≡ []) (λ x. told_by event ≡ scenario_of x ∷ []) → length (told_by event) ≡ cond (is_some r) 1 0
told_count event None scenario_of none = ap length none
told_count event (Some x) scenario_of one = ap length one

at_most_one : (b : Bool) → cond b 1 0 ≤ 1
at_most_one true = omega arith
at_most_one false = omega arith

-- a journal with one event more, and how many scenarios it tells of
pub added : {A : Type 0} (t : Translated) (budget most : ℕ) (journal : List CrewEntry) (by : ℕ) (event : CrewEvent) (r : Option A) (scenario_of : A → List ℕ) (tells more : ℕ) → IsCrewJournal t budget most journal → tells ≡ length (told journal) → MayFollow t budget journal by event → ¬ HasEnded journal
    → (told_by event ≡ []) ⊎ (length (told journal) < most) → MatchOption r (told_by event ≡ []) (λ x. told_by event ≡ scenario_of x ∷ []) → more ≡ cond (is_some r) 1 0
    → IsCrewJournal t budget most (journal ++ record { by = by; event = event } ∷ []) × (tells + more ≡ length (told (journal ++ record { by = by; event = event } ∷ [])))
added t budget most journal by event r scenario_of tells more legal count may goes room one is =
    let e : CrewEntry = record { by = by; event = event } in
    let longer : length (told (journal ++ e ∷ [])) ≡ length (told journal) + length (told_by event) = ap length (told_more journal e) ∙ length-append (told journal) (told_by event) in
    let here = told_count event r scenario_of one in
    let small = at_most_one (is_some r) in
    let old = legal.few in
    let few : length (told (journal ++ e ∷ [])) ≤ most = elim room [
      | inl none ↦ let nothing : length (told_by event) ≡ 0 = ap length none in omega arith
      | inr free ↦ omega arith
    ] in
    (grows t budget most journal e legal may goes few, omega arith)
