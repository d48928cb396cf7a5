-- What may follow some entries may follow them still when others have added more.
use Rattle.std.proofs.Common.{◌≡◌, ◌≢◌, ◌⊎◌, inl, inr, ◌≤◌, ◌==◌, ℕ, Bool, true, false, cond, List, [], ◌∷◌, ◌++◌, take, drop, length, All, Contains, refl, sym, ◌∙◌, ap, subst, arith, append-nil, length-append}
use Rattle.std.proofs.lemmas.Bool.{cases_Bool, eq-eqb}
use Rattle.std.proofs.lemmas.List.{append_cancel_left, take-append-le, drop-append-le, take_all, drop_all}
use Rattle.std.proofs.lemmas.List.Elements.{All-nil, All-cons, All-append, All-contains, Contains-append_left, Contains-append_right, Contains-append_cases, filter-append}
use mathlib.Core.List.{IsPrefix}
use Rattle.hub_lock.specs.Passes.{of_pass}
use Rattle.refutation_check.specs.Part.{Parted}
use Rattle.translation_rules.specs.Translation.{Translated}
use Rattle.translation_rules.specs.Parts.{LastGoesOn}
use Rattle.session_rules.specs.Proofs.{IsCopy, IsCovered}
use Rattle.session_state.specs.Rounds.Rounds.{HasNewCopy, IsRoundAt}
use Rattle.crew_run.specs.declared.event.CrewEvent.{CrewEvent}
use Rattle.crew_run.specs.declared.event.CrewEvent.TheVariants.{Found, Copy, GaveUp, Ended}
use Rattle.crew_run.specs.declared.event.CrewEntry.{CrewEntry}
use Rattle.crew_run.specs.Crew.{found_by, told_by, found, told, GivesUp, MayFollow}
use Rattle.crew_run.proofs.Journals.{found_of_both, told_of_both, copy_grows, covered_grows}

-- what an event says was found it tells of
found_is_told : (event : CrewEvent) (s : List ℕ) → Contains (found_by event) s → Contains (told_by event) s
found_is_told (Found x) s there = there
found_is_told (Copy x) s there = absurd (let inside = there.1 in omega arith)
found_is_told (GaveUp read parts) s there = absurd (let inside = there.1 in omega arith)
found_is_told (Ended proof) s there = absurd (let inside = there.1 in omega arith)

pub found_are_told : (es : List CrewEntry) (s : List ℕ) → Contains (found es) s → Contains (told es) s
found_are_told [] s there = absurd (let inside = there.1 in omega arith)
found_are_told (e ∷ es) s there = elim (Contains-append_cases (found_by e.event) (found es) s there) [
  | inl here ↦ Contains-append_left (told_by e.event) (told es) s (found_is_told e.event s here)
  | inr later ↦ Contains-append_right (told_by e.event) (told es) s (found_are_told es s later)
]

-- none of these is told of
abbrev pub NotTold : List CrewEntry → List ℕ → Type 0
NotTold es s = ¬ Contains (told es) s

first_of_all : (es : List CrewEntry) (s : List ℕ) → All (NotTold es) (s ∷ []) → NotTold es s
first_of_all es s none there = All-contains (NotTold es) (s ∷ []) s none (0, omega arith, refl) there

module _ (t : Translated) (budget : ℕ) (before rest : List CrewEntry) (by : ℕ) where
  fresh_still : (s : List ℕ) → ¬ Contains (found before) s → NotTold rest s → ¬ Contains (found (before ++ rest)) s
  fresh_still s fresh none there = elim (Contains-append_cases (found before) (found rest) s (subst (λ (xs : List (List ℕ)). Contains xs s) (found_of_both before rest) there)) [
    | inl old ↦ fresh old
    | inr new ↦ none (found_are_told rest s new)
  ]

  unmet_still : (s : List ℕ) → ¬ Contains (told before) s → NotTold rest s → ¬ Contains (told (before ++ rest)) s
  unmet_still s fresh none there = elim (Contains-append_cases (told before) (told rest) s (subst (λ (xs : List (List ℕ)). Contains xs s) (told_of_both t 0 0 before rest) there)) [
    | inl old ↦ fresh old
    | inr new ↦ none new
  ]

  gave_up_still : (read : ℕ) (parts : List Parted) → GivesUp t budget before by read parts → All (λ (e : CrewEntry). e.by ≢ by) rest → GivesUp t budget (before ++ rest) by read parts
  gave_up_still read parts may others = record {
    within = let long = length-append before rest in let l = may.within in omega arith;
    own = subst (All (λ (e : CrewEntry). e.by ≢ by)) (sym (drop-append-le read before rest may.within)) (All-append (λ (e : CrewEntry). e.by ≢ by) (drop read before) rest may.own others);
    round = subst (λ (xs : List CrewEntry). IsRoundAt t [] [] (told xs) budget parts) (sym (take-append-le read before rest may.within)) may.round;
    spent = may.spent;
    stopped = subst (λ (xs : List CrewEntry). LastGoesOn t [] parts ⊎ HasNewCopy t.problem [] (found xs) (told xs)) (sym (take-append-le read before rest may.within)) may.stopped;
  }

  pub may_still : (event : CrewEvent) → MayFollow t budget before by event → All (λ (e : CrewEntry). e.by ≢ by) rest → All (NotTold rest) (told_by event) → MayFollow t budget (before ++ rest) by event
  may_still (Found s) may others none = record { due = may.due; fresh = fresh_still s may.fresh (first_of_all rest s none) }
  may_still (Copy s) may others none = record {
    copy = subst (λ (fs : List (List ℕ)). IsCopy t.problem [] fs s) (sym (found_of_both before rest)) (copy_grows t (found before) (found rest) s may.copy);
    fresh = unmet_still s may.fresh (first_of_all rest s none);
  }
  may_still (GaveUp read parts) may others none = gave_up_still read parts may others
  may_still (Ended proof) may others none = record {
    alone = may.alone;
    proves = may.proves;
    covered = subst (λ (fs : List (List ℕ)). IsCovered t.problem [] fs proof.blocked) (sym (found_of_both before rest)) (covered_grows t (found before) (found rest) proof.blocked may.covered);
  }

-- entries of other passes
abbrev pub own_of : ℕ → List CrewEntry → List CrewEntry
own_of by es = of_pass (λ (e : CrewEntry). e.by) by es

pub no_own : (by : ℕ) (es : List CrewEntry) → own_of by es ≡ [] → All (λ e. e.by ≢ by) es
no_own by [] none = All-nil (λ (e : CrewEntry). e.by ≢ by)
no_own by (x ∷ xs) none = elim (cases_Bool (x.by == by)) [
  | inl t ↦ absurd (let kept : x ∷ own_of by xs ≡ [] = sym (ap (λ (b : Bool). cond b (x ∷ own_of by xs) (own_of by xs)) t) ∙ none in cc)
  | inr f ↦
      let rest : own_of by xs ≡ [] = sym (ap (λ (b : Bool). cond b (x ∷ own_of by xs) (own_of by xs)) f) ∙ none in
      All-cons (λ (y : CrewEntry). y.by ≢ by) x xs (λ same. let wrong : true ≡ false = sym (eq-eqb x.by by same) ∙ f in absurd cc) (no_own by xs rest)
]

-- where the entries under a number are those of a front, what stands behind it is of others
pub others_behind : (by : ℕ) (seen entries : List CrewEntry) → IsPrefix seen entries → own_of by entries ≡ own_of by seen → All (λ e. e.by ≢ by) (drop (length seen) entries)
others_behind by seen entries (rest, whole) same =
    let parts : own_of by entries ≡ own_of by seen ++ own_of by rest = ap (own_of by) (sym whole) ∙ filter-append (λ (e : CrewEntry). e.by == by) seen rest in
    let none : own_of by rest ≡ [] = append_cancel_left (own_of by seen) (own_of by rest) [] (sym parts ∙ same ∙ sym (append-nil (own_of by seen))) in
    subst (All (λ (e : CrewEntry). e.by ≢ by)) (sym (behind seen entries rest whole)) (no_own by rest none)
  where
    behind : (xs ys zs : List CrewEntry) → xs ++ zs ≡ ys → drop (length xs) ys ≡ zs
    behind xs ys zs e = ap (drop (length xs)) (sym e) ∙ drop-append-le (length xs) xs zs (omega arith) ∙ ap (λ (us : List CrewEntry). us ++ zs) (drop_all (length xs) xs (omega arith))

-- the front of a list is that of a front, as far as that goes
pub front_of : (n : ℕ) (seen entries : List CrewEntry) → IsPrefix seen entries → n ≤ length seen → take n entries ≡ take n seen
front_of n seen entries (rest, whole) le = ap (take n) (sym whole) ∙ take-append-le n seen rest le

pub front_is : (seen entries : List CrewEntry) → IsPrefix seen entries → take (length seen) entries ≡ seen
front_is seen entries prefix = front_of (length seen) seen entries prefix (omega arith) ∙ take_all (length seen) seen (omega arith)
