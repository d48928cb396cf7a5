-- What the last entry of a crew's journal says of the whole.
use Rattle.std.proofs.Common.{◌≡◌, ◌≢◌, inl, inr, ◌<◌, ◌+◌, ◌-◌, ℕ, Option, Some, None, List, [], ◌∷◌, ◌++◌, take, length, get_or, All, AllPairs, Contains, refl, sym, ◌∙◌, ap, subst, arith, append-nil}
use Rattle.std.specs.Prelude.{MatchOption, slice_get}
use Rattle.std.proofs.lemmas.List.{take_all, take_more}
use Rattle.std.proofs.lemmas.Option.{slice_get_within, get_or_from_slice_get}
use Rattle.std.proofs.lemmas.List.Elements.{All-contains, All-weaker, Contains-get_or, Contains-push_cases}
use Rattle.refutation_check.specs.Part.{Parted}
use Rattle.swap_symmetry.specs.Due.{IsDue}
use Rattle.translation_rules.specs.Translation.{Translated, StandsFor}
use Rattle.session_rules.specs.ProofOfEnd.{ProofOfEnd}
use Rattle.session_rules.specs.Proofs.{Proves, IsCovered}
use Rattle.session_rules.specs.declared.end_proof.ProofKind.TheVariants.{End}
use Rattle.session_state.specs.Sessions.Listed.{AreInOrder}
use Rattle.crew_run.specs.declared.event.CrewEvent.{CrewEvent}
use Rattle.crew_run.specs.declared.event.CrewEvent.TheVariants.{GaveUp, Ended}
use Rattle.crew_run.specs.declared.event.CrewEntry.{CrewEntry}
use Rattle.crew_run.specs.Crew.{found, Ends, HasEnded, HasGivenUp, IsCrewJournal, ListsAll}
use Rattle.crew_run.specs.Passing.{EndsWith}
use Rattle.crew_run.proofs.Journals.{found_more, are_told, Known}

pub none_ended : ¬ HasEnded []
none_ended (by, proof, there) = let inside = there.1 in omega arith

-- where the last entry is no end, there is none
pub open_behind : (t : Translated) (budget most : ℕ) (before : List CrewEntry) (e : CrewEntry) → IsCrewJournal t budget most (before ++ e ∷ []) → ((proof : ProofOfEnd) → e.event ≢ Ended proof) → ¬ HasEnded (before ++ e ∷ [])
open_behind t budget most before e legal other (by, proof, there) = elim (Contains-push_cases before e (record { by = by; event = Ended proof }) there) [
  | inl earlier ↦ (legal.each before e [] refl).1 (by, proof, earlier)
  | inr last ↦ other proof (ap (λ (x : CrewEntry). x.event) last)
]

-- what was found before an end is all that was found
found_before : (before : List CrewEntry) (by : ℕ) (proof : ProofOfEnd) → found (before ++ record { by = by; event = Ended proof } ∷ []) ≡ found before
found_before before by proof = found_more before (record { by = by; event = Ended proof }) ∙ append-nil (found before)

-- the law of proofs of ends, for one problem
abbrev pub EndsAreRight : Type 0
EndsAreRight = (t : Translated) → StandsFor t.problem t → (shown : List (List ℕ)) → All (IsDue t.problem []) shown → (proof : ProofOfEnd) → Proves t [] End proof → IsCovered t.problem [] shown proof.blocked → (x : List ℕ) → IsDue t.problem [] x → Contains shown x

module _ (t : Translated) (budget most : ℕ) (entries : List CrewEntry) (legal : IsCrewJournal t budget most entries) where
  pub once : AllPairs (λ (x y : List ℕ). x ≢ y) (found entries)
  once = (are_told t budget most entries legal).once

  module _ (proof : ProofOfEnd) (ends : EndsWith entries proof) where
    end_is : Ends t ends.0 proof
    end_is = (legal.each ends.0 (record { by = ends.1; event = Ended proof }) [] ends.2).0

    same_found : found entries ≡ found ends.0
    same_found = ap found ends.2 ∙ found_before ends.0 ends.1 proof

    covered_by_all : IsCovered t.problem [] (found entries) proof.blocked
    covered_by_all = subst (λ (fs : List (List ℕ)). IsCovered t.problem [] fs proof.blocked) (sym same_found) end_is.covered

    known_listed : (listed : List (List ℕ)) → ((x : List ℕ) → Contains (found entries) x → Contains listed x) → (s : List ℕ) → Known t (found entries) s → Known t listed s
    known_listed listed same s (inl there) = inl (same s there)
    known_listed listed same s (inr copy) = inr (record { minimal = copy.minimal; unsettled = copy.unsettled; renamed = (copy.renamed.0, same copy.renamed.0 copy.renamed.1, copy.renamed.2) })

    pub lists_all : EndsAreRight → StandsFor t.problem t → (listed : List (List ℕ)) → AreInOrder (found entries) listed → ListsAll t listed proof
    lists_all right stands listed order =
        let due = (are_told t budget most entries legal).due in
        record {
          due = λ s. (
            λ there. All-contains (IsDue t.problem []) (found entries) s due ((order.same s).0 there),
            λ is. (order.same s).1 (right t stands (found entries) due proof end_is.proves covered_by_all s is),
          );
          sorted = order.sorted;
          alone = end_is.alone;
          proves = end_is.proves;
          covered = All-weaker (Known t (found entries)) (Known t listed) (known_listed listed (λ x there. (order.same x).1 there)) proof.blocked covered_by_all;
        }

-- an entry that says that the worker of this number gave up
pub gave_up_there : (es : List CrewEntry) (i : ℕ) (e : CrewEntry) (by : ℕ) → i < length es → e ≡ get_or es i e → e.by ≡ by → (read : ℕ) × (parts : List Parted) × (e.event ≡ GaveUp read parts) → HasGivenUp es by
gave_up_there es i e by lt is number (read, parts, event) =
    let there : Contains es e = subst (Contains es) (sym is) (Contains-get_or es i e lt) in
    let same : e ≡ record { by = by; event = GaveUp read parts } = ap (λ (n : ℕ). record { by = n; event = e.event }) number ∙ ap (λ (v : CrewEvent). record { by = by; event = v }) event in
    (read, parts, subst (Contains es) same there)

-- the last entry, and those before it
split_last : (es : List CrewEntry) (e : CrewEntry) → slice_get es (length es - 1) ≡ Some e → es ≡ take (length es - 1) es ++ e ∷ []
split_last es e last =
    let n = length es - 1 in
    let inside : n < length es = slice_get_within es n e last in
    let whole : take (n + 1) es ≡ es = take_all (n + 1) es (omega arith) in
    sym whole ∙ take_more es n e inside ∙ ap (λ (y : CrewEntry). take n es ++ y ∷ []) (get_or_from_slice_get es n e e last)

-- what the last entry says of an end
pub end_found : {A : Type 0} (r : Option A) (proof_of : A → ProofOfEnd) (t : Translated) (budget most : ℕ) (es : List CrewEntry) (e : CrewEntry) → IsCrewJournal t budget most es → slice_get es (length es - 1) ≡ Some e
    → MatchOption r ((proof : ProofOfEnd) → e.event ≢ Ended proof) (λ x. e.event ≡ Ended (proof_of x)) → MatchOption r (¬ HasEnded es) (λ x. EndsWith es (proof_of x))
end_found None proof_of t budget most es e legal last other =
    let split = split_last es e last in
    subst (λ (j : List CrewEntry). ¬ HasEnded j) (sym split) (open_behind t budget most (take (length es - 1) es) e (subst (IsCrewJournal t budget most) split legal) other)
end_found (Some x) proof_of t budget most es e legal last is =
    (take (length es - 1) es, e.by, split_last es e last ∙ ap (λ (v : CrewEvent). take (length es - 1) es ++ record { by = e.by; event = v } ∷ []) is)
