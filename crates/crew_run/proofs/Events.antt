-- What a round comes to may follow all that was read.
use Rattle.std.proofs.Common.{◌≡◌, ◌≢◌, ◌⊎◌, ◌≤◌, ℕ, List, [], ◌∷◌, take, drop, length, All, Contains, sym, ◌∙◌, ap, subst, arith}
use Rattle.std.proofs.lemmas.List.{take_all, drop_all}
use Rattle.std.proofs.lemmas.List.Elements.{All-nil}
use Rattle.refutation_check.specs.Part.{Parted}
use Rattle.refutation_check.specs.Chain.{EndsEmpty}
use Rattle.refutation_check.specs.SearchLog.{IsSearchLog}
use Rattle.cnf_core.specs.declared.literal.Lit.{Lit}
use Rattle.translation_rules.specs.Translation.{Translated}
use Rattle.translation_rules.specs.Locals.{locals_of}
use Rattle.translation_rules.specs.Parts.{LastGoesOn, given_to}
use Rattle.session_rules.specs.Proofs.{RefutesWith, Proves, IsCopy, IsCovered}
use Rattle.session_rules.specs.declared.end_proof.ProofKind.TheVariants.{End}
use Rattle.session_state.specs.Rounds.Rounds.{HasNewCopy, IsRoundAt}
use Rattle.crew_run.specs.declared.event.CrewEvent.{CrewEvent}
use Rattle.crew_run.specs.declared.event.CrewEvent.TheVariants.{Found, Copy, GaveUp, Ended}
use Rattle.crew_run.specs.declared.event.CrewEntry.{CrewEntry}
use Rattle.crew_run.specs.declared.reading.Reading.{Reading}
use Rattle.crew_run.specs.Crew.{found, told, MayFollow, IsCrewJournal}
use Rattle.crew_run.specs.Passing.{HasReadAll}
use Rattle.crew_run.specs.Searching.{IsReadable, IsEventOf}
use Rattle.crew_run.proofs.Journals.{AreTold, are_told, cells_told}

module _ (t : Translated) (budget most : ℕ) (entries : List CrewEntry) (legal : IsCrewJournal t budget most entries) (reading : Reading) (read : HasReadAll entries reading) where
  told_as_read : AreTold t reading.found.items reading.told.items
  told_as_read =
      subst (λ (fs : List (List ℕ)). AreTold t fs reading.told.items) (sym read.found_is)
      (subst (λ (ts : List (List ℕ)). AreTold t (found entries) ts) (sym read.told_is) (are_told t budget most entries legal))

  pub readable : most ≤ 1000000 → IsReadable t reading
  readable small = record {
    all_told = told_as_read.all_told;
    cells = cells_told t reading.found.items reading.told.items told_as_read;
    few = let e : length reading.told.items ≡ length (told entries) = ap length read.told_is in let f = legal.few in omega arith;
  }

  whole : take reading.read entries ≡ entries
  whole = take_all reading.read entries (let e = read.all in omega arith)

  nothing_left : drop reading.read entries ≡ []
  nothing_left = drop_all reading.read entries (let e = read.all in omega arith)

  pub event_may_follow : (by : ℕ) (event : CrewEvent) → IsEventOf t budget reading event → MayFollow t budget entries by event
  event_may_follow by (Found s) (due, fresh) = record { due = due; fresh = subst (λ (fs : List (List ℕ)). ¬ Contains fs s) read.found_is fresh }
  event_may_follow by (Copy s) (copy, fresh) = record {
    copy = subst (λ (fs : List (List ℕ)). IsCopy t.problem [] fs s) read.found_is copy;
    fresh = subst (λ (ts : List (List ℕ)). ¬ Contains ts s) read.told_is fresh;
  }
  event_may_follow by (GaveUp n parts) (same, round, spent, stopped) = record {
    within = let e = read.all in omega arith;
    own =
        subst (λ (k : ℕ). All (λ (e : CrewEntry). e.by ≢ by) (drop k entries)) (sym same)
        (subst (All (λ (e : CrewEntry). e.by ≢ by)) (sym nothing_left) (All-nil (λ (e : CrewEntry). e.by ≢ by)));
    round =
        subst (λ (k : ℕ). IsRoundAt t [] [] (told (take k entries)) budget parts) (sym same)
        (subst (λ (ts : List (List ℕ)). IsRoundAt t [] [] ts budget parts) (read.told_is ∙ ap told (sym whole)) round);
    spent = spent;
    stopped =
        subst (λ (k : ℕ). LastGoesOn t [] parts ⊎ HasNewCopy t.problem [] (found (take k entries)) (told (take k entries))) (sym same)
        (subst (λ (fs : List (List ℕ)). LastGoesOn t [] parts ⊎ HasNewCopy t.problem [] fs (told (take reading.read entries))) (read.found_is ∙ ap found (sym whole))
        (subst (λ (ts : List (List ℕ)). LastGoesOn t [] parts ⊎ HasNewCopy t.problem [] reading.found.items ts) (read.told_is ∙ ap told (sym whole)) stopped));
  }
  event_may_follow by (Ended proof) (alone, blocked, proves) = record {
    alone = alone;
    proves = proves;
    covered =
        subst (λ (bs : List (List ℕ)). IsCovered t.problem [] (found entries) bs) (sym (blocked ∙ read.told_is)) (are_told t budget most entries legal).covered;
  }

-- a search that ends with the empty clause is an end with what was blocked
pub end_of_refuted : (t : Translated) (budget : ℕ) (told : List (List ℕ)) (part : Parted) → ((part : Parted) (blocked : List (List ℕ)) → IsSearchLog (given_to t [] part) part.log → EndsEmpty part.log → RefutesWith t part.local (record { imported = 0; blocked = blocked; pool = []; log = part.log }))
    → IsRoundAt t [] [] told budget (part ∷ []) → part.local ≡ locals_of t [] told → EndsEmpty part.log → Proves t [] End (record { imported = 0; blocked = told; pool = []; log = part.log })
end_of_refuted t budget told part law round local empty =
    subst (λ (cs : List (List Lit)). RefutesWith t cs (record { imported = 0; blocked = told; pool = []; log = part.log })) local (law part told (round.searched 0 part (omega arith)) empty)
