-- What a session finds for its first scenario decides the problem.
use Rattle.std.proofs.Common.{◌≡◌, inl, inr, ◌≤◌, ◌+◌, ◌∷◌, [], ℕ, List, length, All, Contains, ◌∙◌, ap, subst, arith}
use Rattle.std.specs.Prelude.{flat_map}
use Rattle.std.proofs.lemmas.List.{append-nil}
use Rattle.std.proofs.lemmas.List.Elements.{All-head}
use Rattle.refutation_check.specs.Part.{Parted}
use Rattle.rel_formula.specs.Bounds.{Bounded, IsProblem}
use Rattle.rel_formula.specs.Renaming.{IsSymmetric}
use Rattle.swap_symmetry.specs.Due.{IsDue}
use Rattle.translation_rules.specs.Translation.{Translated}
use Rattle.translation_rules.specs.Parts.{AreSearched, LastGoesOn, novel_in}
use Rattle.session_rules.specs.Proofs.{IsCopy}
use Rattle.session_rules.specs.Work.{Round, IsRound, AreRounds, IsNextWork, parts_of_round, units_in}
use Rattle.session_state.specs.Rounds.Next.{IsAnswer, IsStopped}
use Rattle.session_state.specs.declared.search_rounds.next.Found.{Found}
use Rattle.session_state.specs.declared.search_rounds.next.Found.TheVariants.{Shown, Ended, Spent}
use Rattle.decision_reports.specs.Decided.{HasNoInstance, IsDecision, decided_by}

-- where nothing was shown nothing is a copy
copy_of_none : (p : Bounded) (copy : List ℕ) → IsCopy p [] [] copy → ⊥
copy_of_none p copy is = absurd (let there = is.renamed.1 in let l = there.1 in omega arith)

no_copy : (p : Bounded) (known : List (List ℕ)) (copy : List ℕ) (copies : List (List ℕ)) → All (λ copy. IsCopy p [] [] copy × (¬ Contains known copy)) (copy ∷ copies) → ⊥
no_copy p known copy copies all = copy_of_none p copy (All-head (λ (copy : List ℕ). IsCopy p [] [] copy × (¬ Contains known copy)) copy copies all).0

-- and no round finds one
no_round_copies : (t : Translated) (blocked : List (List ℕ)) (rounds : List Round) (copy : List ℕ) → AreRounds t [] [] blocked rounds (copy ∷ []) → ⊥
no_round_copies t blocked [] copy none = absurd (let e = ap length none in omega arith)
no_round_copies t blocked (round ∷ rounds) copy are = copy_of_none t.problem copy are.1

-- so a search that was stopped goes on
last_goes_on : (t : Translated) (parts : List Parted) → IsStopped t [] [] [] parts [] Spent → LastGoesOn t [] parts
last_goes_on t parts (inl on) = on
last_goes_on t parts (inr more) = absurd (no_round_copies t more.1.blocked more.1.rounds more.0 more.1.are_rounds)

-- so there is one round
one_round : (t : Translated) (blocked : List (List ℕ)) (rounds : List Round) (parts : List Parted) → blocked ≡ [] → length rounds ≡ 1 → AreRounds t [] [] blocked rounds [] → parts ≡ flat_map parts_of_round rounds
    → (round : Round) × IsRound t [] [] round × (parts ≡ parts_of_round round)
one_round t blocked [] parts none one are all = absurd (omega arith)
one_round t blocked (round ∷ rounds) parts none one are all =
    let last : parts ≡ flat_map parts_of_round (round ∷ []) = all ∙ ap (λ rs. flat_map parts_of_round (round ∷ rs)) are.1 in
    (round, subst (λ b. IsRound t [] b round) none are.0, last ∙ append-nil (parts_of_round round))

module _ (t : Translated) (budget : ℕ) (is : IsProblem t.problem) (symmetric : IsSymmetric t.problem)
    (nothing_due_is_none : ((s : List ℕ) → ¬ IsDue t.problem [] s) → HasNoInstance t.problem) (parts : List Parted) where
  decided_without_copies : AreSearched t [] parts → ((work : IsNextWork t [] [] parts []) × (work.blocked ≡ []) × (length work.rounds ≡ 1)) → (found : Found)
      → units_in t [] parts [] ≤ budget → IsAnswer t [] [] [] [] budget parts [] found → IsStopped t [] [] [] parts [] found → IsDecision t budget (decided_by parts found)
  decided_without_copies searched work (Shown scenario) units answer stopped = answer.0
  decided_without_copies searched work (Ended proof) units answer stopped = record {
    none = nothing_due_is_none (λ s due. absurd (let there = answer.complete s due in let l = there.1 in omega arith));
    proves = answer.proves;
    imports = answer.imports;
    blocks = answer.blocks;
  }
  decided_without_copies searched work Spent units answer stopped =
      let one = one_round t work.0.blocked work.0.rounds parts work.1 work.2 work.0.are_rounds work.0.all_parts in
      record {
        round = record { round = one.0; is_round = one.1; all_parts = one.2; searched = searched; few = (let u : novel_in t [] parts + 0 ≤ budget = units in omega arith) };
        spent = (let e : novel_in t [] parts + 0 ≡ budget = answer in omega arith);
        stopped = last_goes_on t parts stopped;
      }

  pub decided : (copies : List (List ℕ)) → AreSearched t [] parts → ((work : IsNextWork t [] [] parts copies) × (work.blocked ≡ []) × (length work.rounds ≡ length copies + 1)) → (found : Found)
      → All (λ copy. IsCopy t.problem [] [] copy × (¬ Contains [] copy)) copies → units_in t [] parts copies ≤ budget → IsAnswer t [] [] [] [] budget parts copies found
      → IsStopped t [] [] [] parts copies found → IsDecision t budget (decided_by parts found)
  decided [] searched work found new units answer stopped = decided_without_copies searched work found units answer stopped
  decided (copy ∷ copies) searched work found new units answer stopped = absurd (no_copy t.problem [] copy copies new)
