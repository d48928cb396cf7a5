-- What was found for the next scenario makes a proposal.
use Rattle.std.proofs.Common.{◌≡◌, ◌≤◌, inr, ℕ, List, length, All, Contains, IsTrue, refl, sym, subst}
use Rattle.std.proofs.lemmas.List.Elements.{All-weaker}
use Rattle.refutation_check.specs.declared.log.Step.{Step as LogStep}
use Rattle.refutation_check.specs.Part.{Parted}
use Rattle.translation_rules.specs.Translation.{Translated}
use Rattle.translation_rules.specs.Parts.{AreSearched}
use Rattle.session_words.specs.declared.steps.Step.TheVariants.{Next}
use Rattle.session_rules.specs.States.{State, top_floor, shown_here, has_ended}
use Rattle.session_rules.specs.Proofs.{IsCopy}
use Rattle.session_rules.specs.Work.{IsNextWork, units_in}
use Rattle.session_state.specs.Rounds.Next.{IsAnswer, IsStopped}
use Rattle.session_state.specs.declared.search_rounds.next.Found.{Found}
use Rattle.session_state.specs.declared.search_rounds.next.Found.TheVariants.{Shown, Ended, Spent}
use Rattle.session_state.specs.Sessions.Proposed.{Proposed, IsProposal}
use Rattle.session_state.specs.Sessions.Replied.{reply_to}

abbrev pub answer_to : ℕ → ℕ → List Parted → List (List ℕ) → Found → Proposed
answer_to shown budget parts copies found = record { reply = reply_to shown budget parts copies found; parts = parts; copies = copies }

-- what was found at a floor where these were shown and these copies were known
pub record IsFound (t : Translated) (pool : List LogStep) (floor : List ℕ) (shown known : List (List ℕ)) (budget : ℕ) (parts : List Parted) (copies : List (List ℕ)) (found : Found) : Type 0 where
  pub searched : AreSearched t pool parts
  pub work : IsNextWork t floor shown parts copies
  pub copies_are : All (λ copy. IsCopy t.problem floor shown copy × (¬ Contains known copy)) copies
  pub units : units_in t pool parts copies ≤ budget
  pub answer : IsAnswer t pool floor shown known budget parts copies found
  pub stopped : IsStopped t pool floor shown parts copies found

module _ (t : Translated) (pool : List LogStep) (s : State) (known : List (List ℕ)) (parts : List Parted) (copies : List (List ℕ)) (open' : ¬ IsTrue (has_ended (top_floor s) s)) where
  only_copies : (found : Found) → IsFound t pool (top_floor s) (shown_here s) known s.budget parts copies found → All (IsCopy t.problem (top_floor s) (shown_here s)) copies
  only_copies found h =
      All-weaker (λ (copy : List ℕ). IsCopy t.problem (top_floor s) (shown_here s) copy × (¬ Contains known copy)) (IsCopy t.problem (top_floor s) (shown_here s)) (λ copy both. both.0) copies h.copies_are

  in_state : (found : Found) → IsFound t pool (top_floor s) (shown_here s) known s.budget parts copies found → IsProposal t pool s Next (answer_to (length (shown_here s)) s.budget parts copies found)
  in_state (Shown scenario) h = record {
    may = record { not_ended = open'; due = h.answer.0; fresh = h.answer.1; place = refl };
    told = λ e. cc;
    evidence = λ needs. absurd needs;
    rests = λ needs. absurd needs;
    work = record { searched = h.searched; work = h.work };
    units = h.units;
    copies = only_copies (Shown scenario) h;
  }
  in_state (Ended proof) h = record {
    may = (refl, inr (record { not_ended = open'; all_shown = h.answer.complete }));
    told = λ e. cc;
    evidence = λ needs. record { imports = h.answer.imports; proves = h.answer.proves; covered = h.answer.covered };
    rests = λ needs. record { before = h.answer.before; parts_are = h.answer.last };
    work = record { searched = h.searched; work = h.work };
    units = h.units;
    copies = only_copies (Ended proof) h;
  }
  in_state Spent h = record {
    may = (refl, open');
    told = λ e. cc;
    evidence = λ needs. record { work = record { searched = h.searched; work = h.work }; units = h.answer; stopped = h.stopped };
    rests = λ needs. (refl, refl);
    work = record { searched = h.searched; work = h.work };
    units = h.units;
    copies = only_copies Spent h;
  }

  pub shows : (floor : List ℕ) (shown : List (List ℕ)) (budget : ℕ) (found : Found) → top_floor s ≡ floor → shown_here s ≡ shown → s.budget ≡ budget → IsFound t pool floor shown known budget parts copies found →
      IsProposal t pool s Next (answer_to (length shown) budget parts copies found)
  shows floor shown budget found top here most h =
      let back : IsFound t pool (top_floor s) (shown_here s) known s.budget parts copies found =
      subst (λ (f : List ℕ). IsFound t pool f (shown_here s) known s.budget parts copies found) (sym top)
      (subst (λ (xs : List (List ℕ)). IsFound t pool floor xs known s.budget parts copies found) (sym here)
      (subst (λ (n : ℕ). IsFound t pool floor shown known n parts copies found) (sym most) h)) in
      subst (λ (n : ℕ). IsProposal t pool s Next (answer_to (length shown) n parts copies found)) most
      (subst (λ (xs : List (List ℕ)). IsProposal t pool s Next (answer_to (length xs) s.budget parts copies found)) here (in_state found back))
