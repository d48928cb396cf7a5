-- Replies for which nothing was done.
use Rattle.std.proofs.Common.{◌≡◌, ◌≢◌, inl, ℕ, length, List, [], IsTrue, bytes_eq, refl, arith}
use Rattle.std.proofs.lemmas.List.Elements.{All-nil}
use Rattle.std.proofs.lemmas.Slice.Eq.{bytes_eq-Decides}
use Rattle.refutation_check.specs.declared.log.Step.{Step as LogStep}
use Rattle.rel_formula.specs.Bounds.{Bounded}
use Rattle.translation_rules.specs.Translation.{Translated}
use Rattle.translation_rules.proofs.Tests.{has_any}
use Rattle.session_words.specs.declared.steps.Step.{Step}
use Rattle.session_words.specs.declared.steps.Step.TheVariants.{Next}
use Rattle.session_rules.specs.ProofOfEnd.{ProofOfEnd}
use Rattle.session_rules.specs.States.{State, EndedAt, top_floor, shown_here, has_ended, HasEndedWith}
use Rattle.session_rules.specs.Steps.{IsRefused, MayAnswer}
use Rattle.session_rules.specs.Proofs.{IsCopy}
use Rattle.session_rules.specs.Work.{IsWork}
use Rattle.session_rules.specs.Evidence.{NeedsEvidence}
use Rattle.session_rules.specs.declared.answers.Refusal.{Refusal}
use Rattle.session_rules.specs.declared.answers.Reply.{Reply}
use Rattle.session_rules.specs.declared.answers.Reply.TheVariants.{End, Refused, Memory}
use Rattle.session_state.specs.Sessions.Proposed.{Proposed, IsProposal, IsPlainProposal}

abbrev pub bare : Reply → Proposed
bare reply = record { reply = reply; parts = []; copies = [] }

-- no parts and no copies are work for each step
abbrev pub NothingIsWork : Type 0
NothingIsWork = (t : Translated) (pool : List LogStep) (s : State) (step : Step) → IsWork t pool s step [] []

pub nothing_proposed : (t : Translated) (pool : List LogStep) (s : State) (step : Step) (reply : Reply) → NothingIsWork → MayAnswer t.problem s step reply → reply ≢ Memory → ¬ NeedsEvidence s reply → IsProposal t pool s step (bare reply)
nothing_proposed t pool s step reply work may told none = record {
  may = may;
  told = told;
  evidence = λ h. absurd (none h);
  rests = λ h. absurd (none h);
  work = work t pool s step;
  units = omega arith;
  copies = All-nil (IsCopy t.problem (top_floor s) (shown_here s));
}

pub refused : (t : Translated) (pool : List LogStep) (s : State) (step : Step) (refusal : Refusal) → NothingIsWork → IsRefused t.problem s step refusal → ¬ NeedsEvidence s (Refused refusal) → IsProposal t pool s step (bare (Refused refusal))
refused t pool s step refusal work is none = nothing_proposed t pool s step (Refused refusal) work is (λ e. cc) none

-- a floor has ended where a proof of it is kept
has_ended_with : (s : State) (proof : ProofOfEnd) → HasEndedWith s proof → IsTrue (has_ended (top_floor s) s)
has_ended_with s proof c = has_any (λ (x : EndedAt). bytes_eq x.floor (top_floor s)) s.ended (record { floor = top_floor s; proof = proof }) c ((bytes_eq-Decides (top_floor s) (top_floor s)).1 refl)

-- an end of a floor that has ended is answered again
pub ended_again : (t : Translated) (pool : List LogStep) (s : State) (number : ℕ) (proof : ProofOfEnd) → NothingIsWork → number ≡ length (shown_here s) → HasEndedWith s proof → IsProposal t pool s Next (bare (End number proof))
ended_again t pool s number proof work place was =
    nothing_proposed t pool s Next (End number proof) work (place, inl was) (λ e. cc) (λ open'. open' (has_ended_with s proof was))

pub plainly : (s : State) (step : Step) (reply : Reply) → ((p : Bounded) → MayAnswer p s step reply) → reply ≢ Memory → ¬ NeedsEvidence s reply → IsPlainProposal s step (bare reply)
plainly s step reply may told none = record { may = may; told = told; no_evidence = none; no_parts = refl; no_copies = refl }
