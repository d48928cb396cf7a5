use Rattle.std.proofs.Common.{List, ℕ, refl, subst}
use Rattle.rel_formula.specs.Bounds.{Bounded, IsProblem}
use Rattle.rel_formula.specs.Instance.{IsMinimalAbove}
use Rattle.rel_formula.specs.Renaming.{IsSymmetric}
use Rattle.session_words.specs.declared.steps.Step.TheVariants.{Next}
use Rattle.session_rules.specs.States.{State, top_floor, shown_here}
use Rattle.session_rules.specs.Proofs.{HasRenamingAmong}
use Rattle.session_rules.specs.declared.answers.Reply.TheVariants.{End}
use Rattle.hub_state.specs.Journal.Noted.{Recorded}
use Rattle.hub_state.proofs.Journal.Replays.{of_key}
use Rattle.hub_state.proofs.journal_rules.laws.a_recorded_end_is_complete.Goals as goal

pub returns : goal.returns
returns c problems all symmetric before after by number proof legal key p s replay =
    let r = legal before (record { by = by; note = Recorded Next (End number proof) }) after refl in
    let same = c.a_session_has_one_replay.ensures problems before (c.a_prefix_is_legal.ensures problems before _ legal) by r.key key r.problem p r.old s r.replay replay in
    let complete = c.an_end_is_complete.ensures r.problem (of_key IsProblem problems all r.key r.problem r.replay.of_key) (of_key IsSymmetric problems symmetric r.key r.problem r.replay.of_key) r.old
    (record { budget = r.replay.budget; exchanges = _; run = r.replay.run; state = r.replay.state }) number proof r.may in
    let here = subst (λ (q : Bounded). (x : List ℕ) → IsMinimalAbove q (top_floor r.old) x → HasRenamingAmong q (top_floor r.old) (shown_here r.old) x) same.1 complete in
    subst (λ (t : State). (x : List ℕ) → IsMinimalAbove p (top_floor t) x → HasRenamingAmong p (top_floor t) (shown_here t) x) same.2 here
