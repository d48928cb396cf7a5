use Rattle.std.proofs.Common.{sym, ◌∙◌, ap, subst}
use Rattle.session_rules.specs.States.{Start}
use Rattle.session_rules.specs.Steps.{MachineRun, state_after}
use Rattle.hub_state.proofs.journal_rules.laws.a_transcript_tells_the_replay.Goals as goal

pub returns : goal.returns
returns c problems journal number key budget commands replies floors told =
    let run = c.a_transcript_is_a_run.ensures.run told.problem (Start budget) commands replies floors told.exchanges told.transcript in
    record {
      budget = budget;
      opened = told.opened;
      of_key = told.of_key;
      run = subst (MachineRun told.problem (Start budget)) (sym told.recorded) (c.memory_changes_nothing.ensures.run told.problem (Start budget) told.exchanges run);
      state = sym (ap (state_after (Start budget)) told.recorded ∙ c.memory_changes_nothing.ensures.state (Start budget) told.exchanges);
    }
