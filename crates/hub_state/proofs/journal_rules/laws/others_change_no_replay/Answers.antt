use Rattle.std.proofs.Common.{sym, ◌∙◌, ap, subst}
use Rattle.std.proofs.lemmas.List.Elements.{Contains-append_left}
use Rattle.session_rules.specs.States.{Start}
use Rattle.session_rules.specs.Steps.{MachineRun, state_after}
use Rattle.hub_state.specs.Journal.Noted.{Opened}
use Rattle.hub_state.proofs.Journal.Imports.{same_exchanges}
use Rattle.hub_state.proofs.journal_rules.laws.others_change_no_replay.Goals as goal

pub returns-clause-exchanges : goal.returns-clause-exchanges
returns-clause-exchanges c = same_exchanges

pub returns-clause-replay : goal.returns-clause-replay
returns-clause-replay c problems journal others by key problem s different replay =
    let same = sym (same_exchanges by journal others different) in
    record {
      budget = replay.budget;
      opened = Contains-append_left journal others (record { by = by; note = Opened key replay.budget }) replay.opened;
      of_key = replay.of_key;
      run = subst (MachineRun problem (Start replay.budget)) same replay.run;
      state = replay.state ∙ ap (state_after (Start replay.budget)) same;
    }
