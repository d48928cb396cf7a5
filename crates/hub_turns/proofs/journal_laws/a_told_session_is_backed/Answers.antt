use Rattle.std.proofs.Common.{subst}
use Rattle.session_rules.specs.States.{Start}
use Rattle.hub_turns.specs.Backed.{AreBacked}
use Rattle.hub_turns.proofs.BackedRuns.{recorded_backed, backed_with_memory}
use Rattle.hub_turns.proofs.journal_laws.a_told_session_is_backed.Goals as goal

pub returns : goal.returns
returns c problems journal legal number key budget commands replies floors told t there =
    backed_with_memory t (Start budget) told.exchanges (subst (AreBacked t (Start budget)) told.recorded (recorded_backed problems t number key budget journal legal told.opened there))
