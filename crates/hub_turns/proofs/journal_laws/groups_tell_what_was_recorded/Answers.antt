use Rattle.std.proofs.Common.{List, ap, ◌∙◌}
use Rattle.std.specs.Prelude.{flat_map}
use Rattle.hub_state.specs.Journal.Noted.{Note}
use Rattle.hub_state.specs.Journal.Journal.{recorded_in}
use Rattle.hub_turns.proofs.Grouping.{groups_join, notes_record, groups_record}
use Rattle.hub_turns.proofs.journal_laws.groups_tell_what_was_recorded.Goals as goal

pub returns-clause-join : goal.returns-clause-join
returns-clause-join c = groups_join

pub returns-clause-recorded : goal.returns-clause-recorded
returns-clause-recorded c by key budget journal xs groups notes are =
    notes_record by journal ∙ ap (λ (ns : List Note). flat_map recorded_in ns) notes ∙ groups_record key xs groups are
