use Rattle.std.proofs.Common.{◌<◌, ◌≤◌, ℕ, List, length, sym, subst}
use Rattle.crew_run.specs.declared.event.CrewEntry.{CrewEntry}
use Rattle.crew_run.specs.Crew.{told, HasGivenUp, IsUnended}
use Rattle.crew_run.proofs.answer.unended.Goals as goal

pub returns-then-all_gave_up : goal.returns-then-all_gave_up
returns-then-all_gave_up c =
    let j = c.args.journal in
    let given = c.have_given_up-all_gave_up.ensures c.if-all_gave_up.true in
    subst (λ (es : List CrewEntry). IsUnended j.task.translation c.args.workers j.task.budget j.task.most es × (length (told es) < j.task.most) × ((by : ℕ) → 1 ≤ by → by ≤ c.args.workers → HasGivenUp es by))
    (sym c.into_entries-journal-then-all_gave_up.ensures) (
      record { legal = c.entries.ensures.legal; numbers = c.requires.numbers; not_ended = c.requires.open },
      c.is_full.ensures.no (λ t. let f = c.if-is_full.false in absurd cc),
      λ by low high. subst (λ (es : List CrewEntry). HasGivenUp es by) c.entries.ensures.entries (given by low high),
    )
