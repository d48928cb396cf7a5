use Rattle.work_limits.proofs.StepUnits.{copies_by_renamings}
use Rattle.work_limits.proofs.laws.copies_are_renamings_of_what_was_shown.Goals as goal

pub returns : goal.returns
returns c t pool s sound well n number parts copies is =
    let rounds = c.rounds_find_new_copies.ensures in
    copies_by_renamings t (λ floor shown blocked rs cs are. ((rounds.few t floor shown blocked rs cs are).1, (rounds.new t floor shown blocked rs cs are).1)) s sound n well number (c.renamings_are_a_class.ensures.itself t.problem) parts copies is.work
