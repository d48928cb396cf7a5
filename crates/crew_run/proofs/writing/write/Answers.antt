use Rattle.std.proofs.Common.{List, take, drop, subst, take-append-drop}
use Rattle.crew_run.specs.declared.event.CrewEntry.{CrewEntry}
use Rattle.crew_run.specs.Crew.{MayFollow}
use Rattle.crew_run.proofs.Later.{may_still}
use Rattle.crew_run.proofs.writing.write.Goals as goal

pub add-added-requires-clause-may : goal.add-added-requires-clause-may
add-added-requires-clause-may c =
    let j = c.args.journal.now in
    let n = c.args.read in
    subst (λ (es : List CrewEntry). MayFollow j.task.translation j.task.budget es c.args.by c.args.event) (take-append-drop n j.entries)
    (may_still j.task.translation j.task.budget (take n j.entries) (drop n j.entries) c.args.by c.args.event c.requires.may c.requires.others (c.takes.ensures.new c.if-not-takes.false))
