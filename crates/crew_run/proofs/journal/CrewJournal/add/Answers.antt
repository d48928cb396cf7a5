use Rattle.std.proofs.Common.{◌≡◌, ◌⊎◌, ◌<◌, ◌+◌, Bool, true, false, cond, [], List, length, refl, sym, ◌∙◌, ap, subst}
use mir.Val.{bool_byte}
use Rattle.crew_run.specs.declared.event.CrewEntry.{CrewEntry}
use Rattle.crew_run.specs.Crew.{told, told_by, MayFollow, HasEnded, IsCrewJournal}
use Rattle.crew_run.specs.Passing.{Journaled}
use Rattle.crew_run.proofs.Journals.{added}
use Rattle.crew_run.proofs.journal.CrewJournal.add.Goals as goal

byte : (b : Bool) → bool_byte b ≡ cond b 1 0
byte true = refl
byte false = refl

pub invariant_of-self-2 : goal.invariant_of-self-2
invariant_of-self-2 c =
    let t = c.self.inside in
    let may = subst (λ (j : Journaled). MayFollow j.task.translation j.task.budget j.entries c.args.by c.args.event) (sym c.self.view_is) c.requires.may in
    let goes = subst (λ (j : Journaled). ¬ HasEnded j.entries) (sym c.self.view_is) c.requires.open in
    let room = subst (λ (j : Journaled). (told_by c.args.event ≡ []) ⊎ (length (told j.entries) < j.task.most)) (sym c.self.view_is) c.requires.room in
    subst (λ (es : List CrewEntry). IsCrewJournal t.about.value t.budget t.most es × (t.tells + c.from-more.result ≡ length (told es))) (sym c.in_ok-push.ensures.items)
    (added t.about.value t.budget t.most t.entries.items c.args.by c.args.event c.told.result (λ s. s.now) t.tells c.from-more.result c.self.invariant.0 c.self.invariant.1 may goes room c.told.ensures (c.from-more.ensures ∙ byte c.is_some.result ∙ ap (λ (b : Bool). cond b 1 0) c.is_some.ensures))
