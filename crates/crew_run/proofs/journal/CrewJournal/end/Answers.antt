use Rattle.std.proofs.Common.{◌≡◌, ◌-◌, List, length, Some, sym, subst}
use Rattle.std.specs.Prelude.{slice_get}
use Rattle.crew_run.specs.declared.event.CrewEntry.{CrewEntry}
use Rattle.crew_run.proofs.Endings.{end_found}
use Rattle.crew_run.proofs.journal.CrewJournal.end.Goals as goal

pub returns-in-Some : goal.returns-in-Some
returns-in-Some c =
    let t = c.self.inside in
    let e : CrewEntry = c.in-Some.entry.now in
    let last : slice_get t.entries.items (length t.entries.items - 1) ≡ Some e = subst (λ (es : List CrewEntry). slice_get es (length es - 1) ≡ Some e) c.deref.ensures.value (sym c.in-Some.ensures.value) in
    rw (← c.self.view_is) (end_found c.end.result (λ proof. proof.now) t.about.value t.budget t.most t.entries.items e c.self.invariant.0 last c.end.ensures)
