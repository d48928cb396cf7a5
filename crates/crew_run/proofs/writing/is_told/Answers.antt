use Rattle.std.proofs.Common.{◌≡◌, true, false, List, Contains, refl, sym, subst}
use Rattle.std.proofs.lemmas.List.{take_all}
use Rattle.crew_run.specs.declared.event.CrewEntry.{CrewEntry}
use Rattle.crew_run.specs.Crew.{told}
use Rattle.crew_run.proofs.ReadEntries.{told_here}
use Rattle.crew_run.proofs.writing.is_told.Goals as goal

pub returns-then-tells : goal.returns-then-tells
returns-then-tells c =
    let there = told_here c.args.entries.now c.loop-entry.entry-index c.entry-item.result c.args.scenario.now c.loop-entry-test.true c.entry-item.is (c.tells.ensures.0 c.if-tells.true) in
    (λ t. there, λ h. refl)

pub returns : goal.returns
returns c = (
  λ e. absurd (let h : false ≡ true = e in cc),
  λ there. absurd (c.loop-entry.invariant (subst (λ (es : List CrewEntry). Contains (told es) c.args.scenario.now) (sym (take_all c.loop-entry.entry-index c.args.entries.now c.loop-entry-test.false)) there)),
)
