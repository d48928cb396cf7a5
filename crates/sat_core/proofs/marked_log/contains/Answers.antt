use Rattle.std.proofs.Common.{◌≡◌, ◌∙◌, false, true, ap₂, sym}
use Rattle.std.specs.Prelude.{bit_or}
use Rattle.sat_core.proofs.Marking.{mark_has}
use Rattle.sat_core.proofs.marked_log.contains.Goals as goal

pub returns-then-mark-wanted : goal.returns-then-mark-wanted
returns-then-mark-wanted c = (
  λ e. absurd (let h : false ≡ true = e in cc),
  λ there. absurd (c.if-mark-wanted.true (ap₂ bit_or c.requires.mark c.requires.wanted ∙ mark_has c.args.clause.now c.args.step.now.clause there ∙ sym c.requires.mark)),
)

pub returns : goal.returns
returns c = rw (← c.lits.ensures.lits, ← c.lits-2.ensures.lits) c.has_each.ensures
