use Rattle.std.proofs.Common.{◌≡◌, ◌++◌, ◌∷◌, [], ℕ, List, sym, ap, ◌∙◌}
use Rattle.translation_rules.proofs.Locals.Cells.{absence_more, absence_same}
use Rattle.translation_rules.proofs.local_clauses.descent.add_absences.Goals.{then-not-has+in_ok-clause_of+in_ok-push, else-not-has}
use Rattle.translation_rules.proofs.local_clauses.descent.add_absences.Goals as goal

pub loop-cell-preserved : goal.loop-cell-preserved
loop-cell-preserved c =
    let s = c.args.scenario.now in
    let n = c.loop-cell.cell in
    let base = c.args.clauses.now.items in
    let now = c.loop-cell.clauses.items in
    elim c.if-not-has.branch [
      | then-not-has+in_ok-clause_of+in_ok-push w ↦
          ap (λ v. v.items) w.clauses-is ∙ w.in_ok-push.ensures.items ∙ ap (λ clause. now ++ clause ∷ []) (w.in_ok-clause_of.ensures ∙ ap (λ l. l ∷ []) w.absent.ensures)
          ∙ absence_more s n c.has.result c.has.ensures base now c.loop-cell.invariant w.if-not-has.true
      | else-not-has w ↦ ap (λ v. v.items) w.clauses-is ∙ absence_same s n c.has.result c.has.ensures base now c.loop-cell.invariant w.if-not-has.false
    ]
