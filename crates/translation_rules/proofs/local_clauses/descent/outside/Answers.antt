use Rattle.std.proofs.Common.{◌≡◌, ◌++◌, ◌∷◌, [], ℕ, List, take, get_or, sym, ap, ◌∙◌}
use Rattle.translation_rules.proofs.Locals.Cells.{kept_of, dropped_of}
use Rattle.translation_rules.proofs.local_clauses.descent.outside.Goals.{then-not-has+in_ok-push, else-not-has}
use Rattle.translation_rules.proofs.local_clauses.descent.outside.Goals as goal

pub loop-cell-preserved : goal.loop-cell-preserved
loop-cell-preserved c =
    let s = c.args.scenario.now in
    let i = c.loop-cell.cell-index in
    let cells = c.args.cells.now in
    let n = get_or cells i 0 in
    let l = c.loop-cell-test.true in
    elim c.if-not-has.branch [
      | then-not-has+in_ok-push w ↦
          ap (λ v. v.items) w.others-is ∙ w.in_ok-push.ensures.items ∙ ap (λ xs. xs ++ n ∷ []) c.loop-cell.invariant ∙ sym (kept_of s cells i 0 c.has.result l c.has.ensures w.if-not-has.true)
      | else-not-has w ↦ ap (λ v. v.items) w.others-is ∙ c.loop-cell.invariant ∙ sym (dropped_of s cells i 0 c.has.result l c.has.ensures w.if-not-has.false)
    ]
