use Rattle.std.proofs.Common.{◌≡◌, true, false, get_or, Contains, arith}
use Rattle.augmenter.proofs.MarkedCells.{Listed, listed_in, listed_out}
use Rattle.augmenter.proofs.cells.marked_outside.Goals.{then-mark+then-not-has+in_ok-push, else-mark, else-mark-via-then-mark+else-not-has, else-mark-via-else-mark}
use Rattle.augmenter.proofs.cells.marked_outside.Goals as goal

pub loop-place-preserved : goal.loop-place-preserved
loop-place-preserved c =
    let marks = c.args.marks.now in
    let scenario = c.args.scenario.now in
    let n = c.loop-place.place in
    let cells = c.loop-place.cells.items in
    let listed : Listed marks scenario n cells = record { exactly = c.loop-place.invariant.exactly; rising = c.loop-place.invariant.rising } in
    elim c.if-mark.branch [
      | then-mark+then-not-has+in_ok-push w ↦
          let more = listed_in marks scenario n cells listed (λ there. let yes : w.has.result ≡ true = w.has.ensures.1 there in let no = w.if-not-has.true in absurd cc) w.if-mark.true in
          rw (w.cells-is, w.in_ok-push.ensures.items) (record { exactly = more.exactly; rising = more.rising })
      | else-mark w ↦
          let out : ((Contains scenario n → ⊥) → get_or marks n false ≡ true → ⊥) = elim w.else-mark.branch [
            | else-mark-via-then-mark+else-not-has v ↦ λ absent m. absent (v.has.ensures.0 v.if-not-has.false)
            | else-mark-via-else-mark v ↦ λ absent m. let no = v.if-mark.false in absurd cc
          ] in
          let same = listed_out marks scenario n cells listed out in
          rw w.cells-is (record { exactly = same.exactly; rising = same.rising })
    ]

pub returns-clause-exactly : goal.returns-clause-exactly
returns-clause-exactly c = λ cell.
    let is = c.loop-place.invariant.exactly cell in
    let end = c.loop-place.auto.place-end in
    (λ there. let k = is.0 there in ((let l = k.0 in omega arith), k.1, k.2), λ known. is.1 ((let l = known.0 in omega arith), known.1, known.2))
