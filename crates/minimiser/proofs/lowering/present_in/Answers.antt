use Rattle.std.proofs.Common.{◌≡◌, ◌<◌, ◌+◌, ◌∙◌, AllPairs, sym, subst, arith}
use Rattle.unit_propagation.specs.Assignments.Trail.{falses_of}
use Rattle.minimiser.proofs.Cells.{Chosen, chosen_none, chosen_in, chosen_out}
use Rattle.minimiser.proofs.LoweredTrails.{true_in, true_where, value_in, where_true}
use Rattle.minimiser.proofs.lowering.present_in.Goals.{then-unwrap_or+in_ok-insert, else-unwrap_or}
use Rattle.minimiser.proofs.lowering.present_in.Goals as goal

pub loop-cell-init : goal.loop-cell-init
loop-cell-init c = subst (Chosen (true_in (falses_of c.args.trail.now.assigned)) 0) (sym c.new-scenario.ensures) (chosen_none (true_in (falses_of c.args.trail.now.assigned)))

pub loop-cell-preserved : goal.loop-cell-preserved
loop-cell-preserved c =
    let trail = c.args.trail.now in
    let v = true_in (falses_of trail.assigned) in
    let n = c.loop-cell.cell in
    let s = c.loop-cell.scenario in
    let is : c.unwrap_or.result ≡ v (n + 1) = c.unwrap_or.ensures ∙ value_in trail.clauses trail.assigned c.level.ensures.trail (n + 1) c.value.result c.value.ensures in
    elim c.if-unwrap_or.branch [
      | then-unwrap_or+in_ok-insert w ↦
          let new = w.in_ok-insert.ensures.value in
          let up = subst (AllPairs (λ m n. m < n)) new w.insert.ensures.rising in
          subst (Chosen v (n + 1)) (sym (w.scenario-is ∙ new)) (chosen_in v n s c.loop-cell.invariant (sym is ∙ w.if-unwrap_or.true) up)
      | else-unwrap_or w ↦ subst (Chosen v (n + 1)) (sym w.scenario-is) (chosen_out v n s c.loop-cell.invariant (sym is ∙ w.if-unwrap_or.false))
    ]

pub returns-clause-cells : goal.returns-clause-cells
returns-clause-cells c = λ cell there. let l = c.loop-cell.invariant.below cell there in let e = c.loop-cell.auto.cell-end in omega arith

pub returns-clause-values : goal.returns-clause-values
returns-clause-values c = λ cell less.
    let falses = falses_of c.args.trail.now.assigned in
    let is = c.loop-cell.invariant.values cell (let e = c.loop-cell-test.false in omega arith) in
    (λ on. is.0 (true_where falses (cell + 1) on), λ there. where_true falses (cell + 1) (is.1 there))
