use Rattle.std.proofs.Common.{◌<◌, ◌+◌, ◌∙◌, AllPairs, sym, subst, arith}
use Rattle.cnf_core.specs.Valuation.{value_of}
use Rattle.minimiser.proofs.Cells.{Chosen, chosen_none, chosen_in, chosen_out}
use Rattle.session_state.proofs.search_rounds.round.scenario_in.Goals.{then-value+in_ok-insert, else-value}
use Rattle.session_state.proofs.search_rounds.round.scenario_in.Goals as goal

pub loop-cell-init : goal.loop-cell-init
loop-cell-init c = subst (Chosen (value_of c.args.valuation.now) 0) (sym c.new-scenario.ensures) (chosen_none (value_of c.args.valuation.now))

pub loop-cell-preserved : goal.loop-cell-preserved
loop-cell-preserved c =
    let v = value_of c.args.valuation.now in
    let n = c.loop-cell.cell in
    let s = c.loop-cell.scenario in
    elim c.if-value.branch [
      | then-value+in_ok-insert w ↦
          let new = w.in_ok-insert.ensures.value in
          let up = subst (AllPairs (λ m n. m < n)) new w.insert.ensures.rising in
          subst (Chosen v (n + 1)) (sym (w.scenario-is ∙ new)) (chosen_in v n s c.loop-cell.invariant (sym c.value.ensures ∙ w.if-value.true) up)
      | else-value w ↦ subst (Chosen v (n + 1)) (sym w.scenario-is) (chosen_out v n s c.loop-cell.invariant (sym c.value.ensures ∙ w.if-value.false))
    ]

pub returns-clause-cells : goal.returns-clause-cells
returns-clause-cells c = λ cell there. let l = c.loop-cell.invariant.below cell there in let e = c.loop-cell.auto.cell-end in omega arith
