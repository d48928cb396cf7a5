use Rattle.std.proofs.Common.{◌<◌, inl, inr, ℕ, Contains, sym, subst, get_or, length, arith}
use Rattle.std.proofs.lemmas.List.Elements.{All-contains, Contains-get_or}
use Rattle.rel_formula.specs.Bounds.{cells_of}
use Rattle.rel_formula.specs.Instance.{AreCells}
use Rattle.rel_formula.proofs.WithCell.{with_cell_has}
use Rattle.sample_problems.proofs.cells.scenario_of.Goals.{then-bits-cell-eq1+in_ok-insert, else-bits-cell-eq1}
use Rattle.sample_problems.proofs.cells.scenario_of.Goals as goal

pub loop-cell-preserved : goal.loop-cell-preserved
loop-cell-preserved c =
    let p = c.args.problem.now in
    let n = c.loop-cell.cell in
    let B : ℕ → Type 0 = λ n. n < length (cells_of p) in
    elim c.if-bits-cell-eq1.branch [
      | then-bits-cell-eq1+in_ok-insert w ↦
          let here : n < length (cells_of p) = let t = c.loop-cell-test.true in let e = c.cells.ensures.value in let m = c.min-cell-end.ensures in omega arith in
          subst (AreCells p) (sym w.scenario-is) (λ k d l.
          elim ((with_cell_has n c.loop-cell.scenario (get_or w.insert.new.self k d)).0 (subst (λ xs. Contains xs (get_or w.insert.new.self k d)) w.in_ok-insert.ensures.value (Contains-get_or w.insert.new.self k d l))) [
            | inl old ↦ All-contains B c.loop-cell.scenario (get_or w.insert.new.self k d) c.loop-cell.invariant old
            | inr new ↦ subst B (sym new) here
          ])
      | else-bits-cell-eq1 w ↦ subst (AreCells p) (sym w.scenario-is) c.loop-cell.invariant
    ]
