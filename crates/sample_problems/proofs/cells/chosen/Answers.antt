use Rattle.std.proofs.Common.{◌<◌, inl, inr, ℕ, Contains, sym, subst, get_or, length}
use Rattle.std.proofs.lemmas.List.Elements.{All-contains, Contains-get_or}
use Rattle.rel_formula.specs.Bounds.{cells_of}
use Rattle.rel_formula.specs.Instance.{AreCells}
use Rattle.rel_formula.proofs.WithCell.{with_cell_has}
use Rattle.sample_problems.proofs.cells.chosen.Goals.{then-number-cells+in_ok-insert, else-number-cells}
use Rattle.sample_problems.proofs.cells.chosen.Goals as goal

pub loop-number-preserved : goal.loop-number-preserved
loop-number-preserved c =
    let p = c.args.problem.now in
    let n = get_or c.args.numbers.now c.loop-number.number-index 0 in
    let B : ℕ → Type 0 = λ n. n < length (cells_of p) in
    elim c.if-number-cells.branch [
      | then-number-cells+in_ok-insert w ↦
          let here = subst (λ m. get_or c.args.numbers.now c.loop-number.number-index 0 < m) c.cells.ensures.value w.if-number-cells.true in
          subst (AreCells p) (sym w.scenario-is) (λ k d l.
          elim ((with_cell_has n c.loop-number.scenario (get_or w.insert.new.self k d)).0 (subst (λ xs. Contains xs (get_or w.insert.new.self k d)) w.in_ok-insert.ensures.value (Contains-get_or w.insert.new.self k d l))) [
            | inl old ↦ All-contains B c.loop-number.scenario (get_or w.insert.new.self k d) c.loop-number.invariant old
            | inr new ↦ subst B (sym new) here
          ])
      | else-number-cells w ↦ subst (AreCells p) (sym w.scenario-is) c.loop-number.invariant
    ]
