use Rattle.std.proofs.Common.{ℕ, List, All, sym, subst}
use Rattle.rel_formula.specs.Bounds.{Bounded}
use Rattle.rel_formula.specs.Instance.{AreCells}
use Rattle.rel_formula.specs.Renaming.{IsSymmetric}
use Rattle.script_text.specs.Replies.{NamesCellsOf}
use Rattle.explorer_cli.proofs.classed_sessions.push_told.Goals as goal

pub push_classes-requires-clause-symmetric : goal.push_classes-requires-clause-symmetric
push_classes-requires-clause-symmetric c = subst IsSymmetric (sym c.problem.ensures.value) c.problem.ensures.well.symmetric

pub push_classes-requires-clause-cells : goal.push_classes-requires-clause-cells
push_classes-requires-clause-cells c =
    let p = c.args.translation.now.problem in
    let cells = subst (NamesCellsOf p) c.in-All.is c.requires.cells in
    subst (λ (q : Bounded). All (AreCells q) c.scenarios.result.now) (sym c.problem.ensures.value) (subst (λ (ss : List (List ℕ)). All (AreCells p) ss) (sym c.scenarios.ensures) cells)
