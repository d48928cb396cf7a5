use Rattle.std.proofs.Common.{◌≤◌, length, ◌∙◌, ap, arith}
use Rattle.rel_formula.specs.Bounds.{Bounded, cells_of}
use Rattle.reference_tests.proofs.of_sessions.serve.Goals as goal

pub turn-requires-clause-cells : goal.turn-requires-clause-cells
turn-requires-clause-cells g c = let e = c.cells.ensures.value ∙ ap (λ (p : Bounded). length (cells_of p)) c.problem.ensures.value in omega arith
