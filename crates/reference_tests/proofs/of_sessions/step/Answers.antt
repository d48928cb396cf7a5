use Rattle.std.proofs.Common.{◌≤◌, length, sym, subst}
use Rattle.rel_formula.specs.Bounds.{Bounded, cells_of}
use Rattle.reference_tests.proofs.of_sessions.step.Goals as goal

pub may_answer-requires : goal.may_answer-requires
may_answer-requires g c = subst (λ (p : Bounded). length (cells_of p) ≤ 12) (sym c.problem.ensures.value) c.requires.cells

pub listed-requires : goal.listed-requires
listed-requires g c = (c.args.made.now.problem, c.in_ok-reply.ensures.fits)
