use Rattle.rel_formula.proofs.Swapped.{Halfway}
use Rattle.tuple_core.specs.Swap.{swap_atoms}
use Rattle.rel_formula.proofs.scenario.swap_in_numbers.Given as goal

abbrev pub invariant-loop-place : goal.invariant-loop-place
invariant-loop-place l = Halfway l.problem (swap_atoms l.first l.second) l.fn.numbers l.numbers l.place
