use Rattle.std.proofs.Common.{◌≡◌, ◌∷◌, [], take}
use Rattle.tuple_core.specs.Gains.{SomeGives}
use Rattle.tuple_core.specs.Rows.{SetGains}
use Rattle.rel_formula.proofs.problem.add_atoms.Given as goal

abbrev pub invariant-loop-row : goal.invariant-loop-row
invariant-loop-row l = SetGains l.fn.atoms l.atoms (SomeGives (take l.row-index l.rows) (λ row. SomeGives row (λ a t. t ≡ a ∷ [])))
