use Rattle.std.proofs.Common.{◌≡◌, ◌∷◌, [], take}
use Rattle.tuple_core.specs.Gains.{SomeGives}
use Rattle.tuple_core.specs.Rows.{SetGains}
use Rattle.rel_formula.proofs.problem.add_row.Given as goal

abbrev pub invariant-loop-atom : goal.invariant-loop-atom
invariant-loop-atom l = SetGains l.fn.atoms l.atoms (SomeGives (take l.atom-index l.row) (λ a t. t ≡ a ∷ []))
