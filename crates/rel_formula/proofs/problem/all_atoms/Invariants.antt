use Rattle.std.proofs.Common.{◌≡◌, ◌∷◌, [], take}
use Rattle.tuple_core.specs.Gains.{SomeGives}
use Rattle.tuple_core.specs.Rows.{SetGains}
use Rattle.rel_formula.proofs.problem.all_atoms.Given as goal

abbrev pub invariant-loop-relation : goal.invariant-loop-relation
invariant-loop-relation l = SetGains l.initial.atoms l.atoms (SomeGives (take l.relation-index l.relations) (λ relation. SomeGives relation.upper.rows (λ row. SomeGives row (λ a t. t ≡ a ∷ []))))
