use Rattle.std.proofs.Common.{◌≡◌}
use Rattle.model_types.specs.Sorts.{brackets_arity}
use Rattle.model_types.proofs.Parts.Bracketing.{arities_from}
use Rattle.model_types.proofs.part_sorts.arities.brackets_arity.Given as goal

abbrev pub invariant-loop-argument : goal.invariant-loop-argument
invariant-loop-argument l = brackets_arity l.place l.joined (arities_from l.argument-index l.arguments) ≡ brackets_arity l.place l.arity (arities_from 0 l.arguments)
