use Rattle.overload_resolution.proofs.Expressions.Chaining.{Bracketed}
use Rattle.overload_resolution.proofs.expression_types.brackets.brackets_type.Given as goal

abbrev pub invariant-loop-argument : goal.invariant-loop-argument
invariant-loop-argument l = Bracketed l.fn.head l.arguments l.argument-index l.all
