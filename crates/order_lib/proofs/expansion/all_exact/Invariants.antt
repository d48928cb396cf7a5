use Rattle.std.proofs.Common.{◌≡◌, map}
use Rattle.alloy_syntax.specs.View.{paragraph_view}
use Rattle.order_lib.specs.Scopes.{with_exact}
use Rattle.order_lib.proofs.expansion.all_exact.Given as goal

abbrev pub invariant-loop-paragraph : goal.invariant-loop-paragraph
invariant-loop-paragraph l = map paragraph_view l.all.items ≡ map (with_exact l.ordered) (map paragraph_view l.yielded)
