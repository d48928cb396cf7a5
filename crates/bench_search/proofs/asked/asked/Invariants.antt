use Rattle.std.proofs.Common.{◌+◌, All}
use Rattle.rel_formula.specs.View.{formula_tree}
use Rattle.bench_search.specs.Sets.{IsAbout}
use Rattle.bench_search.proofs.asked.asked.Given as goal

abbrev pub invariant-loop-set : goal.invariant-loop-set
invariant-loop-set l = All (λ f. IsAbout (l.sets + 1) (formula_tree f)) l.parts.items

abbrev pub invariant-loop-set-2 : goal.invariant-loop-set-2
invariant-loop-set-2 l = All (λ f. IsAbout (l.sets + 1) (formula_tree f)) l.parts.items
