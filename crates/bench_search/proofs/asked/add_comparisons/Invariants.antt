use Rattle.std.proofs.Common.{◌+◌, All}
use Rattle.rel_formula.specs.View.{formula_tree}
use Rattle.bench_search.specs.Sets.{IsAbout}
use Rattle.bench_search.proofs.asked.add_comparisons.Given as goal

abbrev pub invariant-loop-other : goal.invariant-loop-other
invariant-loop-other l = All (λ f. IsAbout (l.sets + 1) (formula_tree f)) l.parts.items
