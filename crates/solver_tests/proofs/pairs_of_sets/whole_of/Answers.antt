use Rattle.std.proofs.Common.{inl, ◌∙◌, ap}
use Rattle.tuple_core.specs.Rows.{Rows}
use Rattle.solver_tests.proofs.pairs_of_sets.whole_of.Goals as goal

pub returns : goal.returns
returns c = record {
  name = c.in_ok-of.ensures;
  arity = ap (λ (v : Rows). v.arity) c.in_ok-copy.ensures ∙ c.requires;
  upper = c.in_ok-copy-2.ensures;
  lower = inl c.in_ok-copy.ensures;
}
