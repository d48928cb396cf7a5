use Rattle.std.proofs.Common.{◌≡◌, length, string_bytes}
use Rattle.bench_search.proofs.SetLemmas.{Making}
use Rattle.bench_search.proofs.sets.relations.Given as goal

abbrev pub invariant-loop-made : goal.invariant-loop-made
invariant-loop-made l = record {
  name : length (string_bytes l.name) ≡ l.made;
  making : Making l.all l.made l.relations.items;
}
