use Rattle.std.proofs.Common.{◌≡◌, true, map, take}
use Rattle.refutation_check.specs.Renumbering.{kept_number, is_free}
use Rattle.clause_pool.proofs.free.renumbered.Given as goal

abbrev pub invariant-loop-hint : goal.invariant-loop-hint
invariant-loop-hint l = record {
  made : l.numbers.items ≡ map (λ hint. kept_number hint l.kept) (take l.hint-index l.hints);
  free : is_free l.kept (take l.hint-index l.hints) ≡ true;
}
