use Rattle.std.proofs.Common.{◌≡◌, take, Ok}
use Rattle.named_model.specs.Signatures.{tops}
use Rattle.model_sizes.specs.Tables.{sizes_with}
use Rattle.model_sizes.proofs.sizes.top_sizes.Given as goal

abbrev pub invariant-loop-number : goal.invariant-loop-number
invariant-loop-number l = sizes_with l.signatures l.table l.sums l.default (tops (take l.number l.signatures)) ≡ Ok l.sizes.items
