use Rattle.std.proofs.Common.{◌≡◌, ◌++◌}
use Rattle.named_model.specs.Signatures.{tops}
use Rattle.model_types.proofs.Parts.Tops.{tops_from}
use Rattle.model_types.proofs.part_sorts.tables.top_signatures.Given as goal

abbrev pub invariant-loop-number : goal.invariant-loop-number
invariant-loop-number l = l.numbers.items ++ tops_from l.number l.signatures ≡ tops l.signatures
