use Rattle.std.proofs.Common.{◌≡◌, drop}
use Rattle.named_model.specs.Declarations.{texts}
use Rattle.name_tables.specs.Globals.Grown.{with_signatures}
use Rattle.name_tables.proofs.global_names.declaring.enter_signatures.Given as goal

abbrev pub invariant-loop-name : goal.invariant-loop-name
invariant-loop-name l = with_signatures l.names (texts (drop l.name-index l.new)) ≡ with_signatures l.fn.names (texts l.new)
