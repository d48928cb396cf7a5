use Rattle.std.proofs.Common.{◌≡◌, ◌+◌, drop, map, length}
use Rattle.alloy_syntax.specs.View.{declaration_view}
use Rattle.named_model.specs.Declarations.{parameter_names}
use Rattle.name_tables.proofs.global_names.declaring.count.Given as goal

abbrev pub invariant-loop-declaration : goal.invariant-loop-declaration
invariant-loop-declaration l = l.total + length (parameter_names (map declaration_view (drop l.declaration-index l.declarations))) ≡ length (parameter_names (map declaration_view l.declarations))
