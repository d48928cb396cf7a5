use Rattle.std.proofs.Common.{◌≡◌, drop, map}
use Rattle.named_model.specs.Declarations.{texts}
use Rattle.name_tables.specs.Globals.Grown.{with_fields}
use Rattle.name_tables.proofs.global_names.declaring.enter_each.Given as goal

abbrev pub invariant-loop : goal.invariant-loop
invariant-loop l = with_fields l.names (texts (map (λ owner. l.name) (drop l.index l.owners))) ≡ with_fields l.fn.names (texts (map (λ owner. l.name) l.owners))
