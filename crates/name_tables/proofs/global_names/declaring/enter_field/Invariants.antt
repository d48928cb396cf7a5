use Rattle.std.proofs.Common.{◌≡◌, drop, map, flat_map}
use Rattle.named_model.specs.Declarations.{texts}
use Rattle.name_tables.specs.Globals.Grown.{with_fields}
use Rattle.name_tables.proofs.global_names.declaring.enter_field.Given as goal

abbrev pub invariant-loop-name : goal.invariant-loop-name
invariant-loop-name l = with_fields l.names (texts (flat_map (λ n. map (λ owner. n) l.owners) (drop l.name-index l.new))) ≡ with_fields l.fn.names (texts (flat_map (λ n. map (λ owner. n) l.owners) l.new))
