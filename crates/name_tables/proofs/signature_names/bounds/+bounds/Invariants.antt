use Rattle.std.proofs.Common.{map, drop}
use Rattle.alloy_syntax.specs.Tree.{unions_of, arrows_of}
use Rattle.alloy_syntax.specs.View.{arrow_view}
use Rattle.named_model.specs.Declarations.{unions_resolved, arrows_resolved}
use Rattle.named_model.specs.Faults.{union_faults, arrow_faults}
use Rattle.name_tables.specs.Signatures.Bounds.{placed_view}
use Rattle.name_tables.proofs.Signatures.BoundOperands.{LinksLeft}
use Rattle.name_tables.proofs.signature_names.bounds.+bounds.Given as goal

abbrev pub invariant-unions-loop-operand : goal.invariant-unions-loop-operand
invariant-unions-loop-operand l =
    LinksLeft (λ us. union_faults l.names.globals (unions_of (map placed_view us))) (λ us. unions_resolved l.names.globals (unions_of (map placed_view us))) l.operands (drop l.operand-index l.operands) l.links.items

abbrev pub invariant-arrows-loop-arrow : goal.invariant-arrows-loop-arrow
invariant-arrows-loop-arrow l =
    LinksLeft (λ as'. arrow_faults l.names.globals (arrows_of (map arrow_view as'))) (λ as'. arrows_resolved l.names.globals (arrows_of (map arrow_view as'))) l.arrows (drop l.arrow-index l.arrows) l.links.items
