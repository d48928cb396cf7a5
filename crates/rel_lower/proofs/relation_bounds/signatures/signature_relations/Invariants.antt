use Rattle.std.proofs.Common.{map}
use Rattle.std.specs.List.{AllZip, range_with_len}
use Rattle.named_model.specs.View.{named_view}
use Rattle.lowering_rules.specs.Relations.{IsOutlined, signature_outline}
use Rattle.rel_lower.proofs.relation_bounds.signatures.signature_relations.Given as goal

abbrev pub invariant-loop-signature : goal.invariant-loop-signature
invariant-loop-signature l = AllZip (IsOutlined l.sizes) (map (signature_outline (named_view l.named) l.sizes) (range_with_len 0 l.signature)) l.relations.items
