use Rattle.named_model.specs.View.{named_view}
use Rattle.lowering_rules.specs.Relations.{signature_outline}
use Rattle.rel_lower.proofs.Placing.Outlines.{outlines_more}
use Rattle.rel_lower.proofs.relation_bounds.signatures.signature_relations.Goals as goal

pub loop-signature-preserved : goal.loop-signature-preserved
loop-signature-preserved c =
    outlines_more c.args.sizes.now (signature_outline (named_view c.args.named.now) c.args.sizes.now) c.loop-signature.signature c.loop-signature.relations.items c.push.new.self.items
    c.in_ok-signature_relation.field-0 c.in_ok-push.ensures.items c.loop-signature.invariant c.in_ok-signature_relation.ensures
