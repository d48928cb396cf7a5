use Rattle.std.proofs.Common.{arith}
use Rattle.named_model.specs.View.{phrase_view}
use Rattle.rel_lower.proofs.Fields.Linking.{no_only_link}
use Rattle.rel_lower.proofs.field_formulas.parts.only_link.Goals as goal

pub returns-else-links-eq1 : goal.returns-else-links-eq1
returns-else-links-eq1 c = no_only_link (phrase_view c.args.first.now) c.args.links.now (λ one. omega (arith, one, c.if-links-eq1.false))
