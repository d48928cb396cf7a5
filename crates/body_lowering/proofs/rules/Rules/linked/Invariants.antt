use Rattle.std.proofs.Common.{◌≡◌, map, drop}
use Rattle.named_model.specs.Phrase.{links_of}
use Rattle.named_model.specs.View.{link_view, named_view}
use Rattle.body_lowering.specs.Kernel.View.{part_view}
use Rattle.lowering_rules.specs.Lowering.{base_within, links_lowered}
use Rattle.body_lowering.specs.Locals.{locals_view}
use Rattle.body_lowering.proofs.rules.Rules.linked.Given as goal

abbrev pub invariant-loop-place : goal.invariant-loop-place
invariant-loop-place g l = let base = base_within l.at.calls (named_view l.model) in record {
  same : locals_view l.locals.items ≡ locals_view l.fn.locals.items;
  left : links_lowered base (locals_view l.fn.locals.items) l.at.binders (part_view l.part) (links_of (map link_view (drop l.place l.links))) ≡ links_lowered base (locals_view l.fn.locals.items) l.at.binders (part_view l.fn.first) (links_of (map link_view l.links));
}
