use Rattle.std.proofs.Common.{◌≡◌, map, drop}
use Rattle.rel_formula.specs.Kernel.{more_formulas}
use Rattle.rel_formula.specs.View.{formula_tree}
use Rattle.named_model.specs.Phrase.{links_of}
use Rattle.named_model.specs.View.{link_view, named_view}
use Rattle.body_lowering.specs.Kernel.View.{part_view}
use Rattle.lowering_rules.specs.Parts.{formula_in}
use Rattle.lowering_rules.specs.Lowering.{base_within, operands_lowered}
use Rattle.body_lowering.specs.Locals.{locals_view}
use Rattle.body_lowering.proofs.Loops.{front}
use Rattle.body_lowering.proofs.rules.Rules.list.Given as goal

abbrev pub invariant-loop-link : goal.invariant-loop-link
invariant-loop-link g l = let base = base_within l.at.calls (named_view l.model) in record {
  same : locals_view l.locals.items ≡ locals_view l.fn.locals.items;
  left : front (map formula_tree l.operands.items) (operands_lowered base (locals_view l.fn.locals.items) l.at.binders (links_of (map link_view (drop l.link-index l.links)))) ≡ more_formulas (formula_in (part_view l.fn.first)) (operands_lowered base (locals_view l.fn.locals.items) l.at.binders (links_of (map link_view l.links)));
}
