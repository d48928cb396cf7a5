use Rattle.std.proofs.Common.{◌≡◌, map, drop}
use Rattle.rel_formula.specs.View.{formula_tree}
use Rattle.named_model.specs.View.{phrases_view, named_view}
use Rattle.lowering_rules.specs.Lowering.{base_within, formulas_lowered}
use Rattle.body_lowering.specs.Locals.{locals_view}
use Rattle.body_lowering.proofs.Loops.{front}
use Rattle.body_lowering.proofs.rules.Rules.formulas.Given as goal

abbrev pub invariant-loop-phrase : goal.invariant-loop-phrase
invariant-loop-phrase g l = let base = base_within l.at.calls (named_view l.model) in record {
  same : locals_view l.locals.items ≡ locals_view l.fn.locals.items;
  left : front (map formula_tree l.formulas.items) (formulas_lowered base (locals_view l.fn.locals.items) l.at.binders (phrases_view (drop l.phrase-index l.phrases))) ≡ formulas_lowered base (locals_view l.fn.locals.items) l.at.binders (phrases_view l.phrases);
}
