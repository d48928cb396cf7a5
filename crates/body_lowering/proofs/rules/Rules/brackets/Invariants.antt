use Rattle.std.proofs.Common.{◌≡◌, drop}
use Rattle.rel_formula.specs.View.{expression_tree}
use Rattle.named_model.specs.View.{phrases_view, named_view}
use Rattle.lowering_rules.specs.Parts.{brackets_lowered}
use Rattle.lowering_rules.specs.Lowering.{base_within, expressions_lowered}
use Rattle.body_lowering.specs.Locals.{locals_view}
use Rattle.body_lowering.proofs.rules.Rules.brackets.Given as goal

abbrev pub invariant-loop-phrase : goal.invariant-loop-phrase
invariant-loop-phrase g l = let base = base_within l.at.calls (named_view l.model) in record {
  same : locals_view l.locals.items ≡ locals_view l.fn.locals.items;
  left : brackets_lowered (expression_tree l.all) (expressions_lowered base (locals_view l.fn.locals.items) l.at.binders (phrases_view (drop l.phrase-index l.phrases))) ≡ brackets_lowered (expression_tree l.fn.head) (expressions_lowered base (locals_view l.fn.locals.items) l.at.binders (phrases_view l.phrases));
}
