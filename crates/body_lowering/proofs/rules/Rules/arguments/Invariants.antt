use Rattle.std.proofs.Common.{◌≡◌, map, drop}
use Rattle.named_model.specs.View.{phrases_view, named_view}
use Rattle.lowering_rules.specs.Binders.{arguments}
use Rattle.lowering_rules.specs.Lowering.{base_within, expressions_lowered}
use Rattle.body_lowering.specs.Locals.{local_view, locals_view}
use Rattle.body_lowering.proofs.Loops.{given_in_front}
use Rattle.body_lowering.proofs.rules.Rules.arguments.Given as goal

abbrev pub invariant-loop-phrase : goal.invariant-loop-phrase
invariant-loop-phrase g l = let base = base_within l.at.calls (named_view l.model) in record {
  same : locals_view l.locals.items ≡ locals_view l.fn.locals.items;
  left : given_in_front l.at.binders (map local_view l.given.items) (expressions_lowered base (locals_view l.fn.locals.items) l.at.binders (phrases_view (drop l.phrase-index l.phrases))) ≡ arguments l.at.binders (expressions_lowered base (locals_view l.fn.locals.items) l.at.binders (phrases_view l.phrases));
}
