use Rattle.std.proofs.Common.{◌≡◌, drop}
use Rattle.named_model.specs.View.{phrases_view, named_view}
use Rattle.lowering_rules.specs.Lowering.{base_within, behind_values}
use Rattle.body_lowering.specs.Locals.{locals_view}
use Rattle.body_lowering.proofs.rules.Rules.values.Given as goal

abbrev pub invariant-loop-phrase : goal.invariant-loop-phrase
invariant-loop-phrase g l = let base = base_within l.at.calls (named_view l.model) in
    behind_values base (locals_view l.locals.items) l.at.binders (phrases_view (drop l.phrase-index l.phrases)) ≡ behind_values base (locals_view l.fn.locals.items) l.at.binders (phrases_view l.phrases)
