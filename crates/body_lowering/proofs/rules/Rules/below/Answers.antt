use Rattle.std.proofs.Common.{sym, ap, ◌∙◌}
use Rattle.named_model.specs.declared.phrase.Phrase.{Phrase, fold-roll-Phrase}
use Rattle.named_model.specs.declared.phrase.Phrase.TheVariants.{rolls-Constant}
use Rattle.named_model.specs.declared.phrase.Phrase.TheOpen.{Phrase-F}
use Rattle.named_model.specs.Phrase.{PhraseTree, StepTree, DomainTree, LinkTree}
use Rattle.named_model.specs.View.{phrase_view, phrase_level, step_level, domain_level, link_level, named_view}
use Rattle.lowering_rules.specs.Parts.{relation}
use Rattle.lowering_rules.specs.Lowering.{base_within, lowered}
use Rattle.body_lowering.specs.Locals.{locals_view}
use Rattle.body_lowering.proofs.rules.Rules.below.Goals as goal

pub returns-in-Constant-clause-value : goal.returns-in-Constant-clause-value
returns-in-Constant-clause-value g c =
    let base = base_within c.args.at.calls (named_view c.args.model.now) in
    let ls = locals_view c.args.locals.now.items in
    let d = c.args.at.binders in
    let word = c.in-Constant.word in
    let place = c.in-Constant.field-1 in
    let seen = ap phrase_view (sym (rolls-Constant word place)) ∙ fold-roll-Phrase PhraseTree StepTree DomainTree LinkTree phrase_level step_level domain_level link_level (Phrase-F.Constant word place) in
    ap relation c.constant.ensures ∙ ap (lowered base ls d) (sym seen) ∙ ap (λ (x : Phrase). lowered base ls d (phrase_view x)) (sym c.in-Constant.is)
