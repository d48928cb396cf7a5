use Rattle.std.proofs.Common.{◌≡◌, ◌-◌, List, length, Some, slice_get, ap, refl, sym, ◌∙◌}
use Rattle.std.proofs.lemmas.Option.{slice_get_read}
use Rattle.named_model.specs.declared.named.Callee.{Callee}
use Rattle.named_model.specs.View.{phrases_view, meaning_view, named_view}
use Rattle.lowering_rules.specs.Binders as binders
use Rattle.lowering_rules.specs.Lowering.{base_within, expressions_lowered, meaning_lowered}
use Rattle.body_lowering.specs.Locals.{locals_view}
use Rattle.body_lowering.proofs.LoweredCalls.{there}
use Rattle.body_lowering.proofs.rules.Rules.call.Goals as goal

pub returns-in_ok-meaning-in-Some-clause-value : goal.returns-in_ok-meaning-in-Some-clause-value
returns-in_ok-meaning-in-Some-clause-value g c =
    let m = named_view c.args.model.now in
    let d = c.args.at.binders in
    let callee : Callee = c.in-Some.callee.now in
    let es = expressions_lowered (base_within c.args.at.calls m) (locals_view c.args.locals.now.items) d (phrases_view c.args.given.now) in
    let seen = c.deref.result.now in
    let read = c.in-Some.ensures.lookup in
    let is : Some callee ≡ slice_get c.args.model.now.callees.items c.args.callee =
    sym (slice_get_read seen (length seen) c.args.callee callee refl read.3.0 read.1) ∙ ap (λ (cs : List Callee). slice_get cs c.args.callee) c.deref.ensures.value in
    c.in_ok-meaning-in-Some.ensures.value
    ∙ ap (λ (ks : List binders.Local). meaning_lowered (base_within (c.args.at.calls - 1) m) ks d (meaning_view callee.meaning)) c.in_ok-given-in-Some.ensures.value
    ∙ there m c.args.callee d es c.args.at.calls c.args.model.now.callees.items callee refl c.if-at-eq0.false is
