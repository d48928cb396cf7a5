use Rattle.std.proofs.Common.{◌∷◌, ◌++◌, ◌∙◌, [], List, sym, ap, subst, take}
use Rattle.std.proofs.lemmas.List.{take_more, take_all}
use Rattle.script_format.specs.declared.entries.SessionEntry.{SessionEntry}
use Rattle.served_models.specs.Served.{IsNext}
use Rattle.served_models.proofs.numbers.next_asked.Goals as goal

pub loop-session-preserved : goal.loop-session-preserved
loop-session-preserved c =
    let xs = c.args.sessions.now in
    let i = c.loop-session.session-index in
    let x = c.session-item.result in
    subst (λ (ys : List SessionEntry). IsNext ys c.args.place c.args.from c.with_session-least.result)
    (ap (λ (y : SessionEntry). take i xs ++ y ∷ []) c.session-item.is ∙ sym (take_more xs i x c.loop-session-test.true))
    (c.with_session-least.ensures (take i xs) c.loop-session.invariant)

pub returns : goal.returns
returns c =
    subst (λ (ys : List SessionEntry). IsNext ys c.args.place c.args.from c.loop-session.least) (take_all c.loop-session.session-index c.args.sessions.now c.loop-session-test.false) c.loop-session.invariant
