use Rattle.std.proofs.Common.{◌≡◌, ◌≤◌, ◌<◌, ◌^◌, ℕ, Some, List, length, All, sym, ◌∙◌, ap, subst, arith}
use Rattle.std.specs.Prelude.{IfOk, slice_get}
use Rattle.std.proofs.lemmas.Option.{slice_get_within}
use Rattle.translation_rules.specs.Translation.{Translated}
use Rattle.script_format.specs.Limits.{IsAllowed, asked_by}
use Rattle.session_words.specs.declared.commands.Command.{Command}
use Rattle.session_rules.specs.declared.script.SessionScript.{SessionScript}
use Rattle.session_rules.specs.States.{State}
use Rattle.session_turns.specs.Allowed.{allowed}
use Rattle.session_turns.specs.Seated.{IsSeated}
use Rattle.session_turns.specs.Served.{IsServedScript}
use Rattle.explorer_run.specs.Served.{IsServableScript, values_of}
use Rattle.explorer_run.proofs.Seating.{ended_now, same_element, same_translation}
use Rattle.explorer_run.proofs.workers.serve_seat.Goals as goal

pub serve_session-served-requires-clause-seated : goal.serve_session-served-requires-clause-seated
serve_session-served-requires-clause-seated g c =
    let ready = c.requires.ready in
    let ts = c.args.translations.now in
    let item = c.index-scripts-place.result in
    let script = same_element c.args.scripts.now c.args.place ready.script item ready.at c.index-scripts-place.is in
    let of_key = subst (λ (x : SessionScript). slice_get (values_of ts) x.key ≡ Some ready.translation) (sym script) ready.of_key in
    let is = c.deref.ensures ∙ same_translation ts item.key c.index-translations-script.result ready.translation of_key c.index-translations-script.is in
    subst (λ (t : Translated). IsSeated c.args.lock.now t 0 c.args.seat.now.pass c.args.seat.now.session) (sym is) ready.seated

pub serve_session-served-requires-clause-allowed : goal.serve_session-served-requires-clause-allowed
serve_session-served-requires-clause-allowed g c =
    let ready = c.requires.ready in
    let within = slice_get_within c.args.scripts.now c.args.place ready.script ready.at in
    let servable = subst (IsServableScript (length c.args.translations.now)) (sym c.index-scripts-place.is) (c.requires.scripts c.args.place c.index-scripts-place.result within) in
    subst (All IsAllowed) (sym c.commands.ensures) servable.allowed

pub serve_session-served-requires-clause-asked : goal.serve_session-served-requires-clause-asked
serve_session-served-requires-clause-asked g c =
    let ready = c.requires.ready in
    let within = slice_get_within c.args.scripts.now c.args.place ready.script ready.at in
    let servable = subst (IsServableScript (length c.args.translations.now)) (sym c.index-scripts-place.is) (c.requires.scripts c.args.place c.index-scripts-place.result within) in
    subst (λ (xs : List Command). asked_by xs ≤ 20000) (sym c.commands.ensures) servable.asked

pub serve_session-served-requires-clause-few : goal.serve_session-served-requires-clause-few
serve_session-served-requires-clause-few g c =
    let ready = c.requires.ready in
    let within = slice_get_within c.args.scripts.now c.args.place ready.script ready.at in
    let servable = subst (IsServableScript (length c.args.translations.now)) (sym c.index-scripts-place.is) (c.requires.scripts c.args.place c.index-scripts-place.result within) in
    subst (λ (xs : List Command). length xs < 2 ^ 32) (sym c.commands.ensures) servable.few

pub returns : goal.returns
returns g c =
    let ready = c.requires.ready in
    let ts = c.args.translations.now in
    let item = c.index-scripts-place.result in
    let script = same_element c.args.scripts.now c.args.place ready.script item ready.at c.index-scripts-place.is in
    let of_key = subst (λ (x : SessionScript). slice_get (values_of ts) x.key ≡ Some ready.translation) (sym script) ready.of_key in
    let is = c.deref.ensures ∙ same_translation ts item.key c.index-translations-script.result ready.translation of_key c.index-translations-script.is in
    let asked = c.commands.ensures ∙ ap (λ (x : SessionScript). x.commands) script in
    let served = c.serve_session-served.result in
    let new = c.serve_session-served.new.pass in
    let start = ap (λ (s : State). s.budget) ready.opened.state in
    let may = ap (λ (b : ℕ). allowed b c.commands.result.now) start ∙ ap (allowed ready.script.budget) asked in
    let counted : c.serve_session-served.new.count ≤ allowed ready.script.budget ready.script.commands = let most = c.serve_session-served.ensures.spent in let fresh = ready.fresh in omega (arith, most, fresh, may) in
    ended_now c.args.lock.now (values_of ts) c.args.scripts.now c.args.place c.args.seat.now (record { pass = new; session = c.serve_session-served.new.session; transcript = c.ok.result; count = c.serve_session-served.new.count }) ready c.serve_session-served.ensures.goes served
    (λ problems key budget base opened.
    subst (λ (xs : List Command). IfOk served (λ x. IsServedScript problems new.view.seen ready.translation new.view.number key budget xs x)) asked
    (subst (λ (t : Translated). IfOk served (λ x. IsServedScript problems new.view.seen t new.view.number key budget c.commands.result.now x)) is (c.serve_session-served.ensures.served problems key budget base opened)))
    c.ok.ensures.value counted
