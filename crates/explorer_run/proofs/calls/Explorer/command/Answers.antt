use Rattle.std.proofs.Common.{◌≡◌, ◌+◌, ℕ, get_or, sym, ◌∙◌, subst}
use Rattle.translation_rules.specs.Translation.{Translated}
use Rattle.script_format.specs.Reading.{asks}
use Rattle.session_turns.specs.Seated.{IsSeated}
use Rattle.explorer_run.proofs.Seating.{same_translation}
use Rattle.explorer_run.proofs.calls.Explorer.command.Goals as goal

pub returns-clause-seated : goal.returns-clause-seated
returns-clause-seated g c t shown at seated =
    let ts = c.args.self.now.translations.items in
    let key = c.args.session.now.key in
    let item = c.index-translation.result.now in
    let there = subst (λ (k : ℕ). item ≡ get_or ts k item) c.key.ensures c.index-translation.ensures in
    let is = c.deref.ensures ∙ same_translation ts key item t at there in
    subst (λ (u : Translated). IsSeated c.args.self.now.lock u (shown + asks c.args.command.now) c.command.new.pass c.command.new.session) is
    (c.command.ensures.seated shown (subst (λ (u : Translated). IsSeated c.args.self.now.lock u shown c.args.pass.now c.args.session.now) (sym is) seated))
