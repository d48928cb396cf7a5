use Rattle.std.proofs.Common.{List, sym, ◌∙◌, ap, subst}
use Rattle.hub_lock.specs.declared.view.View.{View}
use Rattle.rel_formula.specs.Bounds.{Bounded}
use Rattle.translation_rules.specs.Translation.{Translated}
use Rattle.hub_state.specs.Journal.Noted.{Noted}
use Rattle.hub_state.specs.Journal.Journal.{IsPublished}
use Rattle.hub_turns.proofs.Onward.{same_number}
use Rattle.hub_tests.proofs.of_whole_sessions.publish_and_serve_two.Goals as goal

pub serve_two-first-requires-clause-first : goal.serve_two-first-requires-clause-first
serve_two-first-requires-clause-first g c =
    let went = c.in_ok-kept.ensures.goes in
    (same_number c.args.lock.now c.args.root.now c.publish.new.pass went ∙ c.requires.first.0, ap (λ (v : View Noted (List Bounded)). v.made) went.same ∙ c.requires.first.1)

pub serve_two-first-requires-clause-published : goal.serve_two-first-requires-clause-published
serve_two-first-requires-clause-published g c = subst (λ (t : Translated). IsPublished c.publish.new.pass.view.seen 0 t) (sym c.deref.ensures) c.in_ok-kept.ensures.kept
