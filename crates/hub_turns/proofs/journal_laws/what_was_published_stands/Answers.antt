use Rattle.std.proofs.Common.{sym, ◌∙◌, ap, subst}
use Rattle.std.specs.Prelude.{Some}
use Rattle.rel_formula.specs.Bounds.{Bounded}
use Rattle.translation_rules.specs.Translation.{StandsFor}
use Rattle.hub_state.specs.Journal.Noted.{Published}
use Rattle.hub_state.proofs.Journal.Prefixes.{at_place}
use Rattle.hub_turns.proofs.journal_laws.what_was_published_stands.Goals as goal

pub returns : goal.returns
returns c problems journal legal key t (by, (k, k_in, k_is)) =
    let publishes = at_place problems journal legal k (record { by = by; note = Published key t }) k_in k_is in
    (publishes.of_key ∙ ap Some (sym publishes.stands.problem), subst (λ (p : Bounded). StandsFor p t) (sym publishes.stands.problem) publishes.stands)
