use Rattle.std.proofs.Common.{◌≡◌, ◌==◌, false, subst, ap, ◌∙◌, map, refl}
use Rattle.named_model.specs.Phrase as phrase
use Rattle.named_model.specs.View as seen
use Rattle.sig_resolve.proofs.Bodies.SeenPaths.{path_seen}
use Rattle.sig_resolve.proofs.Bodies.Steps.{path_some}
use Rattle.sig_resolve.proofs.body_names.signs.path_of.Goals as goal

pub returns : goal.returns
returns c =
    let steps = phrase.steps_of (map seen.step_view c.args.steps.items) in
    (refl, path_seen c.in_ok-new.field-0 c.args.steps ∙ ap (λ h. phrase.path (seen.phrase_view h) steps) c.in_ok-new.ensures.ok ∙ path_some (seen.phrase_view c.args.head) c.args.steps.items (subst (λ n. false ≡ (n == 0)) c.args.steps.ok.0 c.if-is_empty.ensures))
