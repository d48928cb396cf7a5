use Rattle.std.proofs.Common.{◌≡◌, Option, Some, List, sym, ◌∙◌, ap, arith}
use Rattle.std.specs.Prelude.{slice_set}
use Rattle.std.proofs.lemmas.Grind.{common_steps}
use Rattle.std.proofs.lemmas.List.{map-set}
use Rattle.translation_rules.specs.Translation.{Translated}
use Rattle.translation_cache.specs.Published.{shown, first_of}
use Rattle.translation_cache.proofs.cache.Cache.publish.Goals as goal

pub returns-clause-kept : goal.returns-clause-kept
returns-clause-kept c =
    let first : first_of c.args.self.now c.args.key c.args.t.value ≡ c.args.t.value = grind (arith, common_steps) in
    map-set shown c.self.inside.kept.items c.args.key (Some c.args.t)
    ∙ ap (λ (xs : List (Option Translated)). slice_set xs c.args.key (Some c.args.t.value)) c.self.view_is
    ∙ ap (λ (t : Translated). slice_set c.args.self.now c.args.key (Some t)) (sym first)
