use Rattle.std.proofs.Common.{◌≡◌, ◌∙◌, ap, map, replicate, Option, None, [], ◌∷◌, ◌++◌, List}
use Rattle.std.proofs.lemmas.List.{map-append, replicate_more}
use Rattle.translation_rules.specs.Translation.{Translated}
use Rattle.translation_cache.specs.Published.{shown}
use Rattle.translation_cache.proofs.cache.Cache.new.Goals as goal

pub loop-key-preserved : goal.loop-key-preserved
loop-key-preserved c =
    ap (map shown) c.in_ok-push.ensures.items ∙ map-append shown c.loop-key.kept.items (None ∷ [])
    ∙ ap (λ (xs : List (Option Translated)). xs ++ None ∷ []) c.loop-key.invariant ∙ replicate_more c.loop-key.key None
