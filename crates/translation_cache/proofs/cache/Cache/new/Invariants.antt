use Rattle.std.proofs.Common.{◌≡◌, None, map, replicate}
use Rattle.translation_cache.specs.Published.{shown}
use Rattle.translation_cache.proofs.cache.Cache.new.Given as goal

abbrev pub invariant-loop-key : goal.invariant-loop-key
invariant-loop-key l = map shown l.kept.items ≡ replicate l.key None
