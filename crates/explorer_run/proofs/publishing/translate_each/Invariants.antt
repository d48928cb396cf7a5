use Rattle.std.proofs.Common.{◌≡◌, map, take}
use Rattle.translation_rules.specs.Translation.{Translated}
use Rattle.explorer_run.specs.Served.{values_of}
use Rattle.explorer_run.proofs.publishing.translate_each.Given as goal

abbrev pub invariant-loop-problem : goal.invariant-loop-problem
invariant-loop-problem l = map (λ (t : Translated). t.problem) (values_of l.translations.items) ≡ take l.problem-index l.problems
