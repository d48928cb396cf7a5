use Rattle.std.proofs.Common.{◌≡◌, inl, refl, sym, subst}
use Rattle.rel_formula.specs.Kernel.{conjunction, no_formulas}
use Rattle.rel_terms.specs.Terms.{IsTranslatable}
use Rattle.translation_cache.proofs.BareProblems.{is_translatable}
use Rattle.hub_tests.proofs.of_hub_state.translated.Goals as goal

pub build-requires-clause-translatable : goal.build-requires-clause-translatable
build-requires-clause-translatable c = subst IsTranslatable (sym c.in_ok-always.ensures) (is_translatable (conjunction no_formulas) (inl refl))
