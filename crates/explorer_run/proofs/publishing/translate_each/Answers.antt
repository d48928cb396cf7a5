use Rattle.std.proofs.Common.{sym, subst}
use Rattle.rel_formula.specs.Renaming.{IsSymmetric}
use Rattle.rel_terms.specs.Terms.{IsTranslatable}
use Rattle.explorer_run.specs.Served.{IsServable}
use Rattle.explorer_run.proofs.publishing.translate_each.Goals as goal

pub build-requires-clause-translatable : goal.build-requires-clause-translatable
build-requires-clause-translatable c =
    let servable = subst IsServable (sym c.problem-item.is) (c.requires c.loop-problem.problem-index c.problem-item.result c.loop-problem-test.true) in
    subst IsTranslatable (sym c.in_ok-copy.ensures) servable.translatable

pub build-requires-clause-symmetric : goal.build-requires-clause-symmetric
build-requires-clause-symmetric c =
    let servable = subst IsServable (sym c.problem-item.is) (c.requires c.loop-problem.problem-index c.problem-item.result c.loop-problem-test.true) in
    subst IsSymmetric (sym c.in_ok-copy.ensures) servable.symmetric
