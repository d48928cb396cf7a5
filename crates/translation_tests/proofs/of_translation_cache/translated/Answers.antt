use Rattle.std.proofs.Common.{◌≡◌, ℕ, List, [], sym, ◌∙◌, ap, subst}
use Rattle.rel_formula.specs.declared.problem.Relation.{Relation}
use Rattle.rel_formula.specs.Kernel.{FormulaTree}
use Rattle.rel_formula.specs.View.{formula_tree}
use Rattle.rel_terms.specs.Terms.{IsTranslatable}
use Rattle.translation_cache.proofs.BareProblems.{made_of, is_translatable}
use Rattle.translation_tests.proofs.of_translation_cache.translated.Goals as goal

pub build-requires-clause-translatable : goal.build-requires-clause-translatable
build-requires-clause-translatable c =
    let f : FormulaTree = formula_tree c.constant-formula.result in
    let same = c.in_ok-problem.ensures ∙ ap (λ (rs : List Relation). made_of rs c.new-2.result.items f) c.new.ensures.items ∙ ap (λ (ts : List ℕ). made_of [] ts f) c.new-2.ensures.items in
    subst IsTranslatable (sym same) (is_translatable f c.constant-formula.ensures)
