use Rattle.std.proofs.Common.{◌≡◌, ◌∙◌, ◌∷◌, [], List, Some, refl, sym, ap, subst}
use Rattle.std.specs.Prelude.{slice_get}
use mathlib.Core.List.{IsPrefix}
use Rattle.refutation_check.specs.declared.log.Step.{Step as LogStep}
use Rattle.rel_formula.specs.Bounds.{Bounded}
use Rattle.hub_state.specs.Journal.Journal.{pool_of}
use Rattle.hub_state.specs.HubView.{HubView}
use Rattle.hub_tests.proofs.Bottom.{always}
use Rattle.hub_tests.proofs.of_hub_state.import_three_times.Goals as goal

at_first : (problems : List Bounded) (p : Bounded) → problems ≡ always ∷ [] → p ≡ always → slice_get problems 0 ≡ Some p
at_first problems p is same = ap (λ (ps : List Bounded). slice_get ps 0) is ∙ ap Some (sym same)

pub share_and_import-requires-clause-problem : goal.share_and_import-requires-clause-problem
share_and_import-requires-clause-problem c =
    at_first c.args.hub.now.problems c.in_ok-translated.field-0.value.problem (ap (λ (h : HubView). h.problems) c.requires) c.in_ok-translated.ensures

pub share_and_import-requires-clause-begins : goal.share_and_import-requires-clause-begins
share_and_import-requires-clause-begins c =
    let pool = pool_of 0 c.args.hub.now.journal in
    subst (λ (xs : List LogStep). IsPrefix xs pool) (sym c.new-have.ensures) (pool, refl)
