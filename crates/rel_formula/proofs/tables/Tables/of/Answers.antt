use Rattle.std.proofs.Common.{◌≡◌, ◌<◌, List, All, Contains, length, get_or, refl, sym, subst}
use Rattle.tuple_core.specs.Rows.{Rows, IsSetOf}
use Rattle.tuple_core.proofs.Congruence.{set_of_same}
use Rattle.rel_formula.specs.Instance.{InSome}
use Rattle.rel_formula.specs.Tables.{values_of}
use Rattle.rel_formula.proofs.ScenarioTruth.{tops_there, tops_unary, some_same}
use Rattle.rel_formula.proofs.tables.Tables.of.Goals as goal

pub universe-requires-clause-there : goal.universe-requires-clause-there
universe-requires-clause-there c =
    let p = c.args.problem.now in
    let are = c.in_ok-values.ensures in
    let there : All (λ r. r < length c.deref.result.now) p.tops = subst (λ (zs : List Rows). All (λ r. r < length zs) p.tops) (sym c.deref.ensures.value) (tops_there p c.args.scenario.now c.in_ok-values.values.items are.well are.tables) in
    subst (All (λ r. r < length c.deref.result.now)) (sym c.tops.ensures) there

pub universe-requires-clause-unary : goal.universe-requires-clause-unary
universe-requires-clause-unary c = λ r d has.
    let p = c.args.problem.now in
    let are = c.in_ok-values.ensures in
    subst (λ (zs : List Rows). (get_or zs r d).arity ≡ 1) (sym c.deref.ensures.value)
    (tops_unary p c.args.scenario.now c.in_ok-values.values.items are.well are.tables r d (subst (λ ts. Contains ts r) c.tops.ensures has))

pub returns : goal.returns
returns c =
    let p = c.args.problem.now in
    let u = c.in_ok-universe.universe in
    let are = c.in_ok-values.ensures in
    let vs = c.in_ok-values.values.items in
    let tops = subst (λ ts. IsSetOf u 1 (InSome ts (values_of c.deref.result.now))) c.tops.ensures c.in_ok-universe.ensures in
    let set = subst (λ (zs : List Rows). IsSetOf u 1 (InSome p.tops (values_of zs))) c.deref.ensures.value tops in
    record { values = are.tables; universe = set_of_same refl (some_same p c.args.scenario.now vs are.well are.tables) set }
