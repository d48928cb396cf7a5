use Rattle.std.proofs.Common.{◌≡◌, ℕ, ◌<◌, ◌+◌, ◌∙◌, subst, sym, length, Contains, get_or, take, List}
use Rattle.std.proofs.lemmas.List.{get_or_default}
use Rattle.tuple_core.specs.Gains.{Same}
use Rattle.tuple_core.specs.Operators.{United}
use Rattle.tuple_core.specs.Rows.{IsSetOf}
use Rattle.tuple_core.proofs.Congruence.{same_itself, same_then, United-same, rows_same, set_of_same}
use Rattle.rel_formula.specs.declared.problem.Relation.{Relation}
use Rattle.rel_formula.specs.Bounds.{relation_at}
use Rattle.rel_formula.specs.Instance.{InSome}
use Rattle.rel_formula.proofs.Tabled.{some_more, no_relation}
use Rattle.rel_terms.specs.Upper.{InUpperSet}
use Rattle.rel_terms.proofs.formula.universe.Goals as goal

pub loop-top-preserved : goal.loop-top-preserved
loop-top-preserved c =
    let p = c.args.problem.now in
    let well = c.relations-relations.ensures.well in
    let i = c.loop-top.top-index in
    let tops = c.tops-top-items.result.now in
    let x = get_or tops i 0 in
    let V = InUpperSet p in
    let l = c.loop-top-test.true in
    let there : x < length p.relations = subst (λ (ts : List ℕ). (k : ℕ) → k < length ts → get_or ts k 0 < length p.relations) (sym c.tops-top-items.ensures) (λ k h. well.tops k 0 h) i l in
    let table = c.index-relations-top.result in
    let is : table ≡ relation_at p.relations x = subst (λ (rs : List Relation). table ≡ get_or rs x table) c.relations-relations.ensures.value c.index-relations-top.is ∙ get_or_default p.relations x table no_relation there in
    let here : Same (Contains table.upper.rows) (V x) = subst (λ (r : Relation). Same (Contains table.upper.rows) (Contains r.upper.rows)) is (same_itself (Contains table.upper.rows)) in
    let grown : Same (United (Contains c.loop-top.universe.rows) (Contains table.upper.rows)) (InSome (take (i + 1) tops) V) =
    same_then (United-same (rows_same c.loop-top.invariant) here) (some_more tops i x V l (get_or_default tops i 0 x l)) in
    set_of_same c.loop-top.invariant.arity_is grown
    (subst (λ (r : Relation). IsSetOf c.in_ok-universe.universe c.loop-top.universe.arity (United (Contains c.loop-top.universe.rows) (Contains r.upper.rows))) (sym c.index-relations-top.is) c.in_ok-universe.ensures)
