use Rattle.std.proofs.Common.{◌≡◌, ◌<◌, ◌+◌, ◌∙◌, subst, length, Contains, get_or, take}
use Rattle.std.proofs.lemmas.List.{get_or_default}
use Rattle.tuple_core.specs.Gains.{Same}
use Rattle.tuple_core.specs.Operators.{United}
use Rattle.tuple_core.specs.Rows.{Rows}
use Rattle.tuple_core.proofs.Congruence.{same_itself, same_then, United-same, rows_same, set_of_same}
use Rattle.rel_formula.specs.Instance.{InSome}
use Rattle.rel_formula.specs.Tables.{values_of}
use Rattle.rel_formula.proofs.Tabled.{some_more, no_rows}
use Rattle.rel_formula.proofs.tables.universe.Goals as goal

pub loop-top-preserved : goal.loop-top-preserved
loop-top-preserved c =
    let tops = c.args.tops.now in
    let i = c.loop-top.top-index in
    let x = get_or tops i 0 in
    let V = values_of c.args.tables.now in
    let l = c.loop-top-test.true in
    let in' : x < length c.args.tables.now = c.requires.there i 0 l in
    let table = c.index-tables-top.result in
    let is : table ≡ get_or c.args.tables.now x no_rows = c.index-tables-top.is ∙ get_or_default c.args.tables.now x table no_rows in' in
    let here : Same (Contains table.rows) (V x) = subst (λ (v : Rows). Same (Contains table.rows) (Contains v.rows)) is (same_itself (Contains table.rows)) in
    let grown : Same (United (Contains c.loop-top.universe.rows) (Contains table.rows)) (InSome (take (i + 1) tops) V) =
    same_then (United-same (rows_same c.loop-top.invariant) here) (some_more tops i x V l (get_or_default tops i 0 x l)) in
    set_of_same c.loop-top.invariant.arity_is grown c.in_ok-universe.ensures
