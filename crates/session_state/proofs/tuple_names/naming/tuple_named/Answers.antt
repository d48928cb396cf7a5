use Rattle.std.proofs.Common.{◌<◌, List, Contains, length, sym, subst, arith}
use Rattle.rel_formula.specs.declared.problem.Relation.{Relation}
use Rattle.session_state.proofs.Tuples.Rows.{tops_known}
use Rattle.session_state.proofs.tuple_names.naming.tuple_named.Goals as goal

pub tuple_in-requires : goal.tuple_in-requires
tuple_in-requires c =
    let items : List Relation = c.relations-candidate-items.result.now in
    let candidate : Relation = c.candidate-item.result in
    let there : Contains items candidate = (c.loop-number.number, c.loop-number-test.true, sym c.candidate-item.is) in
    tops_known c.args.problem.now c.relations-candidate-items.ensures.well candidate (subst (λ (rs : List Relation). Contains rs candidate) c.relations-candidate-items.ensures.value there)
