use Rattle.std.proofs.Common.{◌≡◌, None, Some}
use Rattle.session_state.proofs.Tuples.Rows.{is_fixed}
use Rattle.session_state.proofs.tuple_names.naming.what_is_named.Goals as goal

pub returns-in-None-number_of : goal.returns-in-None-number_of
returns-in-None-number_of c =
    let cell = c.in-Some.cell in
    let named = c.in-Some.ensures in (
      cell.relation,
      cell.tuple,
      named,
      is_fixed c.args.problem.now c.args.relation.now c.args.names.now cell.relation cell.tuple named (λ n at. let e : None ≡ Some n = (c.in-None-number_of.ensures n).1 at in absurd cc),
    )
