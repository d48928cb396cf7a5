use Rattle.std.proofs.Common.{◌↔◌, IsTrue, Contains, sym, subst}
use Rattle.tuple_core.proofs.Ascending.{searched}
use Rattle.tuple_core.proofs.tuple_set.contains_row.Goals as goal

pub returns : goal.returns
returns c =
    subst (λ b. IsTrue b ↔ Contains c.args.rows.now c.args.tuple.now) (sym c.is_ok.ensures.value)
    (searched c.args.rows.now c.args.tuple.now c.binary_search.result c.requires c.binary_search.ensures.bound c.binary_search.ensures.ok c.binary_search.ensures.position)
