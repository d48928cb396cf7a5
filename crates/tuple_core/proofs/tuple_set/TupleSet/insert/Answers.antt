use Rattle.std.proofs.Common.{◌≡◌, refl, sym, ◌∙◌, ap, subst, Contains}
use Rattle.tuple_core.specs.Gains.{Gains}
use Rattle.tuple_core.specs.Rows.{Rows}
use Rattle.tuple_core.proofs.Ascending.{rows_inserted}
use Rattle.tuple_core.proofs.tuple_set.TupleSet.insert.Goals as goal

pub invariant_of-self-2 : goal.invariant_of-self-2
invariant_of-self-2 c =
    let old : Rows = record { arity = c.self.inside.arity; rows = c.self.inside.tuples.items } in
    let new : Rows = record { arity = c.self.inside.arity; rows = c.insert_row.new.rows.items } in
    rows_inserted old new c.args.tuple refl c.self.invariant c.in_ok-is_new.ensures.gains c.in_ok-is_new.ensures.ascending
    (c.requires ∙ ap (λ (r : Rows). r.arity) (sym c.self.view_is))

pub returns-clause-gains : goal.returns-clause-gains
returns-clause-gains c = record {
  arity = ap (λ (r : Rows). r.arity) c.self.view_is;
  rows = subst (λ (r : Rows). Gains (Contains r.rows) (Contains c.insert_row.new.rows.items) (λ t. t ≡ c.args.tuple)) c.self.view_is c.in_ok-is_new.ensures.gains;
}
