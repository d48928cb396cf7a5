use Rattle.std.proofs.Common.{◌≡◌, ◌∙◌, ap, sym, length, subst, arith}
use Rattle.tuple_core.specs.Rows.{SetGains}
use Rattle.tuple_core.proofs.Steps.{all_at, set_more, set_all, grown, unchanged}
use Rattle.tuple_core.proofs.tuple_set.TupleSet.add_all.Goals as goal

pub insert-requires : goal.insert-requires
insert-requires c =
    ap length c.copy.ensures ∙ all_at (λ t. length t ≡ c.args.self.now.arity) c.args.rows.now c.loop-row.row-index c.row-item.result c.requires c.loop-row-test.true c.row-item.is ∙ sym c.loop-row.invariant.gains.arity

pub loop-row-preserved : goal.loop-row-preserved
loop-row-preserved c = record {
  gains = set_more c.args.rows.now c.loop-row.row-index c.row-item.result (λ x t. t ≡ x) c.args.self.now c.loop-row.self c.insert.new.self c.loop-row-test.true c.row-item.is c.loop-row.invariant.gains
      (subst (λ x. SetGains c.loop-row.self c.insert.new.self (λ t. t ≡ x)) c.copy.ensures c.in_ok-insert.ensures.gains);
  grows = grown c.in_ok-insert.field-0 c.args.self.now c.loop-row.self c.insert.new.self c.loop-row.invariant.grows c.in_ok-insert.ensures.len;
  same = unchanged c.in_ok-insert.field-0 c.args.self.now c.loop-row.self c.insert.new.self c.loop-row.invariant.grows c.in_ok-insert.ensures.len c.loop-row.invariant.same c.in_ok-insert.ensures.same;
}

pub returns-clause-gains : goal.returns-clause-gains
returns-clause-gains c = set_all c.args.rows.now c.loop-row.row-index (λ x t. t ≡ x) c.args.self.now c.loop-row.self (omega arith) c.loop-row.invariant.gains
