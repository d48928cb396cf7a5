use Rattle.std.proofs.Common.{◌≡◌, ◌∙◌, ap, sym, length, subst, arith, Contains}
use Rattle.tuple_core.specs.Gains.{SomeGives}
use Rattle.tuple_core.specs.Rows.{SetGains}
use Rattle.tuple_core.proofs.Steps.{all_at, same_gives, set_more, set_all, set_same}
use Rattle.rel_lower.proofs.field_bounds.products.add_rows.Goals as goal

pub insert-requires : goal.insert-requires
insert-requires c =
    ap length c.copy.ensures ∙ all_at (λ t. length t ≡ c.args.set.now.arity) c.args.rows.now c.loop-row.row-index c.row-item.result c.requires c.loop-row-test.true c.row-item.is ∙ sym c.loop-row.invariant.arity

pub loop-row-preserved : goal.loop-row-preserved
loop-row-preserved c =
    set_more c.args.rows.now c.loop-row.row-index c.row-item.result (λ x t. t ≡ x) c.args.set.now c.loop-row.set c.insert.new.self c.loop-row-test.true c.row-item.is c.loop-row.invariant
    (subst (λ x. SetGains c.loop-row.set c.insert.new.self (λ t. t ≡ x)) c.copy.ensures c.in_ok-insert.ensures.gains)

pub returns : goal.returns
returns c =
    set_same c.args.set.now c.loop-row.set (SomeGives c.args.rows.now (λ x t. t ≡ x)) (Contains c.args.rows.now) (same_gives c.args.rows.now)
    (set_all c.args.rows.now c.loop-row.row-index (λ x t. t ≡ x) c.args.set.now c.loop-row.set (omega arith) c.loop-row.invariant)
