use Rattle.std.proofs.Common.{◌≡◌, ◌+◌, ◌++◌, ◌∙◌, ap, sym, length, length-append, subst, arith}
use Rattle.tuple_core.specs.Rows.{SetGains}
use Rattle.tuple_core.proofs.Steps.{all_at, set_more, set_all}
use Rattle.tuple_core.proofs.tuple_set.TupleSet.add_products.Goals as goal

pub insert-requires : goal.insert-requires
insert-requires c =
    ap length c.product.ensures ∙ length-append c.args.left.now c.right-item.result
    ∙ all_at (λ r. length c.args.left.now + length r ≡ c.args.self.now.arity) c.args.rights.now c.loop-right.right-index c.right-item.result c.requires.arities c.loop-right-test.true c.right-item.is
    ∙ sym c.loop-right.invariant.arity

pub loop-right-preserved : goal.loop-right-preserved
loop-right-preserved c =
    set_more c.args.rights.now c.loop-right.right-index c.right-item.result (λ r t. t ≡ c.args.left.now ++ r) c.args.self.now c.loop-right.self c.insert.new.self c.loop-right-test.true c.right-item.is c.loop-right.invariant
    (subst (λ x. SetGains c.loop-right.self c.insert.new.self (λ t. t ≡ x)) c.product.ensures c.in_ok-insert.ensures.gains)

pub returns : goal.returns
returns c = set_all c.args.rights.now c.loop-right.right-index (λ r t. t ≡ c.args.left.now ++ r) c.args.self.now c.loop-right.self (omega arith) c.loop-right.invariant
