use Rattle.std.proofs.Common.{◌+◌, ◌-◌, subst, arith, Contains, List}
use Rattle.tuple_core.specs.declared.atom.Atom.{Atom}
use Rattle.tuple_core.specs.Operators.{Pred, JoinsTo, Joined}
use Rattle.tuple_core.specs.Gains.{SomeGives}
use Rattle.tuple_core.specs.Rows.{SetGains}
use Rattle.tuple_core.proofs.Steps.{set_more, set_all, set_from_gains, join_gives}
use Rattle.tuple_core.proofs.tuple_set.TupleSet.join.Goals as goal

pub loop-left-preserved : goal.loop-left-preserved
loop-left-preserved c =
    set_more c.rows-left-items.result.now c.loop-left.left-index c.left-item.result (λ left t. SomeGives c.args.other.now.rows (λ r u. JoinsTo left r u) t) c.new-out.result c.loop-left.out c.add_joins.new.self c.loop-left-test.true c.left-item.is c.loop-left.invariant
    (subst (λ zs. SetGains c.loop-left.out c.add_joins.new.self (SomeGives zs (λ r t. JoinsTo c.left-item.result r t))) c.rows.ensures.value c.in_ok-add_joins.ensures)

pub returns : goal.returns
returns c =
    let xs : List (List Atom) = c.rows-left-items.result.now in
    let R : List Atom → Pred = λ left t. SomeGives c.args.other.now.rows (λ r u. JoinsTo left r u) t in
    set_from_gains c.new-out.result c.loop-left.out (c.args.self.now.arity + c.args.other.now.arity - 2) (SomeGives xs R) (Joined (Contains c.args.self.now.rows) (Contains c.args.other.now.rows))
    c.new-out.ensures.rows (let a = c.arity.ensures.value in let b = c.arity-2.ensures.value in let e = c.new-out.ensures.arity in omega arith)
    (set_all xs c.loop-left.left-index R c.new-out.result c.loop-left.out (omega arith) c.loop-left.invariant)
    (join_gives xs c.args.other.now.rows c.args.self.now.rows c.rows-left-items.ensures.value)
