use Rattle.std.proofs.Common.{◌+◌, ◌-◌, subst, arith, Contains, List, ◌↔◌}
use Rattle.tuple_core.specs.declared.atom.Atom.{Atom}
use Rattle.tuple_core.specs.Operators.{Pred, JoinsTo, Joined, BeginsWith}
use Rattle.tuple_core.specs.Gains.{SomeGives}
use Rattle.tuple_core.proofs.Steps.{set_more, set_same, set_all, set_from_gains, join_gives, row_arity}
use Rattle.rel_terms.proofs.Starting.{joins_starting, long_starting}
use Rattle.rel_terms.proofs.pairs.joins.Goals as goal

pub add_joins-requires-clause-low : goal.add_joins-requires-clause-low
add_joins-requires-clause-low c =
    let long = long_starting c.args.right.now c.last.result c.rows-rights.result.now c.starting.result.now c.rows-rights.ensures.well c.rows-rights.ensures.value c.starting.ensures.just in
    let here = row_arity c.rows-row-items.result.now c.args.left.now c.loop-row.row-index c.row-item.result c.rows-row-items.ensures.value c.rows-row-items.ensures.well c.loop-row-test.true c.row-item.is in
    let low = c.requires.low in
    λ k d q. let e = long k d q in omega arith

pub add_joins-requires-clause-high : goal.add_joins-requires-clause-high
add_joins-requires-clause-high c =
    let long = long_starting c.args.right.now c.last.result c.rows-rights.result.now c.starting.result.now c.rows-rights.ensures.well c.rows-rights.ensures.value c.starting.ensures.just in
    let here = row_arity c.rows-row-items.result.now c.args.left.now c.loop-row.row-index c.row-item.result c.rows-row-items.ensures.value c.rows-row-items.ensures.well c.loop-row-test.true c.row-item.is in
    let high = c.requires.high in
    λ k d q. let e = long k d q in omega arith

pub add_joins-requires-clause-arities : goal.add_joins-requires-clause-arities
add_joins-requires-clause-arities c =
    let long = long_starting c.args.right.now c.last.result c.rows-rights.result.now c.starting.result.now c.rows-rights.ensures.well c.rows-rights.ensures.value c.starting.ensures.just in
    let here = row_arity c.rows-row-items.result.now c.args.left.now c.loop-row.row-index c.row-item.result c.rows-row-items.ensures.value c.rows-row-items.ensures.well c.loop-row-test.true c.row-item.is in
    let low = c.requires.low in
    let kept = c.loop-row.invariant.arity in
    let new = c.new-out.ensures.arity in
    let l = c.arity.ensures.value in
    let r = c.arity-2.ensures.value in
    λ k d q. let e = long k d q in omega arith

pub loop-row-preserved : goal.loop-row-preserved
loop-row-preserved c =
    let rights = c.args.right.now.rows in
    let ss = c.starting.result.now in
    let m = c.last.result in
    let just : (t : List Atom) → Contains ss t ↔ (Contains rights t × BeginsWith m t) =
    subst (λ (zs : List (List Atom)). (t : List Atom) → Contains ss t ↔ (Contains zs t × BeginsWith m t)) c.rows-rights.ensures.value c.starting.ensures.just in
    set_more c.rows-row-items.result.now c.loop-row.row-index c.row-item.result (λ left t. SomeGives rights (λ r u. JoinsTo left r u) t) c.new-out.result c.loop-row.out c.add_joins.new.out c.loop-row-test.true c.row-item.is c.loop-row.invariant
    (set_same c.loop-row.out c.add_joins.new.out (SomeGives ss (λ r t. JoinsTo c.row-item.result r t)) (SomeGives rights (λ r t. JoinsTo c.row-item.result r t)) (joins_starting c.row-item.result m rights ss c.last.ensures just) c.in_ok-add_joins.ensures)

pub returns : goal.returns
returns c =
    let xs : List (List Atom) = c.rows-row-items.result.now in
    let R : List Atom → Pred = λ left t. SomeGives c.args.right.now.rows (λ r u. JoinsTo left r u) t in
    set_from_gains c.new-out.result c.loop-row.out (c.args.left.now.arity + c.args.right.now.arity - 2) (SomeGives xs R) (Joined (Contains c.args.left.now.rows) (Contains c.args.right.now.rows))
    c.new-out.ensures.rows (let a = c.arity.ensures.value in let b = c.arity-2.ensures.value in let e = c.new-out.ensures.arity in omega arith)
    (set_all xs c.loop-row.row-index R c.new-out.result c.loop-row.out (omega arith) c.loop-row.invariant)
    (join_gives xs c.args.right.now.rows c.args.left.now.rows c.rows-row-items.ensures.value)
