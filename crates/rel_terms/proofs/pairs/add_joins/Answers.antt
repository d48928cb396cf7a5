use Rattle.std.proofs.Common.{◌≡◌, ◌+◌, length, take, refl, subst, sym, arith}
use Rattle.tuple_core.specs.Operators.{JoinsTo}
use Rattle.tuple_core.specs.Gains.{SomeGives}
use Rattle.tuple_core.specs.Rows.{Rows, SetGains}
use Rattle.tuple_core.proofs.Atoms.{JoinsTo-length, same_some}
use Rattle.tuple_core.proofs.Steps.{all_at, set_more, set_skip, set_all, set_same}
use Rattle.rel_terms.proofs.pairs.add_joins.Goals.{in-Some+in_ok-insert, in_default}
use Rattle.rel_terms.proofs.pairs.add_joins.Goals as goal

pub insert-requires : goal.insert-requires
insert-requires c =
    let joins = JoinsTo-length c.args.left.now c.right-item.result c.in-Some.joined ((c.in-Some.ensures c.in-Some.joined).0 refl) in
    let fits = all_at (λ r. length c.args.left.now + length r ≡ c.args.out.now.arity + 2) c.args.rights.now c.loop-right.right-index c.right-item.result c.requires.arities c.loop-right-test.true c.right-item.is in
    let kept = c.loop-right.invariant.arity in
    omega arith

pub loop-right-preserved : goal.loop-right-preserved
loop-right-preserved c =
    let G : Rows → Type 0 = λ s. SetGains c.args.out.now s (SomeGives (take (c.loop-right.right-index + 1) c.args.rights.now) (λ r t. JoinsTo c.args.left.now r t)) in
    elim c.match-join.branch [
      | in-Some+in_ok-insert w ↦ subst G (sym w.out-is)
          (set_more c.args.rights.now c.loop-right.right-index c.right-item.result (λ r t. JoinsTo c.args.left.now r t) c.args.out.now c.loop-right.out w.insert.new.self c.loop-right-test.true c.right-item.is c.loop-right.invariant
          (set_same c.loop-right.out w.insert.new.self (λ t. t ≡ w.in-Some.joined) (JoinsTo c.args.left.now c.right-item.result)
          (record { to = λ t e. (w.in-Some.ensures t).0 ((same_some w.in-Some.joined t).0 e); back = λ t j. (same_some w.in-Some.joined t).1 ((w.in-Some.ensures t).1 j) }) w.in_ok-insert.ensures.gains))
      | in_default w ↦ subst G (sym w.out-is)
          (set_skip c.args.rights.now c.loop-right.right-index c.right-item.result (λ r t. JoinsTo c.args.left.now r t) c.args.out.now c.loop-right.out c.loop-right-test.true c.right-item.is c.loop-right.invariant
          (λ t j. w.in_default.not-Some t ((c.join.ensures t).1 j)))
    ]

pub returns : goal.returns
returns c = set_all c.args.rights.now c.loop-right.right-index (λ r t. JoinsTo c.args.left.now r t) c.args.out.now c.loop-right.out (omega arith) c.loop-right.invariant
