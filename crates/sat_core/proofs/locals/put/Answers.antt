use Rattle.std.proofs.Common.{arith}
use Rattle.sat_core.proofs.Numbers.{put_unit, put_other}
use Rattle.sat_core.proofs.locals.put.Goals as goal

pub returns-then-lits-eq1-clause-split : goal.returns-then-lits-eq1-clause-split
returns-then-lits-eq1-clause-split c = λ local long s.
    put_unit local c.args.assumed.now.items c.args.others.now.items c.args.places.now.items s c.args.clause.now c.lits-lits.result.now _ _ c.lits-lits.ensures.lits (omega (arith, c.if-lits-eq1.true)) c.in_ok-push.ensures.items

pub returns-clause-split : goal.returns-clause-split
returns-clause-split c = λ local long s.
    put_other local c.args.assumed.now.items c.args.others.now.items c.args.places.now.items s c.args.clause.now c.lits-lits.result.now c.args.place _ _ _ c.lits-lits.ensures.lits (λ e. omega (arith, e, c.if-lits-eq1.false)) long c.in_ok-copy.ensures c.in_ok-push-2.ensures.items c.in_ok-push-3.ensures.items
