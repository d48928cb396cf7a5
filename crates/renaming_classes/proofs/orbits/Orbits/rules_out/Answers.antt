use Rattle.std.proofs.Common.{◌≡◌, ◌<◌, List, Bool, length, get_or, true, false, subst, arith}
use Rattle.rel_formula.specs.Bounds.{cells_of}
use Rattle.renaming_classes.proofs.Decided.{none_below, agree_more, only_best, best_in_all}
use Rattle.renaming_classes.proofs.orbits.Orbits.rules_out.Goals as goal

pub loop-number-init : goal.loop-number-init
loop-number-init c = none_below c.args.problem.now c.args.self.now c.args.scenario.now c.args.best.now

pub loop-number-preserved : goal.loop-number-preserved
loop-number-preserved c =
    let (k, at, free) = c.is_decided.ensures c.if-not-is_decided.false in
    let l : c.loop-number.number < length (cells_of c.args.problem.now) = let v = c.cells-number-end.ensures.value in let t = c.loop-number-test.true in omega arith in
    let flag = subst (λ (xs : List Bool). get_or xs k true ≡ false) c.deref.ensures.value free in
    agree_more c.args.problem.now c.relations.ensures.well c.requires.symmetric c.args.self.now c.args.scenario.now c.args.best.now c.loop-number.number k l ((c.leader.ensures k).0 at)
    (λ n m e. c.in_ok-mixed.ensures n k m e flag) c.has-here.result c.has.result c.has-here.ensures c.has.ensures c.loop-number.invariant c.if-here-has.false

pub returns-then-here-has : goal.returns-then-here-has
returns-then-here-has c = λ t.
    let (k, at, free) = c.is_decided.ensures c.if-not-is_decided.false in
    let l : c.loop-number.number < length (cells_of c.args.problem.now) = let v = c.cells-number-end.ensures.value in let t = c.loop-number-test.true in omega arith in
    let flag = subst (λ (xs : List Bool). get_or xs k true ≡ false) c.deref.ensures.value free in
    only_best c.args.problem.now c.relations.ensures.well c.requires.symmetric c.args.self.now c.args.scenario.now c.args.best.now c.loop-number.number k l ((c.leader.ensures k).0 at)
    (λ n m e. c.in_ok-mixed.ensures n k m e flag) c.has-here.result c.has.result c.has-here.ensures c.has.ensures c.loop-number.invariant c.if-here-has.true t

pub returns : goal.returns
returns c = λ t.
    best_in_all c.args.problem.now c.args.self.now c.args.scenario.now c.args.best.now c.loop-number.number (let v = c.cells-number-end.ensures.value in let t = c.loop-number-test.false in omega arith) c.loop-number.invariant
