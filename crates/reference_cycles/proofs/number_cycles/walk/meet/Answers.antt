use Rattle.std.proofs.Common.{take, get_or, ap, subst, refl, sym}
use Rattle.std.proofs.lemmas.List.{take_all, get_or_default}
use Rattle.reference_cycles.specs.Cycles.Marks.{Meets}
use Rattle.reference_cycles.proofs.Cycles.NumbersMet.{none_met, one_met}
use Rattle.reference_cycles.proofs.number_cycles.walk.meet.Goals as goal

pub loop-number-init : goal.loop-number-init
loop-number-init c = none_met c.args.count c.args.met.now.keys

pub loop-number-preserved : goal.loop-number-preserved
loop-number-preserved c =
    one_met c.args.count c.args.met.now.keys c.args.row.now c.loop-number.number-index (get_or c.args.row.now c.loop-number.number-index 0) c.loop-number.met.keys c.loop-number.invariant c.loop-number-test.true (get_or_default c.args.row.now c.loop-number.number-index 0 (get_or c.args.row.now c.loop-number.number-index 0) c.loop-number-test.true) c.meet_one.new.met.keys c.in_ok-meet_one.ensures

pub returns : goal.returns
returns c = subst (λ row. Meets c.args.count c.args.met.now.keys row c.loop-number.met.keys) (take_all c.loop-number.number-index c.args.row.now c.loop-number-test.false) c.loop-number.invariant
