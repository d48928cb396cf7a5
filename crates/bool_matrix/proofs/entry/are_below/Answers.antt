use Rattle.std.proofs.Common.{◌<◌, refl, arith}
use Rattle.tuple_core.proofs.Steps.{all_step, all_done}
use Rattle.bool_matrix.proofs.entry.are_below.Goals as goal

pub loop-entry-preserved : goal.loop-entry-preserved
loop-entry-preserved c =
    all_step (λ e. e.node < c.args.len) c.args.entries.now c.loop-entry.entry-index c.entry-item.result c.loop-entry-test.true c.entry-item.is c.loop-entry.invariant (omega (arith, c.place.ensures, c.if-not-known.false))

pub returns : goal.returns
returns c = (λ e. all_done (λ e. e.node < c.args.len) c.args.entries.now c.loop-entry.entry-index c.loop-entry-test.false c.loop-entry.invariant, λ h. refl)
