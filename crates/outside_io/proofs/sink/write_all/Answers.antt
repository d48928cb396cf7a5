use Rattle.std.proofs.Common.{ℕ, arith, length-drop}
use Rattle.std.proofs.lemmas.List.{take_rest}
use Rattle.outside_io.proofs.Pieces.{written_more}
use Rattle.outside_io.proofs.sink.write_all.Goals as goal

pub loop-taken-preserved : goal.loop-taken-preserved
loop-taken-preserved g c = record {
  within = omega (arith, c.in_ok-taken.ensures.most, length-drop {A = ℕ});
  tells = (λ t. c.loop-taken.invariant.tells.0 (c.write.ensures.tells.0 t), λ t. c.write.ensures.tells.1 (c.loop-taken.invariant.tells.1 t));
  faults = omega (arith, c.write.ensures.faults);
  bytes = λ t. written_more _ _ _ _ _ _ _ (take_rest c.args.bytes.now c.loop-taken.taken) (c.loop-taken.invariant.bytes t) (c.in_ok-taken.ensures.bytes (c.loop-taken.invariant.tells.1 t));
}
