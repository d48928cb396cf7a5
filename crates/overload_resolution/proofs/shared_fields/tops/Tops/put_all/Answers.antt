use Rattle.std.proofs.Common.{arith}
use Rattle.overload_resolution.proofs.Fields.Unions.{numbers_are}
use Rattle.overload_resolution.proofs.shared_fields.tops.Tops.put_all.Goals as goal

pub returns : goal.returns
returns c = numbers_are c.args.numbers.now c.loop-number.number-index c.args.self.now c.loop-number.self (omega arith) c.loop-number.invariant
