use Rattle.std.proofs.Common.{length, ap, arith}
use Rattle.std.proofs.lemmas.List.{length_push}
use Rattle.rel_translate.proofs.Tabled.{relations_push}
use Rattle.rel_translate.proofs.tables.all_relations.Goals as goal

pub loop-number-preserved : goal.loop-number-preserved
loop-number-preserved c =
    let inv = c.loop-number.invariant in
    record {
      count = let e = ap length c.in_ok-push.ensures.items in let f = length_push c.loop-number.matrices.items c.in_ok-matrix.matrix in let m = inv.count in omega arith;
      each = λ network leaves. relations_push network c.args.problem.now c.loop-number.matrices.items c.push.new.self.items c.loop-number.number c.in_ok-matrix.matrix inv.count c.in_ok-push.ensures.items (c.in_ok-matrix.ensures network leaves) (inv.each network leaves);
    }
