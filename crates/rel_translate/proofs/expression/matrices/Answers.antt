use Rattle.std.proofs.Common.{reverse}
use Rattle.bool_circuit.specs.Network.{size}
use Rattle.rel_formula.specs.View.{expression_tree}
use Rattle.rel_translate.specs.Makes.{TermsOf}
use Rattle.rel_translate.proofs.Spending.{room_left, room_right}
use Rattle.rel_translate.proofs.GrownCircuits.{ready_kept}
use Rattle.rel_translate.proofs.PlainMatrices.{both_made}
use Rattle.rel_translate.proofs.expression.matrices.Goals as goal

pub matrix-requires : goal.matrix-requires
matrix-requires c =
    let p = c.args.problem.now in
    let env = reverse c.args.env.now in
    record {
      ready = c.requires.ready;
      formed = c.requires.left;
      room = room_left (size c.args.circuit.now) (TermsOf p env (expression_tree c.args.a.now)) (TermsOf p env (expression_tree c.args.b.now)) c.requires.room;
    }

pub matrix-requires-2 : goal.matrix-requires-2
matrix-requires-2 c =
    let p = c.args.problem.now in
    let env = reverse c.args.env.now in
    let left = c.in_ok-left.ensures in
    record {
      ready = ready_kept left.spends.extends c.requires.ready;
      formed = c.requires.right;
      room = room_right (TermsOf p env (expression_tree c.args.b.now)) c.requires.room left.spends;
    }

pub returns : goal.returns
returns c = both_made c.in_ok-left.ensures c.in_ok-right.ensures
