use Rattle.std.proofs.Common.{codes}
use Rattle.tuple_core.specs.declared.atom.Atom.{Atom}
use Rattle.script_text.specs.Lines.{atom_text}
use Rattle.script_text.proofs.Separated.{piece_written}
use Rattle.script_text.proofs.relation_lines.push_tuple.Goals as goal

pub loop-place-preserved : goal.loop-place-preserved
loop-place-preserved c =
    let none : Atom = record { top = 0; place = 0 } in
    piece_written (codes "->") (atom_text c.args.problem.now) c.args.atoms.now c.loop-place.place none c.args.out.now.items c.loop-place.out.items c.push_between.new.out.items c.push_atom.new.out.items
    c.loop-place-test.true c.loop-place.invariant c.in_ok-push_between.ensures c.in_ok-push_atom.ensures
