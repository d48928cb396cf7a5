use Rattle.std.proofs.Common.{◌∙◌, ◌++◌, List, codes, ap}
use Rattle.tuple_core.specs.declared.atom.Atom.{Atom}
use Rattle.script_text.specs.Lines.{tuple_text}
use Rattle.script_text.proofs.Separated.{piece_written}
use Rattle.script_text.proofs.relation_lines.push_rows.Goals as goal

pub loop-place-preserved : goal.loop-place-preserved
loop-place-preserved c =
    let x : List Atom = c.index-rows-place.result in
    piece_written (codes ", ") (tuple_text c.args.problem.now) c.args.rows.now c.loop-place.place x c.args.out.now.items c.loop-place.out.items c.push_between.new.out.items c.push_tuple.new.out.items
    c.loop-place-test.true c.loop-place.invariant c.in_ok-push_between.ensures
    (c.in_ok-push_tuple.ensures ∙ ap (λ t. c.push_between.new.out.items ++ tuple_text c.args.problem.now t) (c.atoms.ensures.value ∙ c.index-rows-place.is))
