use Rattle.std.proofs.Common.{take, get_or}
use Rattle.std.proofs.lemmas.List.{get_or_default}
use Rattle.name_tables.proofs.Repeats.DeclaredMarks.{no_name, marks_in, repeated_here, not_here, marks_next, none_here}
use Rattle.name_tables.proofs.repeated_names.marks.first_of.Goals as goal

pub loop-each-preserved : goal.loop-each-preserved
loop-each-preserved c =
    let names = c.args.coded.now in
    let i = c.loop-each.each-index in
    let before = marks_in (take i names) in
    let item = get_or names i no_name in
    let is = get_or_default names i no_name item c.loop-each-test.true in
    record {
      marks_are = marks_next names i c.loop-each.marks.keys c.loop-each.invariant item c.loop-each-test.true is c.keep.new.marks.keys (c.in_ok-keep.ensures before c.loop-each.invariant.marks_are);
      told = not_here names i c.loop-each.marks.keys c.loop-each.invariant item c.loop-each-test.true is c.is_marked.result (c.is_marked.ensures before c.loop-each.invariant.marks_are) c.if-is_marked.false;
    }

pub returns-then-is_marked : goal.returns-then-is_marked
returns-then-is_marked c =
    let names = c.args.coded.now in
    let i = c.loop-each.each-index in
    let item = get_or names i no_name in
    repeated_here names i c.loop-each.marks.keys c.loop-each.invariant item c.loop-each-test.true (get_or_default names i no_name item c.loop-each-test.true)
    c.is_marked.result (c.is_marked.ensures (marks_in (take i names)) c.loop-each.invariant.marks_are) c.if-is_marked.true

pub returns : goal.returns
returns c = none_here c.args.coded.now c.loop-each.each-index c.loop-each.marks.keys c.loop-each.invariant c.loop-each-test.false
