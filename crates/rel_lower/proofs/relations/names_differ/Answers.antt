use Rattle.rel_lower.proofs.NamesApart.{apart_more, none_before, apart_all}
use Rattle.rel_lower.proofs.relations.names_differ.Goals as goal

pub returns-then-has_name-clause-same : goal.returns-then-has_name-clause-same
returns-then-has_name-clause-same c = λ e all.
    c.has_name.ensures.some c.if-has_name.true
    (none_before c.args.relations.now c.loop-later.later c.index-relations-later.result c.loop-later-test.true all)

pub loop-later-preserved : goal.loop-later-preserved
loop-later-preserved c =
    apart_more c.args.relations.now c.loop-later.later c.index-relations-later.result c.loop-later-test.true c.loop-later.invariant (c.has_name.ensures.none c.if-has_name.false)

pub returns-clause-differ : goal.returns-clause-differ
returns-clause-differ c = λ e. apart_all c.args.relations.now c.loop-later.later c.loop-later-test.false c.loop-later.invariant
