use Rattle.std.proofs.Common.{◌∙◌, refl, arith}
use Rattle.augmenter.proofs.raising.raises.Goals as goal

pub loop-cell-init : goal.loop-cell-init
loop-cell-init c = record { vars = refl; clauses = refl; more = λ l h. h; closed = c.requires.closed }

pub settles-requires-clause-in_range : goal.settles-requires-clause-in_range
settles-requires-clause-in_range c = let l = c.loop-cell-test.true in let m = c.requires.marks in let v = c.loop-cell.invariant.vars in let s = c.level.ensures.small in omega arith

pub loop-cell-preserved : goal.loop-cell-preserved
loop-cell-preserved c =
    let was = c.loop-cell.invariant in
    let now = c.settles.ensures in
    record { vars = now.vars ∙ was.vars; clauses = now.clauses ∙ was.clauses; more = λ l h. now.more l (was.more l h); closed = now.closed c.if-not-settles.false }

pub returns-then-not-settles-clause-more : goal.returns-then-not-settles-clause-more
returns-then-not-settles-clause-more c = λ l h. c.settles.ensures.more l (c.loop-cell.invariant.more l h)
