use Rattle.std.proofs.Common.{◌∙◌, refl, arith}
use Rattle.minimiser.proofs.LoweredTrails.{valued_next}
use Rattle.augmenter.proofs.raising.fills.Goals as goal

pub loop-before-init : goal.loop-before-init
loop-before-init c = record { vars = refl; clauses = refl; more = λ l h. h; closed = c.requires.closed; valued = λ var low high. absurd (omega arith) }

pub settles-requires-clause-in_range : goal.settles-requires-clause-in_range
settles-requires-clause-in_range c = let l = c.loop-before-test.true in let v = c.loop-before.invariant.vars in let s = c.vars-vars.ensures.vars in omega arith

pub loop-before-preserved : goal.loop-before-preserved
loop-before-preserved c =
    let was = c.loop-before.invariant in
    let now = c.settles.ensures in
    let t = c.if-not-settles.false in
    record {
      vars = now.vars ∙ was.vars;
      clauses = now.clauses ∙ was.clauses;
      more = λ l h. now.more l (was.more l h);
      closed = now.closed t;
      valued = valued_next c.loop-before.trail c.settles.new.trail c.loop-before.before was.valued now.more (now.valued t);
    }

pub returns-then-not-settles-clause-more : goal.returns-then-not-settles-clause-more
returns-then-not-settles-clause-more c = λ l h. c.settles.ensures.more l (c.loop-before.invariant.more l h)

pub returns-clause-valued : goal.returns-clause-valued
returns-clause-valued c = λ t var low high. c.loop-before.invariant.valued var low (let e = c.loop-before-test.false in let s = c.vars-vars.ensures.vars in omega arith)
