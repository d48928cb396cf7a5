use Rattle.std.proofs.Common.{◌∙◌, refl, arith}
use Rattle.minimiser.proofs.LoweredTrails.{valued_next}
use Rattle.minimiser.proofs.lowering.settles_all.Goals as goal

pub loop-cell-init : goal.loop-cell-init
loop-cell-init c = record { vars = refl; clauses = refl; more = λ l h. h; led = λ floor leads. leads; valued = λ v low high. absurd (omega arith) }

pub loop-cell-preserved : goal.loop-cell-preserved
loop-cell-preserved c =
    let was = c.loop-cell.invariant in
    let now = c.settles.ensures in
    let t = c.if-not-settles.false in
    record {
      vars = now.vars ∙ was.vars;
      clauses = now.clauses ∙ was.clauses;
      more = λ l h. now.more l (was.more l h);
      led = λ floor leads. now.led floor c.args.cells c.loop-cell-test.true (was.led floor leads) t;
      valued = valued_next c.loop-cell.trail c.settles.new.trail c.loop-cell.cell was.valued now.more (now.valued t);
    }

pub returns-clause-valued : goal.returns-clause-valued
returns-clause-valued c = λ t var low high. c.loop-cell.invariant.valued var low (let e = c.loop-cell-test.false in omega arith)

pub returns-then-not-settles-clause-more : goal.returns-then-not-settles-clause-more
returns-then-not-settles-clause-more c = λ l h. c.settles.ensures.more l (c.loop-cell.invariant.more l h)

pub returns-clause-led : goal.returns-clause-led
returns-clause-led c = λ floor leads t. c.loop-cell.invariant.led floor leads
