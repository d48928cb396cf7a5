use Rattle.std.proofs.Common.{◌≡◌, ◌∙◌, refl, inl, inr, arith, subst}
use Rattle.std.proofs.lemmas.Bool.{cases_lt}
use Rattle.minimiser.specs.Lowering.{IsBounded}
use Rattle.minimiser.proofs.lowering.bounds_all.Goals as goal

pub loop-cell-init : goal.loop-cell-init
loop-cell-init c = record { vars = refl; clauses = refl; leads = c.requires.leads; bounded = λ cell h. absurd (omega arith) }

pub loop-cell-preserved : goal.loop-cell-preserved
loop-cell-preserved c =
    let was = c.loop-cell.invariant in
    let now = c.bounds.ensures in
    let t = c.if-not-bounds.false in
    record {
      vars = now.vars ∙ was.vars;
      clauses = now.clauses ∙ was.clauses;
      leads = now.led c.args.cells c.loop-cell-test.true was.leads t;
      bounded = λ cell h. elim (cases_lt cell c.loop-cell.cell) [
        | inl less ↦ let b = was.bounded cell less in record { above = λ there. now.more _ (b.above there); within = λ out far. now.more _ (b.within out far) }
        | inr not_less ↦ let same : c.loop-cell.cell ≡ cell = omega arith in subst (IsBounded c.args.floor.now c.args.start.now c.bounds.new.trail) same (now.bounded t)
      ];
    }

pub returns-clause-bounded : goal.returns-clause-bounded
returns-clause-bounded c = λ t cell less. c.loop-cell.invariant.bounded cell (let e = c.loop-cell-test.false in omega arith)
