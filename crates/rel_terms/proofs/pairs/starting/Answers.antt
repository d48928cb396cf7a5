use Rattle.std.proofs.Common.{◌≡◌, true, arith, subst, sym, ◌∙◌}
use Rattle.tuple_core.specs.Operators.{BeginsWith}
use Rattle.tuple_core.proofs.Atoms.{atom_eq-decides}
use Rattle.rel_terms.specs.Counting.{IsPlaceOf}
use Rattle.rel_terms.proofs.Starting.{begins_here, run_ascending, run_has, run_begins, run_ends}
use Rattle.rel_terms.proofs.pairs.starting.Goals.{then-loop-to-test+else-eq, else-loop-to-test}
use Rattle.rel_terms.proofs.pairs.starting.Goals as goal

pub loop-to-preserved : goal.loop-to-preserved
loop-to-preserved c =
    let low = c.loop-to.invariant.low in
    let in' = c.loop-to-test.true in
    record {
      low = omega arith;
      high = omega arith;
      begin = begins_here c.args.rows.now c.args.atom c.place_of-from.result c.loop-to.to c.index-rows-to.result in' c.index-rows-to.is c.loop-to.invariant.begin
          (subst (λ a. BeginsWith a c.index-rows-to.result) ((atom_eq-decides c.first.result c.args.atom).0 (sym c.eq.ensures ∙ c.if-eq.true)) c.first.ensures);
    }

pub returns-clause-ascending : goal.returns-clause-ascending
returns-clause-ascending c = run_ascending c.args.rows.now c.place_of-from.result c.loop-to.to c.loop-to.invariant.low c.loop-to.invariant.high c.requires

pub returns-clause-just : goal.returns-clause-just
returns-clause-just c =
    let rows = c.args.rows.now in
    let place = subst (λ x. IsPlaceOf rows x c.place_of-from.result) c.single.ensures c.place_of-from.ensures in
    let low = c.loop-to.invariant.low in
    let high = c.loop-to.invariant.high in
    run_has rows c.place_of-from.result c.loop-to.to low high c.args.atom c.loop-to.invariant.begin
    (run_begins rows c.place_of-from.result c.loop-to.to low high c.args.atom place)
    (elim c.loop-to-test.branch [
      | then-loop-to-test+else-eq w ↦
          run_ends rows c.place_of-from.result c.loop-to.to low high c.args.atom w.first.result w.index-rows-to.result c.requires place w.loop-to-test.true w.index-rows-to.is w.first.ensures
          (λ same. let yes : w.eq.result ≡ true = w.eq.ensures ∙ (atom_eq-decides w.first.result c.args.atom).1 same in let no = w.if-eq.false in cc)
      | else-loop-to-test w ↦ λ k d past l. absurd (let end = w.loop-to-test.false in omega arith)
    ])
