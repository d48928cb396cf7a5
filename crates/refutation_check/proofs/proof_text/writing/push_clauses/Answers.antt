use Rattle.std.proofs.Common.{◌≡◌, ◌+◌, ◌-◌, ℕ, slice_get, arith, ap, ◌∙◌}
use Rattle.refutation_check.proofs.WrittenTexts.{clause_written}
use Rattle.refutation_check.proofs.proof_text.writing.push_clauses.Goals as goal

pub loop-number-preserved : goal.loop-number-preserved
loop-number-preserved c =
    let clauses = c.args.f.now.clauses in
    let n = c.loop-number.number in
    let place : n ≡ n + 1 - 1 = omega arith in
    record {
      written = clause_written clauses n c.clause.result.now c.args.out.now.items c.loop-number.out.items c.push_clause.new.out.items (ap (λ k. slice_get clauses k) place ∙ c.clause.ensures.clause)
          c.loop-number.invariant.written c.in_ok-push_clause.ensures;
      within = omega arith;
    }
