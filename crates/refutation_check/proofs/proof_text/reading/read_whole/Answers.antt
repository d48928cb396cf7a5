use Rattle.std.proofs.Common.{arith}
use Rattle.refutation_check.specs.Progress.{progress_of}
use Rattle.refutation_check.proofs.ProofVars.{clauses_are, vars_small, vars_within}
use Rattle.refutation_check.proofs.proof_text.reading.read_whole.Goals as goal

pub of-requires : goal.of-requires
of-requires c =
    let read = c.in_ok-reading.ensures.read in
    let small = vars_small (progress_of c.in_ok-reading.reading) read in
    record {
      variables = omega arith;
      clauses = clauses_are (progress_of c.in_ok-reading.reading) read;
      within = vars_within (progress_of c.in_ok-reading.reading) read;
      few = c.in_ok-reading.ensures.few;
    }
