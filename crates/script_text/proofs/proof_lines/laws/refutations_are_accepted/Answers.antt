use Rattle.std.proofs.Common.{inl, refl}
use Rattle.refutation_check.specs.declared.refutation.Verdict.TheVariants.{Accepted}
use Rattle.script_text.proofs.proof_lines.laws.refutations_are_accepted.Goals as goal

pub returns : goal.returns
returns c bytes f log is refutes = inl (record { formula = f; log = log; verdict = Accepted; proof = is; fits = refutes; under = refl; line = refl })
