use Rattle.std.proofs.Common.{List, map, subst}
use Rattle.cnf_core.specs.declared.literal.Lit.{Lit}
use Rattle.refutation_check.specs.declared.log.Step.{Step}
use Rattle.refutation_check.specs.Verdict.{Fits}
use Rattle.refutation_check.specs.Renaming.{renamed_step}
use Rattle.refutation_check.specs.Numbering.{IsNumbered, name_in}
use Rattle.refutation_check.proofs.Numbers.{each_clause, each_step, names_apart}
use Rattle.refutation_check.proofs.Renamed.{fits_there}
use Rattle.refutation_check.proofs.sparse.numbered_verdict.Goals as goal

pub numbered_formula-requires-clause-numbered : goal.numbered_formula-requires-clause-numbered
numbered_formula-requires-clause-numbered c =
    rw c.deref.ensures.value (each_clause (IsNumbered c.in_ok-names.names.items) c.args.f.now.clauses c.args.log.now c.in_ok-names.ensures.numbered)

pub numbered_log-requires-clause-numbered : goal.numbered_log-requires-clause-numbered
numbered_log-requires-clause-numbered c =
    rw c.deref-2.ensures.value (each_step (IsNumbered c.in_ok-names.names.items) c.args.f.now.clauses c.args.log.now c.in_ok-names.ensures.numbered)

pub returns : goal.returns
returns c =
    let names = c.in_ok-names.names.items in
    let formula = rw c.deref.ensures.value at c.in_ok-formula.ensures.named in
    let log = rw c.deref-2.ensures.value at c.in_ok-numbered.ensures.named in
    let fits = fits_there (name_in names) (names_apart names c.in_ok-names.ensures.numbering) c.in_ok-formula.formula.clauses c.in_ok-numbered.numbered c.verdict_in.result c.verdict_in.ensures.fits in
    subst (λ (steps : List Step). Fits c.args.f.now.clauses steps c.verdict_in.result) log
    (subst (λ (clauses : List (List Lit)). Fits clauses (map (renamed_step (name_in names)) c.in_ok-numbered.numbered) c.verdict_in.result) formula fits)
