use Rattle.std.proofs.Common.{◌≡◌, List, ℕ, ◌++◌, ◌∷◌, [], refl, sym, subst, ap, ◌∙◌}
use Rattle.cnf_core.specs.declared.literal.Lit.{Lit}
use Rattle.refutation_check.specs.ProofText.{IsNumber}
use Rattle.refutation_check.specs.Scanned.{read_number}
use Rattle.refutation_check.proofs.ReadLines.{IsReadSoFar, number_read, no_numbers, no_more_numbers}
use Rattle.refutation_check.proofs.proof_text.line.hints.Goals as goal

pub returns-in_default-number_in-clause-none : goal.returns-in_default-number_in-clause-none
returns-in_default-number_in-clause-none c =
    no_numbers c.behind_end.result c.args.line.now c.args.into.now.items c.each.into.items c.each.rest.now c.each.invariant c.in-Some.word c.in-Some.behind.now c.in-Some.ensures.word
    (sym c.number_in.ensures ∙ c.in_default-number_in.is) c.behind_end.ensures.none

pub each-preserved : goal.each-preserved
each-preserved c =
    let read = number_read c.args.line.now c.args.into.now.items c.each.into.items c.each.rest.now c.each.invariant c.in-Some.word c.in-Some.behind.now c.in-Some-number_in.number c.in-Some.ensures.word
    (sym c.number_in.ensures ∙ c.in-Some-number_in.is) in
    subst (λ (xs : List ℕ). IsReadSoFar IsNumber read_number c.args.line.now c.args.into.now.items xs c.in-Some.behind.now) (sym c.in_ok-push.ensures.items) read

pub returns-clause-none : goal.returns-clause-none
returns-clause-none c = no_more_numbers c.args.line.now c.args.into.now.items c.each.into.items c.each.rest.now c.each.invariant c.in_default.ensures.none
