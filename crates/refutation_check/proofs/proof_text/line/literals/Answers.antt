use Rattle.std.proofs.Common.{◌≡◌, List, ℕ, ◌++◌, ◌∷◌, [], refl, sym, subst, ap, ◌∙◌}
use Rattle.cnf_core.specs.declared.literal.Lit.{Lit}
use Rattle.refutation_check.specs.ProofText.{IsLiteral}
use Rattle.refutation_check.specs.Scanned.{read_literal}
use Rattle.refutation_check.proofs.ReadLines.{IsReadSoFar, literal_read, no_literals, no_more_literals}
use Rattle.refutation_check.proofs.proof_text.line.literals.Goals as goal

pub returns-in_default-literal_in-clause-none : goal.returns-in_default-literal_in-clause-none
returns-in_default-literal_in-clause-none c =
    no_literals c.behind_end.result c.args.line.now c.args.into.now.items c.each.into.items c.each.rest.now c.each.invariant c.in-Some.word c.in-Some.behind.now c.in-Some.ensures.word
    (sym c.literal_in.ensures ∙ c.in_default-literal_in.is) c.behind_end.ensures.none

pub each-preserved : goal.each-preserved
each-preserved c =
    let read = literal_read c.args.line.now c.args.into.now.items c.each.into.items c.each.rest.now c.each.invariant c.in-Some.word c.in-Some.behind.now c.in-Some-literal_in.lit c.in-Some.ensures.word
    (sym c.literal_in.ensures ∙ c.in-Some-literal_in.is) in
    subst (λ (xs : List Lit). IsReadSoFar IsLiteral read_literal c.args.line.now c.args.into.now.items xs c.in-Some.behind.now) (sym c.in_ok-push.ensures.items) read

pub returns-clause-none : goal.returns-clause-none
returns-clause-none c = no_more_literals c.args.line.now c.args.into.now.items c.each.into.items c.each.rest.now c.each.invariant c.in_default.ensures.none
