use Rattle.std.proofs.Common.{◌≡◌, List, ℕ, [], refl, sym, subst, ap, ◌∙◌, false}
use Rattle.refutation_check.specs.ProofText.{IsLiteral, IsNumber}
use Rattle.refutation_check.specs.Scanned.{read_literal, read_number, HasNoFront}
use Rattle.refutation_check.proofs.ReadLines.{no_clause_end, from_some}
use Rattle.refutation_check.proofs.proof_text.line.clause_form.Goals as goal

pub returns-in_default : goal.returns-in_default
returns-in_default c =
    let to = from_some IsLiteral read_literal c.args.rest.now c.args.lits.now.items c.literals.new.into.items c.in_ok-behind.field-0 c.in-Some.behind c.in_ok-behind.ensures.some c.in-Some.is c.requires in
    no_clause_end c.args.rest.now c.in-Some.behind.now c.literals.new.into.items to (c.is_blank.ensures.words c.if-is_blank.false)
