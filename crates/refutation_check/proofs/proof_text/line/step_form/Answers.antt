use Rattle.std.proofs.Common.{◌≡◌, List, ℕ, [], refl, sym, subst, ap, ◌∙◌, false}
use Rattle.refutation_check.specs.ProofText.{IsLiteral, IsNumber}
use Rattle.refutation_check.specs.Scanned.{read_literal, read_number, HasNoFront}
use Rattle.refutation_check.proofs.ReadLines.{no_step_end, no_hints_front, from_some, from_none}
use Rattle.refutation_check.proofs.proof_text.line.step_form.Goals as goal

pub returns-in_default-2 : goal.returns-in_default-2
returns-in_default-2 c =
    let to = from_some IsLiteral read_literal c.args.rest.now c.args.lits.now.items c.literals.new.into.items c.in_ok-behind.field-0 c.in-Some.behind c.in_ok-behind.ensures.some c.in-Some.is c.requires.lits in
    let to_end = from_some IsNumber read_number c.in-Some.behind.now c.args.numbers.now.items c.hints.new.into.items c.in_ok-behind-2.field-0 c.in-Some-2.behind c.in_ok-behind-2.ensures.some c.in-Some-2.is c.requires.numbers in
    no_step_end c.args.rest.now c.in-Some.behind.now c.literals.new.into.items to c.in-Some-2.behind.now c.hints.new.into.items to_end (c.is_blank.ensures.words c.if-is_blank.false)

pub returns-in_default-2-2 : goal.returns-in_default-2-2
returns-in_default-2-2 c =
    let to = from_some IsLiteral read_literal c.args.rest.now c.args.lits.now.items c.literals.new.into.items c.in_ok-behind.field-0 c.in-Some.behind c.in_ok-behind.ensures.some c.in-Some.is c.requires.lits in
    no_hints_front c.args.rest.now c.in-Some.behind.now c.literals.new.into.items to c.hints.new.into.items (from_none c.in_ok-behind-2.field-0 (HasNoFront IsNumber c.in-Some.behind.now) c.in_ok-behind-2.ensures.none c.in_default-2.is)
