use Rattle.std.proofs.Common.{sym, subst}
use Rattle.session_rules.specs.Steps.{MayAnswer}
use Rattle.session_rules.specs.Evidence.{NeedsEvidence, HasEvidence}
use Rattle.session_rules.specs.declared.answers.Reply.{Reply}
use Rattle.session_rules.specs.declared.answers.Reply.TheVariants.{Refused}
use Rattle.session_rules.specs.declared.answers.Refusal.TheVariants.{Spent}
use Rattle.session_state.specs.Sessions.Proposed.{RestsOn}
use Rattle.work_limits.specs.Units.{AreLogs}
use Rattle.work_limits.proofs.proposals.enough_is_not_proposed_as_spent.Goals as goal

pub returns : goal.returns
returns c terms has pool vars s reached step enough is done said =
    let t = c.args.translation.now in
    let p = c.args.proposal.now in
    let needs : NeedsEvidence s p.reply = subst (NeedsEvidence s) (sym said) tt in
    let may : MayAnswer t.problem s step (Refused (Spent done)) = subst (MayAnswer t.problem s step) said is.may in
    let evidence : HasEvidence t pool s step (Refused (Spent done)) = subst (HasEvidence t pool s step) said (is.evidence needs) in
    let rests : RestsOn t s step (Refused (Spent done)) p.parts p.copies = subst (λ (r : Reply). RestsOn t s step r p.parts p.copies) said (is.rests needs) in
    let logs : AreLogs p.parts = subst AreLogs c.parts.ensures c.parts_are_logs.ensures in
    c.enough_for_the_problem_is_never_spent.ensures t c.translations_are_formulas.ensures.translation c.translations_are_formulas.ensures.formula terms has pool vars s reached step enough done may evidence
    (subst AreLogs (sym rests.0) logs)
