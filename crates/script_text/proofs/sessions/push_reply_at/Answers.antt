use Rattle.std.proofs.Common.{◌≡◌, ℕ, List, sym, subst, rules}
use Rattle.rel_formula.specs.Bounds.{Bounded}
use Rattle.translation_rules.specs.Translation.{Translated}
use Rattle.session_rules.specs.declared.answers.Reply.{Reply}
use Rattle.session_rules.specs.declared.answers.Reply.TheVariants as reply
use Rattle.script_text.specs.Printed.{printed}
use Rattle.script_text.specs.Replies.{IsReplyText, PrintsNoProof, PrintsCheckableProof}
use Rattle.script_text.proofs.sessions.push_reply_at.Goals as goal

-- where no proof is printed, there is none to check
none_to_check : (t : Translated) (floor : List ℕ) (r : Reply) → PrintsNoProof r → PrintsCheckableProof t floor r
none_to_check t floor (reply.Shown number scenario) h = tt
none_to_check t floor (reply.End number proof) h = tt
none_to_check t floor (reply.Offers cells) h = tt
none_to_check t floor (reply.Augmented above) h = tt
none_to_check t floor reply.Back h = tt
none_to_check t floor (reply.BudgetSet budget) h = tt
none_to_check t floor (reply.All scenarios) h = tt
none_to_check t floor (reply.Partly first scenarios) h = tt
none_to_check t floor (reply.Proof proof) h = absurd h
none_to_check t floor (reply.Refused refusal) h = tt
none_to_check t floor reply.Memory h = tt

pub returns-in_ok-push_proof-in-Proof-clause-checkable : goal.returns-in_ok-push_proof-in-Proof-clause-checkable
returns-in_ok-push_proof-in-Proof-clause-checkable c =
    subst (PrintsCheckableProof c.args.translation.now c.args.floor.now) (sym c.in-Proof.is) c.in_ok-push_proof-in-Proof.ensures.checkable

pub returns-in_ok-push_answer-in_default : goal.returns-in_ok-push_answer-in_default
returns-in_ok-push_answer-in_default c =
    let t = c.args.translation.now in
    let floor = c.args.floor.now in
    let r : Reply = c.args.reply.now in
    let plain : PrintsNoProof c.args.reply.now = search rules in
    let added = c.in_ok-push_answer-in_default.ensures t floor in
    record {
      lines = (added.0, subst (λ (p : Bounded). IsReplyText p (printed t floor r) added.0) c.problem.ensures.value added.1, added.2);
      checkable = none_to_check t floor r plain;
    }
