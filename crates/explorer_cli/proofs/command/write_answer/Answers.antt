use Rattle.std.proofs.Common.{◌≡◌, inl, inr, ℕ, List, sym, subst, ◌∙◌}
use Rattle.outside_io.specs.declared.status.Status.TheVariants.{SinkFailed}
use Rattle.proof_command.specs.Inputs.{IsWritten}
use Rattle.proof_command.proofs.Inputs.{written_text}
use Rattle.explorer_cli.specs.Outcome.{IsStatusOf}
use Rattle.explorer_cli.proofs.Commands.{not_failed}
use Rattle.explorer_cli.proofs.command.write_answer.Goals as goal

pub returns-in-Ok-clause-status : goal.returns-in-Ok-clause-status
returns-in-Ok-clause-status g c = elim c.finish.ensures.status [
  | inl same ↦ inr (inr (subst (IsStatusOf c.args.command) (sym same) c.in-Ok.ensures.status))
  | inr failed ↦ inl failed
]

pub returns-in-Ok-clause-was_read : goal.returns-in-Ok-clause-was_read
returns-in-Ok-clause-was_read g c = λ source. elim c.finish.ensures.status [
  | inl same ↦ not_failed c.args.command c.in-Ok.answer.status c.in-Ok.ensures.status (inl (sym same ∙ source))
  | inr failed ↦ cc
]

pub returns-in-Ok-clause-failed : goal.returns-in-Ok-clause-failed
returns-in-Ok-clause-failed g c = λ sink. elim (c.finish.ensures.failed sink) [
  | inl same ↦ absurd (not_failed c.args.command c.in-Ok.answer.status c.in-Ok.ensures.status (inr (inl same)))
  | inr rose ↦ rose
]

pub returns-in-Ok-clause-no_memory : goal.returns-in-Ok-clause-no_memory
returns-in-Ok-clause-no_memory g c = λ memory. elim c.finish.ensures.status [
  | inl same ↦ absurd (not_failed c.args.command c.in-Ok.answer.status c.in-Ok.ensures.status (inr (inr (sym same ∙ memory))))
  | inr failed ↦ absurd cc
]

pub returns-in-Ok-clause-answer : goal.returns-in-Ok-clause-answer
returns-in-Ok-clause-answer g c =
    let status = c.in-Ok.answer.status in
    let tells = g.K.Sink.tells c.args.sink.now in
    let old = g.K.Sink.written c.args.sink.now in
    let new = g.K.Sink.written c.finish.new.sink in
    let not_sink : status ≡ SinkFailed → ⊥ = λ sink. not_failed c.args.command status c.in-Ok.ensures.status (inr (inl sink)) in
    let written = written_text status c.deref.result.now tells old new c.finish.result not_sink c.finish.ensures.status c.finish.ensures.all c.finish.ensures.part in
    inr (status, c.in-Ok.answer.text.items, c.in-Ok.ensures.answer, subst (λ (xs : List ℕ). IsWritten status xs tells old new c.finish.result) c.deref.ensures.value written)
