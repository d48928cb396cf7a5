use Rattle.std.proofs.Common.{◌≡◌, inl, inr, subst}
use Rattle.outside_io.specs.declared.status.Status.TheVariants.{SinkFailed}
use Rattle.proof_command.specs.Inputs.{IsWritten}
use Rattle.proof_command.proofs.Inputs.{written_text}
use Rattle.proof_command.proofs.command.write_answer.Goals as goal

pub returns-in-Ok-clause-answer : goal.returns-in-Ok-clause-answer
returns-in-Ok-clause-answer g c =
    let tells = g.K.Sink.tells c.args.sink.now in
    let old = g.K.Sink.written c.args.sink.now in
    let new = g.K.Sink.written c.finish.new.sink in
    let not_failed : c.in-Ok.answer.status ≡ SinkFailed → ⊥ = λ failed. elim c.in-Ok.ensures.status [
      | inl done ↦ cc
      | inr (inl refused) ↦ cc
      | inr (inr none) ↦ cc
    ] in
    let written = written_text c.in-Ok.answer.status c.deref.result.now tells old new c.finish.result not_failed c.finish.ensures.status c.finish.ensures.all c.finish.ensures.part in
    inr (
      c.in-Ok.answer.status,
      c.in-Ok.answer.text.items,
      c.in-Ok.ensures.answer,
      subst (λ xs. IsWritten c.in-Ok.answer.status xs tells old new c.finish.result) c.deref.ensures.value written,
    )
