use Rattle.std.proofs.Common.{◌∙◌}
use Rattle.proof_command.specs.Answer.{IsAnswerTo}
use Rattle.proof_command.proofs.Inputs.{answered}
use Rattle.proof_command.proofs.WholeTexts.{answers_whole}
use Rattle.proof_command.proofs.command.check_proof.Goals as goal

pub returns-in-Ok-clause-answer : goal.returns-in-Ok-clause-answer
returns-in-Ok-clause-answer g c = record {
  front = c.read_all.ensures.taken;
  done = answered 268435457 IsAnswerTo answers_whole (g.S.Source.tells c.args.source.now) (g.S.Source.left c.args.source.now) (g.S.Source.left c.read_all.new.source) c.deref.result.now
      (g.K.Sink.tells c.args.sink.now) (g.K.Sink.written c.args.sink.now) (g.K.Sink.written c.write_answer.new.sink) c.write_answer.result
      (λ tells. c.deref.ensures.value ∙ c.in-Ok.ensures.bytes tells) c.in-Ok.ensures.rest c.write_answer.ensures.answer;
}
