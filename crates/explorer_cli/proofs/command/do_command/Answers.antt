use Rattle.std.proofs.Common.{[], refl}
use Rattle.explorer_cli.proofs.Learning.{has_learnt_unread}
use Rattle.explorer_cli.proofs.Unread.{answers_unread}
use Rattle.explorer_cli.proofs.command.do_command.Goals as goal

pub returns-in-None-clause-answer : goal.returns-in-None-clause-answer
returns-in-None-clause-answer g c =
    answers_unread c.args.command c.in-None.ensures (g.S.Source.tells c.args.source.now) (g.S.Source.left c.args.source.now) [] (g.K.Sink.tells c.args.sink.now) (g.K.Sink.written c.args.sink.now)
    (g.K.Sink.written c.write_answer.new.sink) c.write_answer.result refl c.write_answer.ensures.answer

pub returns-in-None-clause-learnt : goal.returns-in-None-clause-learnt
returns-in-None-clause-learnt g c =
    has_learnt_unread c.args.command c.in-None.ensures (g.S.Source.tells c.args.source.now) (g.S.Source.left c.args.source.now) [] c.args.count.now c.write_answer.new.count refl c.write_answer.ensures.learnt
