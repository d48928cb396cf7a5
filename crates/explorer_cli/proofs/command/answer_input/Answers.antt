use Rattle.std.proofs.Common.{◌≡◌, ℕ, take, drop, ap, subst, ◌∙◌}
use Rattle.outside_io.specs.Front.{TakesFront}
use Rattle.proof_command.proofs.Inputs.{answered}
use Rattle.explorer_cli.specs.Outcome.{IsAnswerTo, limit_of}
use Rattle.explorer_cli.proofs.Fronts.{answers_whole}
use Rattle.explorer_cli.proofs.Learning.{has_learnt, none_has_learnt}
use Rattle.explorer_cli.proofs.command.answer_input.Goals as goal

pub returns-in-Ok-clause-answer : goal.returns-in-Ok-clause-answer
returns-in-Ok-clause-answer g c =
    let command = c.args.command in
    let had = g.S.Source.left c.args.source.now in
    let left = g.S.Source.left c.read_all.new.source in
    let tells = g.S.Source.tells c.args.source.now in
    let read : tells → c.deref.result.now ≡ take (limit_of command) had = λ t. c.deref.ensures.value ∙ c.in-Ok.ensures.bytes t ∙ ap (λ (n : ℕ). take n had) c.requires.most in
    let rest : tells → left ≡ drop (limit_of command) had = λ t. c.in-Ok.ensures.rest t ∙ ap (λ (n : ℕ). drop n had) c.requires.most in
    record {
      front = λ t. subst (λ (n : ℕ). TakesFront n had left) c.requires.most (c.read_all.ensures.taken t);
      done = answered (limit_of command) (IsAnswerTo command) (answers_whole command) tells had left c.deref.result.now
          (g.K.Sink.tells c.args.sink.now) (g.K.Sink.written c.args.sink.now) (g.K.Sink.written c.write_answer.new.sink) c.write_answer.result
          read rest c.write_answer.ensures.answer;
    }

pub returns-in-Ok-clause-learnt : goal.returns-in-Ok-clause-learnt
returns-in-Ok-clause-learnt g c =
    let command = c.args.command in
    let had = g.S.Source.left c.args.source.now in
    let tells = g.S.Source.tells c.args.source.now in
    let read : tells → c.deref.result.now ≡ take (limit_of command) had = λ t. c.deref.ensures.value ∙ c.in-Ok.ensures.bytes t ∙ ap (λ (n : ℕ). take n had) c.requires.most in
    has_learnt command tells had c.deref.result.now c.args.count.now c.write_answer.new.count read c.write_answer.ensures.learnt

pub returns-in-Err-Failed-clause-learnt : goal.returns-in-Err-Failed-clause-learnt
returns-in-Err-Failed-clause-learnt g c = none_has_learnt c.args.command (g.S.Source.tells c.args.source.now) (g.S.Source.left c.args.source.now) c.args.count.now

pub returns-in-Err-Memory-clause-learnt : goal.returns-in-Err-Memory-clause-learnt
returns-in-Err-Memory-clause-learnt g c = none_has_learnt c.args.command (g.S.Source.tells c.args.source.now) (g.S.Source.left c.args.source.now) c.args.count.now
