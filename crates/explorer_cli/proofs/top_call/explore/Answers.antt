use Rattle.std.proofs.Common.{◌⊎◌, inl, inr, [], refl, ap, subst, arith}
use Rattle.command_words.specs.Read.{texts}
use Rattle.command_words.specs.declared.reading.Command.{Command}
use Rattle.command_words.specs.declared.reading.Command.TheVariants.{Load}
use Rattle.command_words.proofs.CommandLemmas.{one_command}
use Rattle.proof_command.specs.Inputs.{AnswersInput}
use Rattle.explorer_cli.specs.Learnt.{HasLearnt}
use Rattle.explorer_cli.specs.Outcome.{HasFailed, IsStatusOf, IsAnswerTo, limit_of}
use Rattle.explorer_cli.proofs.Commands.{some_said, none_said, numbers_in_range, not_refused_words}
use Rattle.explorer_cli.proofs.Learning.{none_has_learnt}
use Rattle.explorer_cli.proofs.top_call.explore.Goals as goal

-- words that say no command

pub returns-in-Ok-None-clause-words_line : goal.returns-in-Ok-None-clause-words_line
returns-in-Ok-None-clause-words_line g c = λ tells refused. elim (c.finish.ensures.all tells) [
  | inl failed ↦ absurd cc
  | inr all ↦ all
]

pub returns-in-Ok-None-clause-taken : goal.returns-in-Ok-None-clause-taken
returns-in-Ok-None-clause-taken g c = λ said says. absurd (none_said (texts c.args.words.now) c.in-Ok-None.field-0 c.in-Ok-None.field-0-is c.in-Ok-None.ensures.none said says)

pub returns-in-Ok-None-clause-answer : goal.returns-in-Ok-None-clause-answer
returns-in-Ok-None-clause-answer g c = λ said says. absurd (none_said (texts c.args.words.now) c.in-Ok-None.field-0 c.in-Ok-None.field-0-is c.in-Ok-None.ensures.none said says)

pub returns-in-Ok-None-clause-unread : goal.returns-in-Ok-None-clause-unread
returns-in-Ok-None-clause-unread g c = λ number workers says. absurd (none_said (texts c.args.words.now) c.in-Ok-None.field-0 c.in-Ok-None.field-0-is c.in-Ok-None.ensures.none (Load number workers) says)

-- words that say one

pub do_command-requires-clause-numbers : goal.do_command-requires-clause-numbers
do_command-requires-clause-numbers g c κs within =
    let words = texts c.args.words.now in
    numbers_in_range words c.in-Ok-Some.command (some_said words c.in-Ok-Some.field-0 c.in-Ok-Some.command c.in-Ok-Some.field-0-is c.in-Ok-Some.ensures.some)

pub returns-in-Ok-Some-clause-refused : goal.returns-in-Ok-Some-clause-refused
returns-in-Ok-Some-clause-refused g c = λ none.
    absurd (none c.in-Ok-Some.command (some_said (texts c.args.words.now) c.in-Ok-Some.field-0 c.in-Ok-Some.command c.in-Ok-Some.field-0-is c.in-Ok-Some.ensures.some))

pub returns-in-Ok-Some-clause-words_line : goal.returns-in-Ok-Some-clause-words_line
returns-in-Ok-Some-clause-words_line g c = λ tells refused. absurd (not_refused_words c.in-Ok-Some.command c.do_command.result c.do_command.ensures.status refused)

pub returns-in-Ok-Some-clause-words_part : goal.returns-in-Ok-Some-clause-words_part
returns-in-Ok-Some-clause-words_part g c = λ tells none failed.
    absurd (none c.in-Ok-Some.command (some_said (texts c.args.words.now) c.in-Ok-Some.field-0 c.in-Ok-Some.command c.in-Ok-Some.field-0-is c.in-Ok-Some.ensures.some))

pub returns-in-Ok-Some-clause-taken : goal.returns-in-Ok-Some-clause-taken
returns-in-Ok-Some-clause-taken g c = λ said says.
    let words = texts c.args.words.now in
    let same = one_command words c.in-Ok-Some.command said (some_said words c.in-Ok-Some.field-0 c.in-Ok-Some.command c.in-Ok-Some.field-0-is c.in-Ok-Some.ensures.some) says in
    subst (λ (x : Command). HasFailed c.do_command.result ⊎ IsStatusOf x c.do_command.result) same c.do_command.ensures.status

pub returns-in-Ok-Some-clause-answer : goal.returns-in-Ok-Some-clause-answer
returns-in-Ok-Some-clause-answer g c = λ said says.
    let words = texts c.args.words.now in
    let source_tells = g.S.Source.tells c.args.source.now in
    let had = g.S.Source.left c.args.source.now in
    let left = g.S.Source.left c.do_command.new.source in
    let sink_tells = g.K.Sink.tells c.args.sink.now in
    let old = g.K.Sink.written c.args.sink.now in
    let new = g.K.Sink.written c.do_command.new.sink in
    let same = one_command words c.in-Ok-Some.command said (some_said words c.in-Ok-Some.field-0 c.in-Ok-Some.command c.in-Ok-Some.field-0-is c.in-Ok-Some.ensures.some) says in
    subst (λ (x : Command). AnswersInput (limit_of x) (IsAnswerTo x) source_tells had left sink_tells old new c.do_command.result) same c.do_command.ensures.answer

pub returns-in-Ok-Some-clause-unread : goal.returns-in-Ok-Some-clause-unread
returns-in-Ok-Some-clause-unread g c = λ number workers says.
    let words = texts c.args.words.now in
    let same = one_command words c.in-Ok-Some.command (Load number workers) (some_said words c.in-Ok-Some.field-0 c.in-Ok-Some.command c.in-Ok-Some.field-0-is c.in-Ok-Some.ensures.some) says in
    c.do_command.ensures.unread (ap limit_of same)

-- where reading the words wants memory

pub returns-in-Err-clause-answer : goal.returns-in-Err-clause-answer
returns-in-Err-clause-answer g c = λ said says. record { front = λ tells. ([], refl, omega arith); done = inr (inl refl) }

pub returns-in-Ok-None-clause-learnt : goal.returns-in-Ok-None-clause-learnt
returns-in-Ok-None-clause-learnt g c = λ said says. absurd (none_said (texts c.args.words.now) c.in-Ok-None.field-0 c.in-Ok-None.field-0-is c.in-Ok-None.ensures.none said says)

pub returns-in-Ok-Some-clause-idle : goal.returns-in-Ok-Some-clause-idle
returns-in-Ok-Some-clause-idle g c = λ none.
    absurd (none c.in-Ok-Some.command (some_said (texts c.args.words.now) c.in-Ok-Some.field-0 c.in-Ok-Some.command c.in-Ok-Some.field-0-is c.in-Ok-Some.ensures.some))

pub returns-in-Ok-Some-clause-learnt : goal.returns-in-Ok-Some-clause-learnt
returns-in-Ok-Some-clause-learnt g c = λ said says.
    let words = texts c.args.words.now in
    let same = one_command words c.in-Ok-Some.command said (some_said words c.in-Ok-Some.field-0 c.in-Ok-Some.command c.in-Ok-Some.field-0-is c.in-Ok-Some.ensures.some) says in
    subst (λ (x : Command). HasLearnt x (g.S.Source.tells c.args.source.now) (g.S.Source.left c.args.source.now) c.args.count.now c.do_command.new.count) same c.do_command.ensures.learnt

pub returns-in-Err-clause-learnt : goal.returns-in-Err-clause-learnt
returns-in-Err-clause-learnt g c = λ said says. none_has_learnt said (g.S.Source.tells c.args.source.now) (g.S.Source.left c.args.source.now) c.args.count.now
