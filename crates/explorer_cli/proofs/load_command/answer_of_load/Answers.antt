use Rattle.std.proofs.Common.{List, ℕ, inl, refl, subst, ◌∙◌}
use Rattle.command_words.specs.declared.reading.Command.TheVariants.{Load}
use Rattle.command_words.specs.Words.{default_budget}
use Rattle.explorer_cli.specs.Learnt.{KeepsToBudget}
use Rattle.explorer_cli.specs.Outcome.{IsAnswerToText}
use Rattle.explorer_cli.proofs.load_command.answer_of_load.Goals as goal

pub returns-clause-answer : goal.returns-clause-answer
returns-clause-answer g c =
    let answer = c.in_ok-answer_made.field-0 in
    subst (λ (bytes : List ℕ). IsAnswerToText (Load c.args.number c.args.workers) bytes answer.status answer.text.items) (c.deref.ensures.value ∙ c.in_ok-bytes.ensures) (c.in_ok-answer_made.ensures.answer c.args.number)

pub returns-clause-learnt : goal.returns-clause-learnt
returns-clause-learnt g c =
    subst (λ (bytes : List ℕ). KeepsToBudget default_budget bytes c.args.count.now c.answer_made.new.count) (c.deref.ensures.value ∙ c.in_ok-bytes.ensures) c.answer_made.ensures.learnt

pub returns-in_err-answer_made-clause-learnt : goal.returns-in_err-answer_made-clause-learnt
returns-in_err-answer_made-clause-learnt g c =
    subst (λ (bytes : List ℕ). KeepsToBudget default_budget bytes c.args.count.now c.answer_made.new.count) (c.deref.ensures.value ∙ c.in_ok-bytes.ensures) c.answer_made.ensures.learnt

pub returns-in_err-bytes-clause-learnt : goal.returns-in_err-bytes-clause-learnt
returns-in_err-bytes-clause-learnt g c = inl refl
