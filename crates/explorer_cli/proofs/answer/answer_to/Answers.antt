use Rattle.std.proofs.Common.{refl, sym, subst}
use Rattle.std.specs.Prelude.{IfOk}
use Rattle.command_words.specs.declared.reading.Command.{Command}
use Rattle.explorer_cli.specs.Learnt.{MayLearn}
use Rattle.explorer_cli.specs.Outcome.{IsStatusOf, IsAnswerTo}
use Rattle.explorer_cli.proofs.answer.answer_to.Goals as goal

pub returns-in-Run-clause-answer : goal.returns-in-Run-clause-answer
returns-in-Run-clause-answer g c =
    subst (λ (x : Command). IfOk c.answer_of_runs.result (λ a. IsAnswerTo x c.args.bytes.now a.status a.text.items)) (sym c.in-Run.is) c.answer_of_runs.ensures.answer

pub returns-in-Run-clause-status : goal.returns-in-Run-clause-status
returns-in-Run-clause-status g c = subst (λ (x : Command). IfOk c.answer_of_runs.result (λ a. IsStatusOf x a.status)) (sym c.in-Run.is) c.answer_of_runs.ensures.status

pub returns-in-Distinct-clause-answer : goal.returns-in-Distinct-clause-answer
returns-in-Distinct-clause-answer g c =
    subst (λ (x : Command). IfOk c.answer_of_runs-in-Distinct.result (λ a. IsAnswerTo x c.args.bytes.now a.status a.text.items)) (sym c.in-Distinct.is) c.answer_of_runs-in-Distinct.ensures.answer

pub returns-in-Distinct-clause-status : goal.returns-in-Distinct-clause-status
returns-in-Distinct-clause-status g c = subst (λ (x : Command). IfOk c.answer_of_runs-in-Distinct.result (λ a. IsStatusOf x a.status)) (sym c.in-Distinct.is) c.answer_of_runs-in-Distinct.ensures.status

pub returns-in_ok-answer_to-in-Check-clause-answer : goal.returns-in_ok-answer_to-in-Check-clause-answer
returns-in_ok-answer_to-in-Check-clause-answer g c =
    let a = c.in_ok-answer_to-in-Check.field-0 in
    subst (λ (x : Command). IsAnswerTo x c.args.bytes.now a.status a.text.items) (sym c.in-Check.is) c.in_ok-answer_to-in-Check.ensures.answer

pub returns-in_ok-answer_to-in-Check-clause-status : goal.returns-in_ok-answer_to-in-Check-clause-status
returns-in_ok-answer_to-in-Check-clause-status g c =
    let a = c.in_ok-answer_to-in-Check.field-0 in
    subst (λ (x : Command). IsStatusOf x a.status) (sym c.in-Check.is) c.in_ok-answer_to-in-Check.ensures.status

pub returns-in-Assert-clause-answer : goal.returns-in-Assert-clause-answer
returns-in-Assert-clause-answer g c =
    subst (λ (x : Command). IfOk c.answer_of_assert.result (λ a. IsAnswerTo x c.args.bytes.now a.status a.text.items)) (sym c.in-Assert.is) c.answer_of_assert.ensures.answer

pub returns-in-Assert-clause-status : goal.returns-in-Assert-clause-status
returns-in-Assert-clause-status g c = subst (λ (x : Command). IfOk c.answer_of_assert.result (λ a. IsStatusOf x a.status)) (sym c.in-Assert.is) c.answer_of_assert.ensures.status

pub returns-in-Facts-clause-answer : goal.returns-in-Facts-clause-answer
returns-in-Facts-clause-answer g c =
    subst (λ (x : Command). IfOk c.answer_of_facts.result (λ a. IsAnswerTo x c.args.bytes.now a.status a.text.items)) (sym c.in-Facts.is) c.answer_of_facts.ensures.answer

pub returns-in-Facts-clause-status : goal.returns-in-Facts-clause-status
returns-in-Facts-clause-status g c = subst (λ (x : Command). IfOk c.answer_of_facts.result (λ a. IsStatusOf x a.status)) (sym c.in-Facts.is) c.answer_of_facts.ensures.status

pub returns-in-Load-clause-answer : goal.returns-in-Load-clause-answer
returns-in-Load-clause-answer g c =
    subst (λ (x : Command). IfOk c.answer_of_load.result (λ a. IsAnswerTo x c.args.bytes.now a.status a.text.items)) (sym c.in-Load.is) c.answer_of_load.ensures.answer

pub returns-in-Load-clause-status : goal.returns-in-Load-clause-status
returns-in-Load-clause-status g c = subst (λ (x : Command). IfOk c.answer_of_load.result (λ a. IsStatusOf x a.status)) (sym c.in-Load.is) c.answer_of_load.ensures.status

pub returns-in-Crew-clause-answer : goal.returns-in-Crew-clause-answer
returns-in-Crew-clause-answer g c =
    subst (λ (x : Command). IfOk c.answer_of_crew.result (λ a. IsAnswerTo x c.args.bytes.now a.status a.text.items)) (sym c.in-Crew.is) c.answer_of_crew.ensures.answer

pub returns-in-Crew-clause-status : goal.returns-in-Crew-clause-status
returns-in-Crew-clause-status g c = subst (λ (x : Command). IfOk c.answer_of_crew.result (λ a. IsStatusOf x a.status)) (sym c.in-Crew.is) c.answer_of_crew.ensures.status

pub returns-in-Run-clause-learnt : goal.returns-in-Run-clause-learnt
returns-in-Run-clause-learnt g c = subst (λ (x : Command). MayLearn x c.args.bytes.now c.args.count.now c.answer_of_runs.new.count) (sym c.in-Run.is) c.answer_of_runs.ensures.learnt

pub returns-in-Distinct-clause-learnt : goal.returns-in-Distinct-clause-learnt
returns-in-Distinct-clause-learnt g c = subst (λ (x : Command). MayLearn x c.args.bytes.now c.args.count.now c.answer_of_runs-in-Distinct.new.count) (sym c.in-Distinct.is) c.answer_of_runs-in-Distinct.ensures.learnt

pub returns-in-Load-clause-learnt : goal.returns-in-Load-clause-learnt
returns-in-Load-clause-learnt g c = subst (λ (x : Command). MayLearn x c.args.bytes.now c.args.count.now c.answer_of_load.new.count) (sym c.in-Load.is) c.answer_of_load.ensures.learnt

pub returns-in_err-answer_to-in-Check-clause-learnt : goal.returns-in_err-answer_to-in-Check-clause-learnt
returns-in_err-answer_to-in-Check-clause-learnt g c = subst (λ (x : Command). MayLearn x c.args.bytes.now c.args.count.now c.args.count.now) (sym c.in-Check.is) refl

pub returns-in_ok-answer_to-in-Check-clause-learnt : goal.returns-in_ok-answer_to-in-Check-clause-learnt
returns-in_ok-answer_to-in-Check-clause-learnt g c = subst (λ (x : Command). MayLearn x c.args.bytes.now c.args.count.now c.args.count.now) (sym c.in-Check.is) refl

pub returns-in-Assert-clause-learnt : goal.returns-in-Assert-clause-learnt
returns-in-Assert-clause-learnt g c = subst (λ (x : Command). MayLearn x c.args.bytes.now c.args.count.now c.args.count.now) (sym c.in-Assert.is) tt

pub returns-in-Facts-clause-learnt : goal.returns-in-Facts-clause-learnt
returns-in-Facts-clause-learnt g c = subst (λ (x : Command). MayLearn x c.args.bytes.now c.args.count.now c.args.count.now) (sym c.in-Facts.is) tt

pub returns-in-Crew-clause-learnt : goal.returns-in-Crew-clause-learnt
returns-in-Crew-clause-learnt g c = subst (λ (x : Command). MayLearn x c.args.bytes.now c.args.count.now c.args.count.now) (sym c.in-Crew.is) tt
