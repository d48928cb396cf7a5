use Rattle.std.proofs.Common.{◌≤◌, ◌+◌, sym, subst, arith}
use Rattle.session_words.specs.declared.commands.Command.{Command}
use Rattle.script_format.specs.Reading.{asks}
use Rattle.session_turns.specs.Seated.{IsSeated}
use Rattle.session_turns.proofs.ShownTogether.{one_step}
use Rattle.session_turns.proofs.Answering.{seated_wider}
use Rattle.session_turns.specs.Allowed.{cost_of, MayLeave}
use Rattle.session_turns.proofs.Costs.{left_by_step}
use Rattle.session_turns.proofs.commands.answer.Goals as goal

pub returns-in-Step-clause-spent : goal.returns-in-Step-clause-spent
returns-in-Step-clause-spent g c = subst (λ (k : Command). c.take_step.new.count ≤ c.args.count.now + cost_of c.args.session.now.kept.state.budget k) (sym c.in-Step.is) c.take_step.ensures.spent

pub returns-in-Step-clause-budget : goal.returns-in-Step-clause-budget
returns-in-Step-clause-budget g c =
    subst (λ (k : Command). MayLeave c.args.session.now.kept.state.budget k c.take_step.new.session.kept.state.budget) (sym c.in-Step.is)
    (left_by_step c.args.translation.now.problem c.args.session.now.kept.state c.take_step.new.session.kept.state c.in-Step.step c.take_step.result c.take_step.ensures.answered.machine)

pub returns-in-All-clause-spent : goal.returns-in-All-clause-spent
returns-in-All-clause-spent g c = subst (λ (k : Command). c.show_all.new.count ≤ c.args.count.now + cost_of c.args.session.now.kept.state.budget k) (sym c.in-All.is) c.show_all.ensures.spent

pub returns-in-All-clause-budget : goal.returns-in-All-clause-budget
returns-in-All-clause-budget g c = subst (λ (k : Command). MayLeave c.args.session.now.kept.state.budget k c.show_all.new.session.kept.state.budget) (sym c.in-All.is) c.show_all.ensures.budget

pub take_step-requires-clause-seated : goal.take_step-requires-clause-seated
take_step-requires-clause-seated g c = seated_wider c.args.lock.now c.args.translation.now c.requires.seated.0 20000 c.args.pass.now c.args.session.now (let few = c.requires.seated.2 in omega arith) c.requires.seated.1

pub returns-in-Step-clause-served : goal.returns-in-Step-clause-served
returns-in-Step-clause-served g c = one_step c.args.translation.now c.args.pass.now c.take_step.new.pass c.args.session.now c.take_step.new.session c.args.command.now _ c.take_step.result c.in-Step.is c.take_step.ensures.answered

pub returns-in-Step-clause-seated : goal.returns-in-Step-clause-seated
returns-in-Step-clause-seated g c shown seated =
    subst (λ (k : Command). IsSeated c.args.lock.now c.args.translation.now (shown + asks k) c.take_step.new.pass c.take_step.new.session) (sym c.in-Step.is) (c.take_step.ensures.seated shown seated)

pub returns-in-All-clause-seated : goal.returns-in-All-clause-seated
returns-in-All-clause-seated g c shown seated =
    subst (λ (k : Command). IsSeated c.args.lock.now c.args.translation.now (shown + asks k) c.show_all.new.pass c.show_all.new.session) (sym c.in-All.is) (c.show_all.ensures.seated shown seated)
