use Rattle.std.proofs.Common.{inl, inr, List, ℕ, refl, sym, subst, arith}
use Rattle.session_rules.specs.States.{top_floor}
use Rattle.session_words.specs.declared.commands.Command.TheVariants.{All}
use Rattle.session_rules.specs.declared.answers.Reply.{Reply}
use Rattle.session_rules.specs.declared.answers.Reply.TheVariants.{Shown, End}
use Rattle.session_turns.specs.Serving.{IsPrintable}
use Rattle.session_turns.specs.Showing.{IsFirst}
use Rattle.session_turns.proofs.ShownScenarios.{number_is, first_stays}
use Rattle.session_turns.proofs.Stepping.{list_printable}
use Rattle.session_turns.specs.Added.{HasServed, HasShownAll}
use Rattle.session_turns.proofs.Answering.{seated_wider}
use Rattle.session_turns.proofs.ShownTogether.{shown_all_more, lists_all, ends_without_memory, comes_to_other}
use Rattle.session_turns.proofs.Costs.{left_by_next}
use Rattle.session_turns.proofs.showing.show_one.Goals as goal

pub returns-in-Shown-clause-budget : goal.returns-in-Shown-clause-budget
returns-in-Shown-clause-budget g c = left_by_next c.args.translation.now.problem c.args.session.now.kept.state c.take_step.new.session.kept.state c.take_step.result c.take_step.ensures.answered.machine

pub returns-in-End-clause-budget : goal.returns-in-End-clause-budget
returns-in-End-clause-budget g c = left_by_next c.args.translation.now.problem c.args.session.now.kept.state c.take_step.new.session.kept.state c.take_step.result c.take_step.ensures.answered.machine

pub take_step-requires-clause-seated : goal.take_step-requires-clause-seated
take_step-requires-clause-seated g c = seated_wider c.args.lock.now c.args.translation.now 19999 20000 c.args.pass.now c.args.session.now (omega arith) c.requires.seated

pub all_shown-requires : goal.all_shown-requires
all_shown-requires g c = (c.args.translation.now.problem, (c.take_step.ensures.seated 19999 c.requires.seated).on.fits)

pub returns-in-Shown-clause-shown : goal.returns-in-Shown-clause-shown
returns-in-Shown-clause-shown g c start old by key has is =
    let t = c.args.translation.now in
    let ss = c.args.showing.now.scenarios.items in
    let x = c.args.session.now in
    let number = c.in-Shown.number in
    let scenario = c.in-Shown.scenario in
    let count = number_is t.problem old.kept.state ss x.kept.state number scenario has.shown c.in-Shown.ensures.answered.machine.0 in (
      subst (λ (xs : List (List ℕ)). HasShownAll t start c.take_step.new.pass old c.take_step.new.session xs) (sym c.add.ensures.scenarios)
          (shown_all_more t start c.args.pass.now c.take_step.new.pass old x c.take_step.new.session ss has (sym by) key (Shown number scenario) c.in-Shown.ensures.answered number scenario refl),
      subst (λ (xs : List (List ℕ)). IsFirst old.kept.state xs c.add.new.self.first) (sym c.add.ensures.scenarios) (first_stays t.problem old.kept.state ss scenario number c.args.showing.now.first c.add.new.self.first count is c.add.ensures.first),
    )

pub returns-in-End-clause-shown : goal.returns-in-End-clause-shown
returns-in-End-clause-shown g c start old by key has is n few =
    let t = c.args.translation.now in
    let ss = c.args.showing.now.scenarios.items in
    let a = c.args.pass.now in
    let b = c.take_step.new.pass in
    let x = c.args.session.now in
    let y = c.take_step.new.session in
    let end = End c.in-End.number c.in-End.proof in
    elim c.all_shown.ensures [
      | inl m ↦ subst (λ (r : Reply). HasServed t start b old y (All n) r) (sym m) (ends_without_memory t start a b old x y ss has (sym by) key end c.in-End.ensures.answered c.in-End.number c.in-End.proof refl n few)
      | inr l ↦ subst (λ (r : Reply). HasServed t start b old y (All n) r) (sym l.1) (lists_all t start a b old x y ss has (sym by) key end c.in-End.ensures.answered c.in-End.number c.in-End.proof refl n few l.0 l.2)
    ]

pub returns-in-End-clause-count : goal.returns-in-End-clause-count
returns-in-End-clause-count g c =
    let t = c.args.translation.now in
    let floor = top_floor c.args.session.now.kept.state in
    let new = c.take_step.new.session.kept.state in
    elim c.all_shown.ensures [
      | inl m ↦ subst (λ (r : Reply). IsPrintable t floor r) (sym m) (record { cells = tt; proof = tt })
      | inr l ↦ subst (λ (r : Reply). IsPrintable t floor r) (sym l.1) (list_printable t new floor l.0 (c.a_run_is_sound.ensures t.problem new (c.take_step.ensures.seated 19999 c.requires.seated).on.fits.reached) l.2)
    ]

pub returns-in_default : goal.returns-in_default
returns-in_default g c = record {
  goes = c.take_step.ensures.goes;
  shown = λ start old by key has is n few.
      comes_to_other c.args.translation.now start c.args.pass.now c.take_step.new.pass old c.args.session.now c.take_step.new.session c.args.showing.now.scenarios.items has (sym by) key c.take_step.result c.take_step.ensures.answered n few
      c.in_default.not-Shown c.in_default.not-End;
  room = omega arith;
  count = c.take_step.ensures.printable;
  seated = c.take_step.ensures.seated;
  key = c.take_step.ensures.key;
  begins = c.take_step.ensures.begins;
  spent = c.take_step.ensures.spent;
  budget = left_by_next c.args.translation.now.problem c.args.session.now.kept.state c.take_step.new.session.kept.state c.take_step.result c.take_step.ensures.answered.machine;
}
