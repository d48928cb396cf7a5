use Rattle.std.proofs.Common.{◌≡◌, ◌+◌, ◌∙◌, ℕ, List, [], length, refl, sym, ap, subst, arith}
use Rattle.session_words.specs.declared.commands.Command.TheVariants.{All}
use Rattle.session_rules.specs.States.{top_floor, shown_here}
use Rattle.session_rules.specs.declared.answers.Reply.TheVariants.{Partly}
use Rattle.session_turns.specs.Serving.{IsPrintable}
use Rattle.session_turns.specs.Showing.{IsFirst}
use Rattle.session_turns.proofs.Stepping.{partly_printable}
use Rattle.session_turns.specs.Added.{HasServed, HasShownAll}
use Rattle.hub_turns.proofs.Onward.{went_none, went_then, same_number}
use Rattle.session_turns.proofs.Answering.{seated_wider}
use Rattle.session_turns.proofs.ShownTogether.{shown_all_none, wants_memory, shows_partly}
use Rattle.session_turns.proofs.Costs.{spent_more, spent_within}
use Rattle.session_turns.proofs.showing.show_all.Goals as goal

pub returns-in_default-clause-goes : goal.returns-in_default-clause-goes
returns-in_default-clause-goes g c = went_none c.args.lock.now c.args.pass.now c.requires.seated.1.idle

pub returns-in_default-clause-served : goal.returns-in_default-clause-served
returns-in_default-clause-served g c = wants_memory c.args.translation.now c.args.pass.now c.args.session.now c.args.wanted (omega (arith, c.requires.some))

pub returns-in_default-clause-seated : goal.returns-in_default-clause-seated
returns-in_default-clause-seated g c shown seated = seated_wider c.args.lock.now c.args.translation.now shown (shown + c.args.wanted) c.args.pass.now c.args.session.now (omega arith) seated

pub loop-time-init : goal.loop-time-init
loop-time-init g c =
    let t = c.args.translation.now in
    let p = c.args.pass.now in
    let x = c.args.session.now in
    let none : c.in-Ok.scenarios.items ≡ [] = c.in-Ok.ensures.items in
    record {
      goes = went_none c.args.lock.now p c.requires.seated.1.idle;
      shown = subst (λ (xs : List (List ℕ)). HasShownAll t p p x x xs) (sym none) (shown_all_none t p x);
      first = subst (λ (xs : List (List ℕ)). IsFirst x.kept.state xs 0) (sym none) tt;
      count = ap (λ (xs : List (List ℕ)). length xs) none;
      len = c.in-Ok.ensures.len;
      room = let e = c.in-Ok.ensures.exact in omega arith;
      seated = λ shown seated. seated_wider c.args.lock.now t shown (shown + 0) p x (omega arith) seated;
      key = refl;
      begins = c.requires.begins;
      spent = omega arith;
      budget = refl;
    }

pub show_one-requires-clause-seated : goal.show_one-requires-clause-seated
show_one-requires-clause-seated g c =
    let shown = c.requires.seated.0 in
    let few = c.requires.seated.2 in
    let less = c.loop-time-test.true in
    seated_wider c.args.lock.now c.args.translation.now (shown + c.loop-time._time) 19999 c.loop-time.pass c.loop-time.session (omega arith) (c.loop-time.invariant.seated shown c.requires.seated.1)

pub show_one-requires-clause-room : goal.show_one-requires-clause-room
show_one-requires-clause-room g c = omega (arith, c.loop-time.invariant.len, c.loop-time.invariant.room, c.loop-time-test.true)

pub returns-in-Some-clause-goes : goal.returns-in-Some-clause-goes
returns-in-Some-clause-goes g c = went_then c.args.lock.now c.args.pass.now c.loop-time.pass c.show_one.new.pass c.loop-time.invariant.goes c.show_one.ensures.goes

pub returns-in-Some-clause-served : goal.returns-in-Some-clause-served
returns-in-Some-clause-served g c =
    let before = c.loop-time.invariant in
    c.in-Some.ensures.shown c.args.pass.now c.args.session.now (sym (same_number c.args.lock.now c.args.pass.now c.loop-time.pass before.goes)) (sym before.key) before.shown before.first c.args.wanted (omega (arith, before.count, c.loop-time-test.true))

pub returns-in-Some-clause-printable : goal.returns-in-Some-clause-printable
returns-in-Some-clause-printable g c = subst (λ (floor : List ℕ). IsPrintable c.args.translation.now floor c.in-Some.reply) c.loop-time.invariant.shown.shown.floor c.in-Some.ensures.count

pub returns-in-Some-clause-seated : goal.returns-in-Some-clause-seated
returns-in-Some-clause-seated g c shown seated =
    let less = c.loop-time-test.true in
    seated_wider c.args.lock.now c.args.translation.now (shown + c.loop-time._time + 1) (shown + c.args.wanted) c.show_one.new.pass c.show_one.new.session (omega arith) (c.show_one.ensures.seated (shown + c.loop-time._time) (c.loop-time.invariant.seated shown seated))

pub returns-in-Some-clause-key : goal.returns-in-Some-clause-key
returns-in-Some-clause-key g c = c.show_one.ensures.key ∙ c.loop-time.invariant.key

pub loop-time-preserved : goal.loop-time-preserved
loop-time-preserved g c =
    let before = c.loop-time.invariant in
    let ensures = c.in_default-show_one.ensures in
    let both = ensures.shown c.args.pass.now c.args.session.now (sym (same_number c.args.lock.now c.args.pass.now c.loop-time.pass before.goes)) (sym before.key) before.shown before.first in
    record {
      goes = went_then c.args.lock.now c.args.pass.now c.loop-time.pass c.show_one.new.pass before.goes ensures.goes;
      shown = both.0;
      first = both.1;
      count = ensures.count.0 ∙ ap (λ n. n + 1) before.count;
      len = ensures.count.1 ∙ ap (λ n. n + 1) before.len;
      room = omega (arith, before.room, ensures.room);
      seated = λ shown seated. seated_wider c.args.lock.now c.args.translation.now (shown + c.loop-time._time + 1) (shown + (c.loop-time._time + 1)) c.show_one.new.pass c.show_one.new.session (omega arith) (ensures.seated (shown + c.loop-time._time) (before.seated shown seated));
      key = ensures.key ∙ before.key;
      begins = ensures.begins;
      spent = spent_more c.args.count.now c.loop-time.count c.show_one.new.count c.loop-time._time c.args.session.now.kept.state.budget c.loop-time.session.kept.state.budget before.budget before.spent ensures.spent;
      budget = ensures.budget ∙ before.budget;
    }

pub returns-in_default-clause-spent : goal.returns-in_default-clause-spent
returns-in_default-clause-spent g c = omega arith

pub returns-in-Some-clause-spent : goal.returns-in-Some-clause-spent
returns-in-Some-clause-spent g c =
    let before = c.loop-time.invariant in
    let one = spent_more c.args.count.now c.loop-time.count c.show_one.new.count c.loop-time._time c.args.session.now.kept.state.budget c.loop-time.session.kept.state.budget before.budget before.spent c.show_one.ensures.spent in
    spent_within c.args.count.now c.show_one.new.count (c.loop-time._time + 1) c.args.wanted c.args.session.now.kept.state.budget (omega (arith, c.loop-time-test.true)) one

pub returns-in-Some-clause-budget : goal.returns-in-Some-clause-budget
returns-in-Some-clause-budget g c = c.show_one.ensures.budget ∙ c.loop-time.invariant.budget

pub returns-clause-spent : goal.returns-clause-spent
returns-clause-spent g c = spent_within c.args.count.now c.loop-time.count c.loop-time._time c.args.wanted c.args.session.now.kept.state.budget (let e = c.loop-time.auto._time-end in omega arith) c.loop-time.invariant.spent

pub returns-clause-budget : goal.returns-clause-budget
returns-clause-budget g c = c.loop-time.invariant.budget

pub returns-clause-goes : goal.returns-clause-goes
returns-clause-goes g c = c.loop-time.invariant.goes

pub returns-clause-served : goal.returns-clause-served
returns-clause-served g c =
    let t = c.args.translation.now in
    let x = c.args.session.now in
    let before = c.loop-time.invariant in
    let ss = c.loop-time.showing.scenarios.items in
    let ended = c.loop-time.auto._time-end in
    let count : length ss ≡ c.args.wanted = omega (arith, before.count, c.loop-time-test.false, ended) in
    subst (λ (xs : List (List ℕ)). HasServed t c.args.pass.now c.loop-time.pass x c.loop-time.session (All c.args.wanted) (Partly c.loop-time.showing.first xs)) (sym c.of.ensures)
    (shows_partly t c.args.pass.now c.loop-time.pass x c.loop-time.session ss before.shown c.args.wanted c.loop-time.showing.first count c.requires.some before.first)

pub returns-clause-printable : goal.returns-clause-printable
returns-clause-printable g c =
    let t = c.args.translation.now in
    let s = c.args.session.now.kept.state in
    let now = c.loop-time.session.kept in
    let before = c.loop-time.invariant in
    let fits = (before.seated c.requires.seated.0 c.requires.seated.1).on.fits in
    subst (λ (xs : List (List ℕ)). IsPrintable t (top_floor s) (Partly c.loop-time.showing.first xs)) (sym c.of.ensures)
    (partly_printable t now.state (top_floor s) (shown_here s) c.loop-time.showing.scenarios.items c.loop-time.showing.first (c.a_run_is_sound.ensures t.problem now.state fits.reached) before.shown.shown.here)

pub returns-clause-seated : goal.returns-clause-seated
returns-clause-seated g c shown seated = seated_wider c.args.lock.now c.args.translation.now (shown + c.loop-time._time) (shown + c.args.wanted) c.loop-time.pass c.loop-time.session (let e = c.loop-time.auto._time-end in omega arith) (c.loop-time.invariant.seated shown seated)

pub returns-clause-key : goal.returns-clause-key
returns-clause-key g c = c.loop-time.invariant.key

pub returns-clause-begins : goal.returns-clause-begins
returns-clause-begins g c = c.loop-time.invariant.begins
