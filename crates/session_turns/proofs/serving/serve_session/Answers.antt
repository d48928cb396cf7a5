use Rattle.std.proofs.Common.{◌≡◌, ◌+◌, ◌++◌, ◌∷◌, [], ◌∙◌, ℕ, List, take, refl, sym, ap, subst, arith}
use Rattle.std.proofs.lemmas.List.{take_all}
use Rattle.refutation_check.specs.declared.log.Step.{Step as LogStep}
use Rattle.session_words.specs.declared.commands.Command.{Command}
use Rattle.script_format.specs.Limits.{IsAllowed, asked_by}
use Rattle.session_rules.specs.States.{top_floor}
use Rattle.session_rules.specs.declared.answers.Reply.{Reply}
use Rattle.hub_state.specs.Journal.Journal.{pool_of}
use Rattle.hub_turns.proofs.Onward.{went_none, went_then, same_number}
use Rattle.session_turns.specs.Seated.{IsSeated, BeginsPool}
use Rattle.session_turns.specs.Served.{IsServedScript}
use Rattle.session_turns.proofs.Transcribed.{asked_more, asked_few}
use Rattle.session_turns.proofs.SoFar.{IsSoFar, so_far_none, so_far_more, served_whole}
use Rattle.session_turns.specs.Allowed.{allowed}
use Rattle.session_turns.proofs.Costs.{spent_on}
use Rattle.session_turns.proofs.serving.serve_session.Goals as goal

pub loop-number-init : goal.loop-number-init
loop-number-init g c =
    let t = c.args.translation.now in
    let p = c.args.pass.now in
    let x = c.args.session.now in
    record {
      goes = went_none c.args.lock.now p c.requires.seated.idle;
      seated = c.requires.seated;
      key = refl;
      begins = subst (λ (xs : List LogStep). BeginsPool xs p x) (sym c.new-pool.ensures) (pool_of x.key p.view.seen, refl);
      so_far = subst (λ (rs : List Reply). IsSoFar t p p x x [] rs c.in_ok-floors.floors.items) (sym c.in_ok-replies.ensures.items)
          (subst (λ (fs : List (List ℕ)). IsSoFar t p p x x [] [] fs) (sym c.in_ok-floors.ensures.items) (so_far_none t p x));
      replies = c.in_ok-replies.ensures.len;
      floors = c.in_ok-floors.ensures.len;
      room = let e = c.in_ok-replies.ensures.exact in omega arith;
      floor_room = let e = c.in_ok-floors.ensures.exact in omega arith;
      spent = omega arith;
    }

pub answer-requires-clause-seated : goal.answer-requires-clause-seated
answer-requires-clause-seated g c =
    let cs = c.args.commands.now in
    let i = c.loop-number.number in
    let few = asked_few cs i c.index-commands-number.result c.loop-number-test.true c.index-commands-number.is in
    (asked_by (take i cs), c.loop-number.invariant.seated, omega (arith, few, c.requires.asked))

pub answer-requires-clause-allowed : goal.answer-requires-clause-allowed
answer-requires-clause-allowed g c = subst IsAllowed (sym c.index-commands-number.is) (c.requires.allowed c.loop-number.number c.index-commands-number.result c.loop-number-test.true)

pub loop-number-preserved : goal.loop-number-preserved
loop-number-preserved g c =
    let lock = c.args.lock.now in
    let t = c.args.translation.now in
    let cs = c.args.commands.now in
    let i = c.loop-number.number in
    let asked = c.index-commands-number.result in
    let before = c.loop-number.invariant in
    let a = c.args.pass.now in
    let b = c.loop-number.pass in
    let new = c.answer.new.pass in
    let x = c.args.session.now in
    let y = c.loop-number.session in
    let z = c.answer.new.session in
    let fs = c.loop-number.floors.items in
    let rs = c.loop-number.replies.items in
    let ds = take (i + 1) cs in
    let sound = c.a_run_is_sound.ensures t.problem y.kept.state before.seated.on.fits.reached in
    let more = so_far_more t a b new x y z cs i asked rs fs c.answer.result c.loop-number-test.true c.index-commands-number.is (same_number lock a b before.goes) before.key sound before.so_far c.answer.ensures.served c.answer.ensures.printable in
    let floors : c.push_reserved.new.self.items ≡ fs ++ top_floor y.kept.state ∷ [] = c.push_reserved.ensures.items ∙ ap (λ (f : List ℕ). fs ++ f ∷ []) (c.in_ok-copy.ensures ∙ c.floor.ensures) in
    record {
      goes = went_then lock a b new before.goes c.answer.ensures.goes;
      seated = subst (λ n. IsSeated lock t n new z) (sym (asked_more cs i asked c.loop-number-test.true c.index-commands-number.is)) (c.answer.ensures.seated (asked_by (take i cs)) before.seated);
      key = c.answer.ensures.key ∙ before.key;
      begins = c.answer.ensures.begins;
      so_far = subst (λ (qs : List Reply). IsSoFar t a new x z ds qs c.push_reserved.new.self.items) (sym c.push_reserved-in-loop-number.ensures.items)
          (subst (λ (gs : List (List ℕ)). IsSoFar t a new x z ds (rs ++ c.answer.result ∷ []) gs) (sym floors) more);
      replies = c.push_reserved-in-loop-number.ensures.len ∙ ap (λ n. n + 1) before.replies;
      floors = c.push_reserved.ensures.len ∙ ap (λ n. n + 1) before.floors;
      room = omega (arith, before.room, c.push_reserved-in-loop-number.ensures.capacity);
      floor_room = omega (arith, before.floor_room, c.push_reserved.ensures.capacity);
      spent = spent_on cs i asked c.loop-number-test.true c.index-commands-number.is y.kept.state.budget z.kept.state.budget c.answer.ensures.budget c.args.count.now c.loop-number.count c.answer.new.count (allowed x.kept.state.budget cs) before.spent c.answer.ensures.spent;
    }

pub returns-clause-served : goal.returns-clause-served
returns-clause-served g c problems key budget base opened =
    let t = c.args.translation.now in
    let cs = c.args.commands.now in
    let a = c.args.pass.now in
    let b = c.loop-number.pass in
    let x = c.args.session.now in
    let y = c.loop-number.session in
    let so = c.loop-number.invariant in
    let all : take c.loop-number.number cs ≡ cs = take_all c.loop-number.number cs (omega (arith, c.loop-number-test.false)) in
    let whole = subst (λ (ds : List Command). IsSoFar t a b x y ds c.loop-number.replies.items c.loop-number.floors.items) all so.so_far in
    let served = served_whole c.args.lock.now t a b x y (asked_by (take c.loop-number.number cs)) so.goes so.seated problems base key budget opened so.key cs c.loop-number.replies.items c.loop-number.floors.items whole in
    subst (λ (rs : List Reply). IsServedScript problems b.view.seen t b.view.number key budget cs (record { replies = rs; floors = c.of-2.result })) (sym c.of.ensures)
    (subst (λ (fs : List (List ℕ)). IsServedScript problems b.view.seen t b.view.number key budget cs (record { replies = c.loop-number.replies.items; floors = fs })) (sym c.of-2.ensures) served)

pub returns-clause-spent : goal.returns-clause-spent
returns-clause-spent g c = let s = c.loop-number.invariant.spent in omega arith
