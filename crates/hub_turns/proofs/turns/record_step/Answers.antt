use Rattle.std.proofs.Common.{◌≡◌, ℕ, sym, subst}
use Rattle.std.proofs.lemmas.Result.{IfOk-weaker, IfErr-weaker}
use Rattle.hub_state.specs.Journal.Noted.{Recorded}
use Rattle.hub_state.specs.Journal.Journal.{MayFollow}
use Rattle.hub_state.specs.HubView.{with_entry}
use Rattle.hub_turns.specs.Turned.{HasAdded, Leaves}
use Rattle.hub_turns.proofs.Going.{IsFound, may_record_found, may_give, base_kept, went_on, added, unchanged}
use Rattle.hub_turns.proofs.turns.record_step.Goals as goal

pub give-requires-clause-entries : goal.give-requires-clause-entries
give-requires-clause-entries g c =
    let old = c.args.pass.now in
    let mid = c.take-held.new.p in
    let found = c.take-held.result.value in
    let turn : IsFound c.args.lock.now old mid found = record { idle = c.requires.idle; mid_lock = c.take-held.ensures.own; mid_view = c.take-held.ensures.view; seen = c.take-held.ensures.seen; mine = c.take-held.ensures.mine; base_is = c.take-held.ensures.base } in
    let left = c.record_held-recorded.new.held.value in
    let leaves : Leaves old.view.number found left = subst (λ (n : ℕ). Leaves n found left) c.number-by.ensures c.record_held-recorded.ensures.leaves in
    may_give c.args.lock.now old mid found turn left leaves

pub give-requires-clause-base : goal.give-requires-clause-base
give-requires-clause-base g c =
    let old = c.args.pass.now in
    let mid = c.take-held.new.p in
    let found = c.take-held.result.value in
    let turn : IsFound c.args.lock.now old mid found = record { idle = c.requires.idle; mid_lock = c.take-held.ensures.own; mid_view = c.take-held.ensures.view; seen = c.take-held.ensures.seen; mine = c.take-held.ensures.mine; base_is = c.take-held.ensures.base } in
    let left = c.record_held-recorded.new.held.value in
    let leaves : Leaves old.view.number found left = subst (λ (n : ℕ). Leaves n found left) c.number-by.ensures c.record_held-recorded.ensures.leaves in
    base_kept c.args.lock.now old mid found turn left leaves

pub returns-clause-goes : goal.returns-clause-goes
returns-clause-goes g c =
    let old = c.args.pass.now in
    let mid = c.take-held.new.p in
    let found = c.take-held.result.value in
    let turn : IsFound c.args.lock.now old mid found = record { idle = c.requires.idle; mid_lock = c.take-held.ensures.own; mid_view = c.take-held.ensures.view; seen = c.take-held.ensures.seen; mine = c.take-held.ensures.mine; base_is = c.take-held.ensures.base } in
    let left = c.record_held-recorded.new.held.value in
    let leaves : Leaves old.view.number found left = subst (λ (n : ℕ). Leaves n found left) c.number-by.ensures c.record_held-recorded.ensures.leaves in
    went_on c.args.lock.now old mid c.give.new.p found left turn leaves c.give.ensures.own c.give.ensures.view

pub record_held-recorded-requires : goal.record_held-recorded-requires
record_held-recorded-requires g c =
    let old = c.args.pass.now in
    let mid = c.take-held.new.p in
    let found = c.take-held.result.value in
    let turn : IsFound c.args.lock.now old mid found = record { idle = c.requires.idle; mid_lock = c.take-held.ensures.own; mid_view = c.take-held.ensures.view; seen = c.take-held.ensures.seen; mine = c.take-held.ensures.mine; base_is = c.take-held.ensures.base } in
    subst (λ (n : ℕ). MayFollow found.problems found.journal n (Recorded c.args.step c.args.reply)) (sym c.number-by.ensures) (may_record_found c.args.lock.now old mid found turn c.args.step c.args.reply c.requires.may)

pub returns-clause-ok : goal.returns-clause-ok
returns-clause-ok g c =
    let old = c.args.pass.now in
    let mid = c.take-held.new.p in
    let found = c.take-held.result.value in
    let turn : IsFound c.args.lock.now old mid found = record { idle = c.requires.idle; mid_lock = c.take-held.ensures.own; mid_view = c.take-held.ensures.view; seen = c.take-held.ensures.seen; mine = c.take-held.ensures.mine; base_is = c.take-held.ensures.base } in
    let left = c.record_held-recorded.new.held.value in
    let leaves : Leaves old.view.number found left = subst (λ (n : ℕ). Leaves n found left) c.number-by.ensures c.record_held-recorded.ensures.leaves in
    IfOk-weaker c.record_held-recorded.result (λ _. left ≡ with_entry found c.number-by.result (Recorded c.args.step c.args.reply)) (λ _. HasAdded old c.give.new.p (Recorded c.args.step c.args.reply))
    (λ _ is. added c.args.lock.now old mid c.give.new.p found left turn leaves c.give.ensures.own c.give.ensures.view (Recorded c.args.step c.args.reply) (subst (λ (n : ℕ). left ≡ with_entry found n (Recorded c.args.step c.args.reply)) c.number-by.ensures is)) c.record_held-recorded.ensures.ok

pub returns-clause-err : goal.returns-clause-err
returns-clause-err g c =
    let old = c.args.pass.now in
    let mid = c.take-held.new.p in
    let found = c.take-held.result.value in
    let turn : IsFound c.args.lock.now old mid found = record { idle = c.requires.idle; mid_lock = c.take-held.ensures.own; mid_view = c.take-held.ensures.view; seen = c.take-held.ensures.seen; mine = c.take-held.ensures.mine; base_is = c.take-held.ensures.base } in
    let left = c.record_held-recorded.new.held.value in
    let leaves : Leaves old.view.number found left = subst (λ (n : ℕ). Leaves n found left) c.number-by.ensures c.record_held-recorded.ensures.leaves in
    IfErr-weaker c.record_held-recorded.result (λ _. left ≡ found) (λ _. c.give.new.p.view.own ≡ old.view.own) (λ _ same. unchanged c.args.lock.now old mid c.give.new.p found left turn leaves c.give.ensures.own c.give.ensures.view same) c.record_held-recorded.ensures.err
