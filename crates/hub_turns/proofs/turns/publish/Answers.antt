use Rattle.std.proofs.Common.{◌≡◌, ℕ, subst}
use Rattle.std.proofs.lemmas.Result.{IfOk-weaker, IfErr-weaker}
use Rattle.hub_state.specs.Journal.Journal.{IsPublished}
use Rattle.hub_state.specs.HubView.{IsPublishing}
use Rattle.hub_turns.specs.Turned.{HasPublished, Leaves}
use Rattle.hub_turns.proofs.Going.{IsFound, of_key_found, may_give, base_kept, went_on, has_published, published_now, unchanged}
use Rattle.hub_turns.proofs.turns.publish.Goals as goal

pub give-requires-clause-entries : goal.give-requires-clause-entries
give-requires-clause-entries g c =
    let old = c.args.pass.now in
    let mid = c.take-held.new.p in
    let found = c.take-held.result.value in
    let turn : IsFound c.args.lock.now old mid found = record { idle = c.requires.idle; mid_lock = c.take-held.ensures.own; mid_view = c.take-held.ensures.view; seen = c.take-held.ensures.seen; mine = c.take-held.ensures.mine; base_is = c.take-held.ensures.base } in
    let left = c.publish_held-kept.new.held.value in
    let leaves : Leaves old.view.number found left = subst (λ (n : ℕ). Leaves n found left) c.number-by.ensures c.publish_held-kept.ensures.leaves in
    may_give c.args.lock.now old mid found turn left leaves

pub give-requires-clause-base : goal.give-requires-clause-base
give-requires-clause-base g c =
    let old = c.args.pass.now in
    let mid = c.take-held.new.p in
    let found = c.take-held.result.value in
    let turn : IsFound c.args.lock.now old mid found = record { idle = c.requires.idle; mid_lock = c.take-held.ensures.own; mid_view = c.take-held.ensures.view; seen = c.take-held.ensures.seen; mine = c.take-held.ensures.mine; base_is = c.take-held.ensures.base } in
    let left = c.publish_held-kept.new.held.value in
    let leaves : Leaves old.view.number found left = subst (λ (n : ℕ). Leaves n found left) c.number-by.ensures c.publish_held-kept.ensures.leaves in
    base_kept c.args.lock.now old mid found turn left leaves

pub returns-clause-goes : goal.returns-clause-goes
returns-clause-goes g c =
    let old = c.args.pass.now in
    let mid = c.take-held.new.p in
    let found = c.take-held.result.value in
    let turn : IsFound c.args.lock.now old mid found = record { idle = c.requires.idle; mid_lock = c.take-held.ensures.own; mid_view = c.take-held.ensures.view; seen = c.take-held.ensures.seen; mine = c.take-held.ensures.mine; base_is = c.take-held.ensures.base } in
    let left = c.publish_held-kept.new.held.value in
    let leaves : Leaves old.view.number found left = subst (λ (n : ℕ). Leaves n found left) c.number-by.ensures c.publish_held-kept.ensures.leaves in
    went_on c.args.lock.now old mid c.give.new.p found left turn leaves c.give.ensures.own c.give.ensures.view

pub publish_held-kept-requires : goal.publish_held-kept-requires
publish_held-kept-requires g c =
    let old = c.args.pass.now in
    let mid = c.take-held.new.p in
    let found = c.take-held.result.value in
    let turn : IsFound c.args.lock.now old mid found = record { idle = c.requires.idle; mid_lock = c.take-held.ensures.own; mid_view = c.take-held.ensures.view; seen = c.take-held.ensures.seen; mine = c.take-held.ensures.mine; base_is = c.take-held.ensures.base } in
    of_key_found c.args.lock.now old mid found turn c.args.key c.args.t.value c.requires.key

pub returns-clause-added : goal.returns-clause-added
returns-clause-added g c =
    let old = c.args.pass.now in
    let mid = c.take-held.new.p in
    let found = c.take-held.result.value in
    let turn : IsFound c.args.lock.now old mid found = record { idle = c.requires.idle; mid_lock = c.take-held.ensures.own; mid_view = c.take-held.ensures.view; seen = c.take-held.ensures.seen; mine = c.take-held.ensures.mine; base_is = c.take-held.ensures.base } in
    let left = c.publish_held-kept.new.held.value in
    let leaves : Leaves old.view.number found left = subst (λ (n : ℕ). Leaves n found left) c.number-by.ensures c.publish_held-kept.ensures.leaves in
    IfOk-weaker c.publish_held-kept.result (λ kept. IsPublishing found c.number-by.result c.args.key c.args.t.value left kept.value) (λ kept. HasPublished old c.give.new.p c.args.key c.args.t.value kept.value)
    (λ kept is. has_published c.args.lock.now old mid c.give.new.p found left turn leaves c.give.ensures.own c.give.ensures.view c.args.key c.args.t.value kept.value (subst (λ (n : ℕ). IsPublishing found n c.args.key c.args.t.value left kept.value) c.number-by.ensures is)) c.publish_held-kept.ensures.entry

pub returns-clause-kept : goal.returns-clause-kept
returns-clause-kept g c =
    let old = c.args.pass.now in
    let mid = c.take-held.new.p in
    let found = c.take-held.result.value in
    let turn : IsFound c.args.lock.now old mid found = record { idle = c.requires.idle; mid_lock = c.take-held.ensures.own; mid_view = c.take-held.ensures.view; seen = c.take-held.ensures.seen; mine = c.take-held.ensures.mine; base_is = c.take-held.ensures.base } in
    let left = c.publish_held-kept.new.held.value in
    let leaves : Leaves old.view.number found left = subst (λ (n : ℕ). Leaves n found left) c.number-by.ensures c.publish_held-kept.ensures.leaves in
    IfOk-weaker c.publish_held-kept.result (λ kept. IsPublished left.journal c.args.key kept.value) (λ kept. IsPublished c.give.new.p.view.seen c.args.key kept.value)
    (λ kept there. published_now c.args.lock.now old mid c.give.new.p found left turn leaves c.give.ensures.own c.give.ensures.view c.args.key kept.value there) c.publish_held-kept.ensures.kept

pub returns-clause-err : goal.returns-clause-err
returns-clause-err g c =
    let old = c.args.pass.now in
    let mid = c.take-held.new.p in
    let found = c.take-held.result.value in
    let turn : IsFound c.args.lock.now old mid found = record { idle = c.requires.idle; mid_lock = c.take-held.ensures.own; mid_view = c.take-held.ensures.view; seen = c.take-held.ensures.seen; mine = c.take-held.ensures.mine; base_is = c.take-held.ensures.base } in
    let left = c.publish_held-kept.new.held.value in
    let leaves : Leaves old.view.number found left = subst (λ (n : ℕ). Leaves n found left) c.number-by.ensures c.publish_held-kept.ensures.leaves in
    IfErr-weaker c.publish_held-kept.result (λ _. left ≡ found) (λ _. c.give.new.p.view.own ≡ old.view.own) (λ _ same. unchanged c.args.lock.now old mid c.give.new.p found left turn leaves c.give.ensures.own c.give.ensures.view same) c.publish_held-kept.ensures.err
