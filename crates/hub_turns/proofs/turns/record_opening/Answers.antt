use Rattle.std.proofs.Common.{◌≡◌, ℕ, sym, subst}
use Rattle.std.proofs.lemmas.Result.{IfOk-weaker, IfErr-weaker}
use Rattle.hub_state.specs.Journal.Noted.{Opened}
use Rattle.hub_state.specs.Journal.Journal.{MayFollow}
use Rattle.hub_state.specs.HubView.{with_entry}
use Rattle.hub_turns.specs.Turned.{HasAdded, Leaves}
use Rattle.hub_turns.proofs.Going.{IsFound, may_open_found, may_give, base_kept, went_on, added, unchanged}
use Rattle.hub_turns.proofs.turns.record_opening.Goals as goal

pub give-requires-clause-entries : goal.give-requires-clause-entries
give-requires-clause-entries g c =
    let old = c.args.pass.now in
    let mid = c.take-held.new.p in
    let found = c.take-held.result.value in
    let turn : IsFound c.args.lock.now old mid found = record { idle = c.requires.idle; mid_lock = c.take-held.ensures.own; mid_view = c.take-held.ensures.view; seen = c.take-held.ensures.seen; mine = c.take-held.ensures.mine; base_is = c.take-held.ensures.base } in
    let left = c.open_held-opened.new.held.value in
    let leaves : Leaves old.view.number found left = subst (λ (n : ℕ). Leaves n found left) c.number-by.ensures c.open_held-opened.ensures.leaves in
    may_give c.args.lock.now old mid found turn left leaves

pub give-requires-clause-base : goal.give-requires-clause-base
give-requires-clause-base g c =
    let old = c.args.pass.now in
    let mid = c.take-held.new.p in
    let found = c.take-held.result.value in
    let turn : IsFound c.args.lock.now old mid found = record { idle = c.requires.idle; mid_lock = c.take-held.ensures.own; mid_view = c.take-held.ensures.view; seen = c.take-held.ensures.seen; mine = c.take-held.ensures.mine; base_is = c.take-held.ensures.base } in
    let left = c.open_held-opened.new.held.value in
    let leaves : Leaves old.view.number found left = subst (λ (n : ℕ). Leaves n found left) c.number-by.ensures c.open_held-opened.ensures.leaves in
    base_kept c.args.lock.now old mid found turn left leaves

pub returns-clause-goes : goal.returns-clause-goes
returns-clause-goes g c =
    let old = c.args.pass.now in
    let mid = c.take-held.new.p in
    let found = c.take-held.result.value in
    let turn : IsFound c.args.lock.now old mid found = record { idle = c.requires.idle; mid_lock = c.take-held.ensures.own; mid_view = c.take-held.ensures.view; seen = c.take-held.ensures.seen; mine = c.take-held.ensures.mine; base_is = c.take-held.ensures.base } in
    let left = c.open_held-opened.new.held.value in
    let leaves : Leaves old.view.number found left = subst (λ (n : ℕ). Leaves n found left) c.number-by.ensures c.open_held-opened.ensures.leaves in
    went_on c.args.lock.now old mid c.give.new.p found left turn leaves c.give.ensures.own c.give.ensures.view

pub open_held-opened-requires : goal.open_held-opened-requires
open_held-opened-requires g c =
    let old = c.args.pass.now in
    let mid = c.take-held.new.p in
    let found = c.take-held.result.value in
    let turn : IsFound c.args.lock.now old mid found = record { idle = c.requires.idle; mid_lock = c.take-held.ensures.own; mid_view = c.take-held.ensures.view; seen = c.take-held.ensures.seen; mine = c.take-held.ensures.mine; base_is = c.take-held.ensures.base } in
    subst (λ (n : ℕ). MayFollow found.problems found.journal n (Opened c.args.key c.args.budget)) (sym c.number-by.ensures) (may_open_found c.args.lock.now old mid found turn c.args.key c.args.budget c.requires.may)

pub returns-clause-ok : goal.returns-clause-ok
returns-clause-ok g c =
    let old = c.args.pass.now in
    let mid = c.take-held.new.p in
    let found = c.take-held.result.value in
    let turn : IsFound c.args.lock.now old mid found = record { idle = c.requires.idle; mid_lock = c.take-held.ensures.own; mid_view = c.take-held.ensures.view; seen = c.take-held.ensures.seen; mine = c.take-held.ensures.mine; base_is = c.take-held.ensures.base } in
    let left = c.open_held-opened.new.held.value in
    let leaves : Leaves old.view.number found left = subst (λ (n : ℕ). Leaves n found left) c.number-by.ensures c.open_held-opened.ensures.leaves in
    IfOk-weaker c.open_held-opened.result (λ _. left ≡ with_entry found c.number-by.result (Opened c.args.key c.args.budget)) (λ _. HasAdded old c.give.new.p (Opened c.args.key c.args.budget))
    (λ _ is. added c.args.lock.now old mid c.give.new.p found left turn leaves c.give.ensures.own c.give.ensures.view (Opened c.args.key c.args.budget) (subst (λ (n : ℕ). left ≡ with_entry found n (Opened c.args.key c.args.budget)) c.number-by.ensures is)) c.open_held-opened.ensures.ok

pub returns-clause-err : goal.returns-clause-err
returns-clause-err g c =
    let old = c.args.pass.now in
    let mid = c.take-held.new.p in
    let found = c.take-held.result.value in
    let turn : IsFound c.args.lock.now old mid found = record { idle = c.requires.idle; mid_lock = c.take-held.ensures.own; mid_view = c.take-held.ensures.view; seen = c.take-held.ensures.seen; mine = c.take-held.ensures.mine; base_is = c.take-held.ensures.base } in
    let left = c.open_held-opened.new.held.value in
    let leaves : Leaves old.view.number found left = subst (λ (n : ℕ). Leaves n found left) c.number-by.ensures c.open_held-opened.ensures.leaves in
    IfErr-weaker c.open_held-opened.result (λ _. left ≡ found) (λ _. c.give.new.p.view.own ≡ old.view.own) (λ _ same. unchanged c.args.lock.now old mid c.give.new.p found left turn leaves c.give.ensures.own c.give.ensures.view same) c.open_held-opened.ensures.err
