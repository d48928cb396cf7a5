use Rattle.std.proofs.Common.{◌≡◌, ℕ, take, subst}
use Rattle.std.specs.Prelude.{IfOk}
use Rattle.std.proofs.lemmas.Result.{IfErr-weaker}
use Rattle.hub_state.specs.Journal.Noted.{Shared}
use Rattle.hub_state.specs.HubView.{with_entry, moved}
use Rattle.hub_turns.specs.Turned.{Leaves}
use Rattle.hub_turns.proofs.Going.{IsFound, published_found, import_found, goes_on_found, may_give, base_kept, went_on, shared_as, import_stays_shared, unchanged}
use Rattle.hub_turns.proofs.turns.share.Goals as goal

pub give-requires-clause-entries : goal.give-requires-clause-entries
give-requires-clause-entries g c =
    let old = c.args.pass.now in
    let mid = c.take-held.new.p in
    let found = c.take-held.result.value in
    let turn : IsFound c.args.lock.now old mid found = record { idle = c.requires.idle; mid_lock = c.take-held.ensures.own; mid_view = c.take-held.ensures.view; seen = c.take-held.ensures.seen; mine = c.take-held.ensures.mine; base_is = c.take-held.ensures.base } in
    let left = c.share_held-count.new.held.value in
    let leaves : Leaves old.view.number found left = subst (λ (n : ℕ). Leaves n found left) c.number-by.ensures c.share_held-count.ensures.leaves in
    may_give c.args.lock.now old mid found turn left leaves

pub give-requires-clause-base : goal.give-requires-clause-base
give-requires-clause-base g c =
    let old = c.args.pass.now in
    let mid = c.take-held.new.p in
    let found = c.take-held.result.value in
    let turn : IsFound c.args.lock.now old mid found = record { idle = c.requires.idle; mid_lock = c.take-held.ensures.own; mid_view = c.take-held.ensures.view; seen = c.take-held.ensures.seen; mine = c.take-held.ensures.mine; base_is = c.take-held.ensures.base } in
    let left = c.share_held-count.new.held.value in
    let leaves : Leaves old.view.number found left = subst (λ (n : ℕ). Leaves n found left) c.number-by.ensures c.share_held-count.ensures.leaves in
    base_kept c.args.lock.now old mid found turn left leaves

pub returns-clause-goes : goal.returns-clause-goes
returns-clause-goes g c =
    let old = c.args.pass.now in
    let mid = c.take-held.new.p in
    let found = c.take-held.result.value in
    let turn : IsFound c.args.lock.now old mid found = record { idle = c.requires.idle; mid_lock = c.take-held.ensures.own; mid_view = c.take-held.ensures.view; seen = c.take-held.ensures.seen; mine = c.take-held.ensures.mine; base_is = c.take-held.ensures.base } in
    let left = c.share_held-count.new.held.value in
    let leaves : Leaves old.view.number found left = subst (λ (n : ℕ). Leaves n found left) c.number-by.ensures c.share_held-count.ensures.leaves in
    went_on c.args.lock.now old mid c.give.new.p found left turn leaves c.give.ensures.own c.give.ensures.view

pub share_held-count-requires : goal.share_held-count-requires
share_held-count-requires g c =
    let old = c.args.pass.now in
    let mid = c.take-held.new.p in
    let found = c.take-held.result.value in
    let turn : IsFound c.args.lock.now old mid found = record { idle = c.requires.idle; mid_lock = c.take-held.ensures.own; mid_view = c.take-held.ensures.view; seen = c.take-held.ensures.seen; mine = c.take-held.ensures.mine; base_is = c.take-held.ensures.base } in
    goes_on_found c.args.lock.now old mid found turn c.args.key c.args.at c.requires.imported.0 c.requires.imported.1 c.args.free.now c.requires.imported.2 c.requires.imported.3 c.requires.imported.4

pub returns-clause-added : goal.returns-clause-added
returns-clause-added g c =
    let old = c.args.pass.now in
    let mid = c.take-held.new.p in
    let found = c.take-held.result.value in
    let turn : IsFound c.args.lock.now old mid found = record { idle = c.requires.idle; mid_lock = c.take-held.ensures.own; mid_view = c.take-held.ensures.view; seen = c.take-held.ensures.seen; mine = c.take-held.ensures.mine; base_is = c.take-held.ensures.base } in
    let left = c.share_held-count.new.held.value in
    let leaves : Leaves old.view.number found left = subst (λ (n : ℕ). Leaves n found left) c.number-by.ensures c.share_held-count.ensures.leaves in
    λ t there. shared_as c.share_held-count.result c.number-by.result c.args.lock.now old mid c.give.new.p found left turn leaves c.give.ensures.own c.give.ensures.view c.args.key c.args.at t c.args.free.now c.number-by.ensures
    (c.share_held-count.ensures.entry t (published_found c.args.lock.now old mid found turn c.args.key t there)) (c.share_held-count.ensures.longest t (published_found c.args.lock.now old mid found turn c.args.key t there))

pub returns-clause-stays : goal.returns-clause-stays
returns-clause-stays g c =
    let old = c.args.pass.now in
    let mid = c.take-held.new.p in
    let found = c.take-held.result.value in
    let turn : IsFound c.args.lock.now old mid found = record { idle = c.requires.idle; mid_lock = c.take-held.ensures.own; mid_view = c.take-held.ensures.view; seen = c.take-held.ensures.seen; mine = c.take-held.ensures.mine; base_is = c.take-held.ensures.base } in
    let left = c.share_held-count.new.held.value in
    let leaves : Leaves old.view.number found left = subst (λ (n : ℕ). Leaves n found left) c.number-by.ensures c.share_held-count.ensures.leaves in
    λ t pool has. import_stays_shared c.share_held-count.result c.args.lock.now old mid c.give.new.p found left turn leaves c.give.ensures.own c.give.ensures.view c.args.key (λ n. take n (moved found.journal c.args.key t c.args.at c.args.free.now))
    (subst (λ (m : ℕ). IfOk c.share_held-count.result (λ n. left ≡ with_entry found m (Shared c.args.key (take n (moved found.journal c.args.key t c.args.at c.args.free.now))))) c.number-by.ensures (c.share_held-count.ensures.entry t (import_found c.args.lock.now old mid found turn c.args.key t pool has).published))
    c.share_held-count.ensures.err t pool has

pub returns-clause-err : goal.returns-clause-err
returns-clause-err g c =
    let old = c.args.pass.now in
    let mid = c.take-held.new.p in
    let found = c.take-held.result.value in
    let turn : IsFound c.args.lock.now old mid found = record { idle = c.requires.idle; mid_lock = c.take-held.ensures.own; mid_view = c.take-held.ensures.view; seen = c.take-held.ensures.seen; mine = c.take-held.ensures.mine; base_is = c.take-held.ensures.base } in
    let left = c.share_held-count.new.held.value in
    let leaves : Leaves old.view.number found left = subst (λ (n : ℕ). Leaves n found left) c.number-by.ensures c.share_held-count.ensures.leaves in
    IfErr-weaker c.share_held-count.result (λ _. left ≡ found) (λ _. c.give.new.p.view.own ≡ old.view.own) (λ _ same. unchanged c.args.lock.now old mid c.give.new.p found left turn leaves c.give.ensures.own c.give.ensures.view same) c.share_held-count.ensures.err
