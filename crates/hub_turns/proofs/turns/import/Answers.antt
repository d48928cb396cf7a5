use Rattle.std.proofs.Common.{◌≡◌, ℕ, length, subst}
use Rattle.std.proofs.lemmas.Result.{IfOk-weaker, IfErr-weaker}
use Rattle.hub_state.specs.Journal.Noted.{Imported}
use Rattle.hub_state.specs.Journal.Journal.{HasImported, IsPool, pool_of}
use Rattle.hub_state.specs.HubView.{with_entry}
use Rattle.hub_turns.specs.Turned.{HasAdded, Leaves}
use Rattle.hub_turns.proofs.Going.{IsFound, published_found, may_give, base_kept, went_on, added, imported_as, imported_all, has_imported, begins_found, begins_now, unchanged}
use Rattle.hub_turns.proofs.turns.import.Goals as goal

pub give-requires-clause-entries : goal.give-requires-clause-entries
give-requires-clause-entries g c =
    let old = c.args.pass.now in
    let mid = c.take-held.new.p in
    let found = c.take-held.result.value in
    let turn : IsFound c.args.lock.now old mid found = record { idle = c.requires.idle; mid_lock = c.take-held.ensures.own; mid_view = c.take-held.ensures.view; seen = c.take-held.ensures.seen; mine = c.take-held.ensures.mine; base_is = c.take-held.ensures.base } in
    let left = c.import_held-imported.new.held.value in
    let leaves : Leaves old.view.number found left = subst (λ (n : ℕ). Leaves n found left) c.number-by.ensures c.import_held-imported.ensures.leaves in
    may_give c.args.lock.now old mid found turn left leaves

pub give-requires-clause-base : goal.give-requires-clause-base
give-requires-clause-base g c =
    let old = c.args.pass.now in
    let mid = c.take-held.new.p in
    let found = c.take-held.result.value in
    let turn : IsFound c.args.lock.now old mid found = record { idle = c.requires.idle; mid_lock = c.take-held.ensures.own; mid_view = c.take-held.ensures.view; seen = c.take-held.ensures.seen; mine = c.take-held.ensures.mine; base_is = c.take-held.ensures.base } in
    let left = c.import_held-imported.new.held.value in
    let leaves : Leaves old.view.number found left = subst (λ (n : ℕ). Leaves n found left) c.number-by.ensures c.import_held-imported.ensures.leaves in
    base_kept c.args.lock.now old mid found turn left leaves

pub returns-clause-goes : goal.returns-clause-goes
returns-clause-goes g c =
    let old = c.args.pass.now in
    let mid = c.take-held.new.p in
    let found = c.take-held.result.value in
    let turn : IsFound c.args.lock.now old mid found = record { idle = c.requires.idle; mid_lock = c.take-held.ensures.own; mid_view = c.take-held.ensures.view; seen = c.take-held.ensures.seen; mine = c.take-held.ensures.mine; base_is = c.take-held.ensures.base } in
    let left = c.import_held-imported.new.held.value in
    let leaves : Leaves old.view.number found left = subst (λ (n : ℕ). Leaves n found left) c.number-by.ensures c.import_held-imported.ensures.leaves in
    went_on c.args.lock.now old mid c.give.new.p found left turn leaves c.give.ensures.own c.give.ensures.view

pub import_held-imported-requires-clause-published : goal.import_held-imported-requires-clause-published
import_held-imported-requires-clause-published g c =
    let old = c.args.pass.now in
    let mid = c.take-held.new.p in
    let found = c.take-held.result.value in
    let turn : IsFound c.args.lock.now old mid found = record { idle = c.requires.idle; mid_lock = c.take-held.ensures.own; mid_view = c.take-held.ensures.view; seen = c.take-held.ensures.seen; mine = c.take-held.ensures.mine; base_is = c.take-held.ensures.base } in
    (c.requires.published.0, published_found c.args.lock.now old mid found turn c.args.key c.requires.published.0 c.requires.published.1)

pub import_held-imported-requires-clause-begins : goal.import_held-imported-requires-clause-begins
import_held-imported-requires-clause-begins g c =
    let old = c.args.pass.now in
    let mid = c.take-held.new.p in
    let found = c.take-held.result.value in
    let turn : IsFound c.args.lock.now old mid found = record { idle = c.requires.idle; mid_lock = c.take-held.ensures.own; mid_view = c.take-held.ensures.view; seen = c.take-held.ensures.seen; mine = c.take-held.ensures.mine; base_is = c.take-held.ensures.base } in
    begins_found c.args.lock.now old mid found turn c.args.key c.args.have.now c.requires.begins

pub returns-clause-added : goal.returns-clause-added
returns-clause-added g c =
    let old = c.args.pass.now in
    let mid = c.take-held.new.p in
    let found = c.take-held.result.value in
    let turn : IsFound c.args.lock.now old mid found = record { idle = c.requires.idle; mid_lock = c.take-held.ensures.own; mid_view = c.take-held.ensures.view; seen = c.take-held.ensures.seen; mine = c.take-held.ensures.mine; base_is = c.take-held.ensures.base } in
    let left = c.import_held-imported.new.held.value in
    let leaves : Leaves old.view.number found left = subst (λ (n : ℕ). Leaves n found left) c.number-by.ensures c.import_held-imported.ensures.leaves in
    let have = c.import_held-imported.new.have in
    let both = imported_as c.import_held-imported.result c.number-by.result old.view.number c.args.key found left have c.number-by.ensures c.import_held-imported.ensures.pool c.import_held-imported.ensures.entry in
    IfOk-weaker c.import_held-imported.result (λ _. (left ≡ with_entry found old.view.number (Imported c.args.key (length have))) × (have ≡ pool_of c.args.key found.journal)) (λ _. HasAdded old c.give.new.p (Imported c.args.key (length have)))
    (λ _ is. added c.args.lock.now old mid c.give.new.p found left turn leaves c.give.ensures.own c.give.ensures.view (Imported c.args.key (length have)) is.0) both

pub returns-clause-pool : goal.returns-clause-pool
returns-clause-pool g c =
    let old = c.args.pass.now in
    let mid = c.take-held.new.p in
    let found = c.take-held.result.value in
    let turn : IsFound c.args.lock.now old mid found = record { idle = c.requires.idle; mid_lock = c.take-held.ensures.own; mid_view = c.take-held.ensures.view; seen = c.take-held.ensures.seen; mine = c.take-held.ensures.mine; base_is = c.take-held.ensures.base } in
    let left = c.import_held-imported.new.held.value in
    let leaves : Leaves old.view.number found left = subst (λ (n : ℕ). Leaves n found left) c.number-by.ensures c.import_held-imported.ensures.leaves in
    let have = c.import_held-imported.new.have in
    let both = imported_as c.import_held-imported.result c.number-by.result old.view.number c.args.key found left have c.number-by.ensures c.import_held-imported.ensures.pool c.import_held-imported.ensures.entry in
    IfOk-weaker c.import_held-imported.result (λ _. (left ≡ with_entry found old.view.number (Imported c.args.key (length have))) × (have ≡ pool_of c.args.key found.journal)) (λ _. have ≡ pool_of c.args.key c.give.new.p.view.seen)
    (λ _ is. imported_all c.args.lock.now old mid c.give.new.p found left turn leaves c.give.ensures.own c.give.ensures.view c.args.key have is.0 is.1) both

pub returns-clause-imported : goal.returns-clause-imported
returns-clause-imported g c =
    let old = c.args.pass.now in
    let mid = c.take-held.new.p in
    let found = c.take-held.result.value in
    let turn : IsFound c.args.lock.now old mid found = record { idle = c.requires.idle; mid_lock = c.take-held.ensures.own; mid_view = c.take-held.ensures.view; seen = c.take-held.ensures.seen; mine = c.take-held.ensures.mine; base_is = c.take-held.ensures.base } in
    let left = c.import_held-imported.new.held.value in
    let leaves : Leaves old.view.number found left = subst (λ (n : ℕ). Leaves n found left) c.number-by.ensures c.import_held-imported.ensures.leaves in
    let have = c.import_held-imported.new.have in
    let both = imported_as c.import_held-imported.result c.number-by.result old.view.number c.args.key found left have c.number-by.ensures c.import_held-imported.ensures.pool c.import_held-imported.ensures.entry in
    λ t there. IfOk-weaker c.import_held-imported.result (λ _. (left ≡ with_entry found old.view.number (Imported c.args.key (length have))) × (have ≡ pool_of c.args.key found.journal)) (λ _. HasImported c.give.new.p.view.seen old.view.number c.args.key t have × IsPool t have)
    (λ _ is. has_imported c.args.lock.now old mid c.give.new.p found left turn leaves c.give.ensures.own c.give.ensures.view c.args.key t have is.0 is.1 there) both

pub returns-clause-begins : goal.returns-clause-begins
returns-clause-begins g c =
    let old = c.args.pass.now in
    let mid = c.take-held.new.p in
    let found = c.take-held.result.value in
    let turn : IsFound c.args.lock.now old mid found = record { idle = c.requires.idle; mid_lock = c.take-held.ensures.own; mid_view = c.take-held.ensures.view; seen = c.take-held.ensures.seen; mine = c.take-held.ensures.mine; base_is = c.take-held.ensures.base } in
    let left = c.import_held-imported.new.held.value in
    let leaves : Leaves old.view.number found left = subst (λ (n : ℕ). Leaves n found left) c.number-by.ensures c.import_held-imported.ensures.leaves in
    begins_now c.args.lock.now old mid c.give.new.p found left turn leaves c.give.ensures.own c.give.ensures.view c.args.key c.import_held-imported.new.have c.import_held-imported.ensures.begins

pub returns-clause-err : goal.returns-clause-err
returns-clause-err g c =
    let old = c.args.pass.now in
    let mid = c.take-held.new.p in
    let found = c.take-held.result.value in
    let turn : IsFound c.args.lock.now old mid found = record { idle = c.requires.idle; mid_lock = c.take-held.ensures.own; mid_view = c.take-held.ensures.view; seen = c.take-held.ensures.seen; mine = c.take-held.ensures.mine; base_is = c.take-held.ensures.base } in
    let left = c.import_held-imported.new.held.value in
    let leaves : Leaves old.view.number found left = subst (λ (n : ℕ). Leaves n found left) c.number-by.ensures c.import_held-imported.ensures.leaves in
    IfErr-weaker c.import_held-imported.result (λ _. left ≡ found) (λ _. c.give.new.p.view.own ≡ old.view.own) (λ _ same. unchanged c.args.lock.now old mid c.give.new.p found left turn leaves c.give.ensures.own c.give.ensures.view same) c.import_held-imported.ensures.err
