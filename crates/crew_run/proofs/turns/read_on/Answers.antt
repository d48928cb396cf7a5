use Rattle.std.proofs.Common.{List, refl, sym, subst}
use Rattle.std.specs.Prelude.{OnOk}
use Rattle.crew_run.specs.declared.event.CrewEntry.{CrewEntry}
use Rattle.crew_run.specs.Passing.{HasReadAll, Leaves}
use Rattle.crew_run.proofs.Turning.{IsFound, leaves_same, read_found, may_give, base_kept, went_on, seen_is}
use Rattle.crew_run.proofs.turns.read_on.Goals as goal

pub read_held-open-requires : goal.read_held-open-requires
read_held-open-requires g c =
    let old = c.args.pass.now in
    let mid = c.take-held.new.p in
    let found = c.take-held.result.value in
    let turn : IsFound c.args.lock.now old mid found = record { idle = c.requires.idle; mid_lock = c.take-held.ensures.own; mid_view = c.take-held.ensures.view; seen = c.take-held.ensures.seen; mine = c.take-held.ensures.mine; base_is = c.take-held.ensures.base } in
    read_found c.args.lock.now old mid found turn c.args.reading.now c.requires.reading

pub give-requires-clause-entries : goal.give-requires-clause-entries
give-requires-clause-entries g c =
    let old = c.args.pass.now in
    let mid = c.take-held.new.p in
    let found = c.take-held.result.value in
    let turn : IsFound c.args.lock.now old mid found = record { idle = c.requires.idle; mid_lock = c.take-held.ensures.own; mid_view = c.take-held.ensures.view; seen = c.take-held.ensures.seen; mine = c.take-held.ensures.mine; base_is = c.take-held.ensures.base } in
    let leaves : Leaves old.view.number found found = leaves_same old.view.number found found refl c.read_held-open.ensures.legal in
    may_give c.args.lock.now old mid found turn found leaves

pub give-requires-clause-base : goal.give-requires-clause-base
give-requires-clause-base g c =
    let old = c.args.pass.now in
    let mid = c.take-held.new.p in
    let found = c.take-held.result.value in
    let turn : IsFound c.args.lock.now old mid found = record { idle = c.requires.idle; mid_lock = c.take-held.ensures.own; mid_view = c.take-held.ensures.view; seen = c.take-held.ensures.seen; mine = c.take-held.ensures.mine; base_is = c.take-held.ensures.base } in
    let leaves : Leaves old.view.number found found = leaves_same old.view.number found found refl c.read_held-open.ensures.legal in
    base_kept c.args.lock.now old mid found turn found leaves

pub returns-clause-goes : goal.returns-clause-goes
returns-clause-goes g c =
    let old = c.args.pass.now in
    let mid = c.take-held.new.p in
    let found = c.take-held.result.value in
    let turn : IsFound c.args.lock.now old mid found = record { idle = c.requires.idle; mid_lock = c.take-held.ensures.own; mid_view = c.take-held.ensures.view; seen = c.take-held.ensures.seen; mine = c.take-held.ensures.mine; base_is = c.take-held.ensures.base } in
    let leaves : Leaves old.view.number found found = leaves_same old.view.number found found refl c.read_held-open.ensures.legal in
    went_on c.args.lock.now old mid c.give.new.p found found turn leaves c.give.ensures.own c.give.ensures.view

pub returns-clause-read : goal.returns-clause-read
returns-clause-read g c =
    let old = c.args.pass.now in
    let mid = c.take-held.new.p in
    let found = c.take-held.result.value in
    let turn : IsFound c.args.lock.now old mid found = record { idle = c.requires.idle; mid_lock = c.take-held.ensures.own; mid_view = c.take-held.ensures.view; seen = c.take-held.ensures.seen; mine = c.take-held.ensures.mine; base_is = c.take-held.ensures.base } in
    let leaves : Leaves old.view.number found found = leaves_same old.view.number found found refl c.read_held-open.ensures.legal in
    subst (λ (es : List CrewEntry). OnOk c.read_held-open.result (HasReadAll es c.read_held-open.new.reading)) (sym (seen_is c.args.lock.now old mid c.give.new.p found found turn leaves c.give.ensures.own c.give.ensures.view)) c.read_held-open.ensures.read
