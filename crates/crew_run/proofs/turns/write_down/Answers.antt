use Rattle.std.proofs.Common.{◌≢◌, ℕ, take, drop, All, sym, subst, arith}
use Rattle.hub_lock.proofs.Lists.{prefix_length}
use Rattle.crew_run.specs.declared.event.CrewEntry.{CrewEntry}
use Rattle.crew_run.specs.Crew.{MayFollow}
use Rattle.crew_run.specs.Passing.{Leaves}
use Rattle.crew_run.proofs.Turning.{IsFound, others_found, may_found, may_give, base_kept, went_on}
use Rattle.crew_run.proofs.turns.write_down.Goals as goal

pub write_held-added-requires-clause-read : goal.write_held-added-requires-clause-read
write_held-added-requires-clause-read g c =
    let old = c.args.pass.now in
    let found = c.take-held.result.value in
    let long = prefix_length old.view.seen found.entries c.take-held.ensures.seen in
    let e = c.requires.read in
    omega arith

pub write_held-added-requires-clause-others : goal.write_held-added-requires-clause-others
write_held-added-requires-clause-others g c =
    let old = c.args.pass.now in
    let mid = c.take-held.new.p in
    let found = c.take-held.result.value in
    let turn : IsFound c.args.lock.now old mid found = record { idle = c.requires.idle; mid_lock = c.take-held.ensures.own; mid_view = c.take-held.ensures.view; seen = c.take-held.ensures.seen; mine = c.take-held.ensures.mine; base_is = c.take-held.ensures.base } in
    subst (λ (by : ℕ). All (λ (e : CrewEntry). e.by ≢ by) (drop c.args.read found.entries)) (sym c.number-by.ensures)
    (subst (λ (n : ℕ). All (λ (e : CrewEntry). e.by ≢ old.view.number) (drop n found.entries)) (sym c.requires.read) (others_found c.args.lock.now old mid found turn c.requires.own))

pub write_held-added-requires-clause-may : goal.write_held-added-requires-clause-may
write_held-added-requires-clause-may g c =
    let old = c.args.pass.now in
    let mid = c.take-held.new.p in
    let found = c.take-held.result.value in
    let turn : IsFound c.args.lock.now old mid found = record { idle = c.requires.idle; mid_lock = c.take-held.ensures.own; mid_view = c.take-held.ensures.view; seen = c.take-held.ensures.seen; mine = c.take-held.ensures.mine; base_is = c.take-held.ensures.base } in
    subst (λ (by : ℕ). MayFollow found.task.translation found.task.budget (take c.args.read found.entries) by c.args.event) (sym c.number-by.ensures)
    (subst (λ (n : ℕ). MayFollow found.task.translation found.task.budget (take n found.entries) old.view.number c.args.event) (sym c.requires.read) (may_found c.args.lock.now old mid found turn c.args.event c.requires.may))

pub give-requires-clause-entries : goal.give-requires-clause-entries
give-requires-clause-entries g c =
    let old = c.args.pass.now in
    let mid = c.take-held.new.p in
    let found = c.take-held.result.value in
    let turn : IsFound c.args.lock.now old mid found = record { idle = c.requires.idle; mid_lock = c.take-held.ensures.own; mid_view = c.take-held.ensures.view; seen = c.take-held.ensures.seen; mine = c.take-held.ensures.mine; base_is = c.take-held.ensures.base } in
    let left = c.write_held-added.new.held.value in
    let leaves : Leaves old.view.number found left = subst (λ (n : ℕ). Leaves n found left) c.number-by.ensures c.write_held-added.ensures.leaves in
    may_give c.args.lock.now old mid found turn left leaves

pub give-requires-clause-base : goal.give-requires-clause-base
give-requires-clause-base g c =
    let old = c.args.pass.now in
    let mid = c.take-held.new.p in
    let found = c.take-held.result.value in
    let turn : IsFound c.args.lock.now old mid found = record { idle = c.requires.idle; mid_lock = c.take-held.ensures.own; mid_view = c.take-held.ensures.view; seen = c.take-held.ensures.seen; mine = c.take-held.ensures.mine; base_is = c.take-held.ensures.base } in
    let left = c.write_held-added.new.held.value in
    let leaves : Leaves old.view.number found left = subst (λ (n : ℕ). Leaves n found left) c.number-by.ensures c.write_held-added.ensures.leaves in
    base_kept c.args.lock.now old mid found turn left leaves

pub returns : goal.returns
returns g c =
    let old = c.args.pass.now in
    let mid = c.take-held.new.p in
    let found = c.take-held.result.value in
    let turn : IsFound c.args.lock.now old mid found = record { idle = c.requires.idle; mid_lock = c.take-held.ensures.own; mid_view = c.take-held.ensures.view; seen = c.take-held.ensures.seen; mine = c.take-held.ensures.mine; base_is = c.take-held.ensures.base } in
    let left = c.write_held-added.new.held.value in
    let leaves : Leaves old.view.number found left = subst (λ (n : ℕ). Leaves n found left) c.number-by.ensures c.write_held-added.ensures.leaves in
    went_on c.args.lock.now old mid c.give.new.p found left turn leaves c.give.ensures.own c.give.ensures.view
