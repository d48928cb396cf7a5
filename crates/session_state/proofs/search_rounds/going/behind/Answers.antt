use Rattle.std.proofs.Common.{◌≡◌, ◌≤◌, ◌+◌, ◌^◌, ℕ, List, length, ap, subst, arith}
use Rattle.sat_core.specs.Kept.{Kept}
use Rattle.translation_rules.specs.Locals.{locals_of}
use Rattle.session_state.specs.declared.search_rounds.round.RoundEnd.{RoundEnd}
use Rattle.session_state.specs.declared.search_rounds.round.RoundEnd.TheVariants.{Due, Spent}
use Rattle.session_state.specs.Rounds.Rounds.{left_in, parts_in, IsRoundAt}
use Rattle.session_state.specs.Rounds.Descended.{DescendsTo}
use Rattle.session_state.specs.Rounds.Going.{silent, telling}
use Rattle.session_state.proofs.Rounds.GoingOn.{copy_right, silent_round, told_right, told_round, told_stopped, untold}
use Rattle.session_state.proofs.search_rounds.going.behind.Goals as goal

pub overflow_add-left : goal.overflow_add-left
overflow_add-left c =
    let t = c.args.translation.now in
    let d = subst (DescendsTo t c.args.pool.now c.args.floor.now c.args.shown.now (silent t c.args.floor.now c.args.blocked.now) c.args.start.now c.args.left) c.in-Copy.is c.requires.down in
    let units = d.leads.2 in
    let room = c.requires.room in
    let few = c.requires.budget in
    let long = c.len.ensures in
    omega arith

pub returns-in-Copy : goal.returns-in-Copy
returns-in-Copy c =
    let t = c.args.translation.now in
    let pool = c.args.pool.now in
    let floor = c.args.floor.now in
    let shown = c.args.shown.now in
    let blocked = c.args.blocked.now in
    let start = c.args.start.now in
    let left = c.args.left in
    let budget = c.args.budget in
    let k : Kept = c.args.search.now in
    let copy : List ℕ = c.in-Copy.scenario in
    let rest = c.in-Copy.rest in
    let over = rest + c.len.result in
    let over_is : over ≡ rest + length k.steps = ap (λ (n : ℕ). rest + n) c.len.ensures in
    let left_is : left_in c.args.end ≡ rest = ap left_in c.in-Copy.is in
    record {
      parts = subst (λ (e : RoundEnd). IsRoundAt t pool floor blocked budget (parts_in e)) c.in-Copy.is (silent_round t pool floor shown blocked start c.requires.start left budget k c.requires.going c.requires.open c.requires.room c.args.end c.requires.down);
      answer = copy_right t pool floor shown blocked start c.requires.start left budget k c.requires.going c.requires.open c.requires.room c.args.end c.requires.down copy c.in-Copy.parts rest over c.in-Copy.is over_is;
      stopped = tt;
      untold = untold t pool floor shown blocked start c.requires.start left budget k c.requires.going c.requires.open c.requires.room c.args.end c.requires.down copy c.in-Copy.parts rest over c.in-Copy.is over_is;
      left = omega arith;
    }

pub told-requires-clause-within : goal.told-requires-clause-within
told-requires-clause-within c = c.requires.going.holds.within

pub told-requires-clause-parts : goal.told-requires-clause-parts
told-requires-clause-parts c =
    let t = c.args.translation.now in
    let floor = c.args.floor.now in
    let blocked = c.args.blocked.now in
    let d = subst (DescendsTo t c.args.pool.now floor c.args.shown.now (silent t floor blocked) c.args.start.now c.args.left) c.in-Spent.is c.requires.down in
    let short = c.requires.short in
    let room = c.requires.room in
    let fits : length (locals_of t floor blocked) + length c.args.search.now.steps ≤ 2 ^ 28 = omega arith in
    (silent t floor blocked, d.parts, d.in_order, fits)

pub returns-in_ok-parts-in-Spent : goal.returns-in_ok-parts-in-Spent
returns-in_ok-parts-in-Spent c =
    let t = c.args.translation.now in
    let pool = c.args.pool.now in
    let floor = c.args.floor.now in
    let shown = c.args.shown.now in
    let blocked = c.args.blocked.now in
    let start = c.args.start.now in
    let left = c.args.left in
    let budget = c.args.budget in
    let k : Kept = c.args.search.now in
    let d = subst (DescendsTo t pool floor shown (silent t floor blocked) start left) c.in-Spent.is c.requires.down in
    let end : RoundEnd = Spent c.in_ok-parts-in-Spent.parts in
    let told : DescendsTo t pool floor shown (telling t floor blocked k) start left end =
    record { parts = d.parts; in_order = c.in_ok-parts-in-Spent.ensures (silent t floor blocked) d.parts d.in_order; descent = d.descent; leads = d.leads } in
    record {
      parts = told_round t pool floor shown blocked start c.requires.start left budget k c.requires.going c.requires.open c.requires.room end told;
      answer = told_right t pool floor shown blocked start c.requires.start left budget k c.requires.going c.requires.open c.requires.room end told;
      stopped = told_stopped t pool floor shown blocked start c.requires.start left budget k c.requires.going c.requires.open c.requires.room end told;
      untold = tt;
      left = omega arith;
    }

pub returns-in-Due : goal.returns-in-Due
returns-in-Due c =
    let t = c.args.translation.now in
    let pool = c.args.pool.now in
    let floor = c.args.floor.now in
    let shown = c.args.shown.now in
    let blocked = c.args.blocked.now in
    let start = c.args.start.now in
    let left = c.args.left in
    let end : RoundEnd = Due c.in-Due.scenario c.in-Due.parts in
    let d : DescendsTo t pool floor shown (silent t floor blocked) start left end = subst (DescendsTo t pool floor shown (silent t floor blocked) start left) c.in-Due.is c.requires.down in
    record {
      parts = silent_round t pool floor shown blocked start c.requires.start left c.args.budget c.args.search.now c.requires.going c.requires.open c.requires.room end d;
      answer = d.leads;
      stopped = tt;
      untold = tt;
      left = omega arith;
    }

pub returns-in-Refuted : goal.returns-in-Refuted
returns-in-Refuted c =
    let t = c.args.translation.now in
    let floor = c.args.floor.now in
    let d = subst (DescendsTo t c.args.pool.now floor c.args.shown.now (silent t floor c.args.blocked.now) c.args.start.now c.args.left) c.in-Refuted.is c.requires.down in
    absurd d.leads
