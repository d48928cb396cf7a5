use Rattle.std.proofs.Common.{◌≡◌, ◌<◌, ◌+◌, ◌-◌, ℕ, List, length, get_or, arith, ap, ◌∙◌, sym, subst}
use Rattle.std.proofs.lemmas.List.Edits.{get_or-remove_below, length-remove}
use Rattle.std.specs.List.{remove}
use Rattle.unit_propagation.specs.Watches.WatchState.{WatchState, list_at, link_at}
use Rattle.unit_propagation.proofs.Assignments.Trails.{forces_trans}
use Rattle.unit_propagation.proofs.Propagation.Slots.{slot_there}
use Rattle.unit_propagation.proofs.Propagation.Loops.{link_some, link_none, link_removed, walked, ready_of}
use Rattle.unit_propagation.proofs.watched_literals.walk.propagate_one.Goals as goal

pub next-next-requires : goal.next-next-requires
next-next-requires c =
    let was = c.slots.invariant in
    let some = link_some _ _ _ was.link c.slots-test.true in
    slot_there _ c.args.gone c.slots.at _ c.len-count.ensures.listed was.in_lists some.0 some.1

pub look_at-requires-clause-at_slot : goal.look_at-requires-clause-at_slot
look_at-requires-clause-at_slot c =
    let was = c.slots.invariant in
    let some = link_some _ _ _ was.link c.slots-test.true in
    record { walking = was.walking; here = some.0; is = some.1; gone_low = c.requires.gone_low; gone_in = was.in_lists }

pub returns-in-Falsified-clause-more : goal.returns-in-Falsified-clause-more
returns-in-Falsified-clause-more c = forces_trans _ _ _ c.slots.invariant.more c.look_at.ensures.more

pub slots-preserved-in-Kept : goal.slots-preserved-in-Kept
slots-preserved-in-Kept c =
    let was = c.slots.invariant in
    let some = link_some _ _ _ was.link c.slots-test.true in
    let next = c.next-next.ensures c.args.gone c.slots.at was.in_lists some.0 some.1 in
    let stepped = c.in-Kept.ensures.stepped in
    let back : (c.slots.at + 1) - 1 ≡ c.slots.at = omega arith in
    record {
      walking = stepped.0;
      link = next ∙ ap (λ (w : WatchState). link_at (list_at w.lists c.args.gone) (c.slots.at + 1)) (sym stepped.1);
      before = λ _. ap (λ (w : WatchState). get_or (list_at w.lists c.args.gone) ((c.slots.at + 1) - 1) 0) stepped.1 ∙ (ap (λ (k : ℕ). get_or (list_at c.slots.watches.lists c.args.gone) k 0) back ∙ some.1);
      in_lists = subst (λ (w : WatchState). c.args.gone < length w.lists) (sym stepped.1) was.in_lists;
      vars = c.look_at.ensures.vars ∙ was.vars;
      more = forces_trans _ _ _ was.more c.look_at.ensures.more;
      level = c.look_at.ensures.level ∙ was.level;
    }

pub slots-preserved : goal.slots-preserved
slots-preserved c =
    let was = c.slots.invariant in
    let some = link_some _ _ _ was.link c.slots-test.true in
    let next = c.next-next.ensures c.args.gone c.slots.at was.in_lists some.0 some.1 in
    let stepped = c.in-Moved.ensures.stepped in
    let list : List ℕ = list_at c.slots.watches.lists c.args.gone in
    record {
      walking = stepped.0;
      link = next ∙ (sym (link_removed list c.slots.at some.0) ∙ ap (λ (xs : List ℕ). link_at xs c.slots.at) (sym stepped.1));
      before = λ more. ap (λ (xs : List ℕ). get_or xs (c.slots.at - 1) 0) stepped.1 ∙ (get_or-remove_below list c.slots.at 0 (c.slots.at - 1) (omega arith) some.0 ∙ was.before more);
      in_lists = omega (arith, stepped.0.lists, was.walking.lists, c.look_at.ensures.vars, was.in_lists);
      vars = c.look_at.ensures.vars ∙ was.vars;
      more = forces_trans _ _ _ was.more c.look_at.ensures.more;
      level = c.look_at.ensures.level ∙ was.level;
    }

pub slots-smaller : goal.slots-smaller
slots-smaller c =
    let was = c.slots.invariant in
    let some = link_some _ _ _ was.link c.slots-test.true in
    let stepped = c.in-Moved.ensures.stepped in
    let list : List ℕ = list_at c.slots.watches.lists c.args.gone in
    let shorter : length (remove list c.slots.at) + 1 ≡ length list = length-remove list c.slots.at some.0 in
    let now : length (list_at c.look_at.new.watches.lists c.args.gone) ≡ length (remove list c.slots.at) = ap length stepped.1 in
    omega (arith, shorter, now, some.0)

pub returns-clause-walked : goal.returns-clause-walked
returns-clause-walked c =
    let was = c.slots.invariant in
    ready_of _ _ _ _ _ _ _ _ was.walking (omega arith) (walked _ _ _ _ _ _ _ was.walking c.len-count-2.ensures.listed (link_none _ _ _ was.link c.slots-test.false))

pub returns-in-Falsified-clause-walked : goal.returns-in-Falsified-clause-walked
returns-in-Falsified-clause-walked c =
    let stepped = c.in-Falsified.ensures.stepped in
    (ready_of _ _ _ _ _ _ _ _ stepped.0 (omega arith) stepped.0.right, stepped.1)
