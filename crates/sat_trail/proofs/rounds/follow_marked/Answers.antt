use Rattle.std.proofs.Common.{◌≡◌, ◌<◌, [], ℕ, length, get_or, arith, ap, refl, sym, ◌∙◌, subst}
use Rattle.std.proofs.lemmas.List.{get_or_default}
use Rattle.unit_propagation.specs.Assignments.Trail.{falses_of}
use Rattle.unit_propagation.proofs.Assignments.Trails.{forces_trans}
use Rattle.sat_trail.specs.Rounds.{IsQuiet}
use Rattle.sat_trail.proofs.Follows.{listed_in, quiet_more}
use Rattle.sat_trail.proofs.Trails.{more_long}
use Rattle.sat_trail.proofs.rounds.follow_marked.Goals as goal

pub follow-requires-clause-level : goal.follow-requires-clause-level
follow-requires-clause-level c = c.requires.level ∙ sym c.loop-n.invariant.level

pub follow-requires-clause-in_range : goal.follow-requires-clause-in_range
follow-requires-clause-in_range c = listed_in _ _ c.loop-n.n-index _ _ c.list-n-items.ensures.marks (rw c.list-n-items.ensures.list at c.loop-n-test.true) (rw c.list-n-items.ensures.list refl) c.requires.ready.flags_long

pub loop-n-preserved : goal.loop-n-preserved
loop-n-preserved c =
    let was = c.loop-n.invariant in
    record {
      ready = c.follow.ensures.ready;
      vars = c.follow.ensures.vars ∙ was.vars;
      more = forces_trans _ _ _ was.more c.follow.ensures.more;
      level = c.follow.ensures.level ∙ was.level;
      quiet = quiet_more c.args.store.now c.args.now.now c.loop-n.now c.follow.new.now c.args.pending.now.list c.loop-n.n-index (more_long _ _ was.more) (rw c.list-n-items.ensures.list at c.if-follow.ensures.followed) was.quiet;
    }

pub returns-then-follow-clause-more : goal.returns-then-follow-clause-more
returns-then-follow-clause-more c = forces_trans _ _ _ c.loop-n.invariant.more c.follow.ensures.more

pub returns-clause-found : goal.returns-clause-found
returns-clause-found c = λ long n m.
    let there = c.list-n-items.ensures.marks.covers n m in
    let reached : there.0 < c.loop-n.n-index = omega (arith, there.1, ap length c.list-n-items.ensures.list, c.loop-n-test.false) in
    let read : get_or c.args.pending.now.list there.0 0 ≡ n = get_or_default c.args.pending.now.list there.0 0 n there.1 ∙ there.2 in
    subst (λ (k : ℕ). IsQuiet (falses_of c.loop-n.now.assigned) (get_or c.args.store.now k [])) read (c.loop-n.invariant.quiet long there.0 reached)

pub returns-then-follow-clause-found : goal.returns-then-follow-clause-found
returns-then-follow-clause-found c = c.if-follow.ensures.followed
