use Rattle.std.proofs.Common.{◌∙◌, All, arith, sym, subst}
use Rattle.sat_core.specs.Search.{IsVarIn}
use Rattle.sat_core.proofs.Assumes.{first_forced}
use Rattle.sat_core.proofs.Stops.{stuck_above, clash_below, closed_below_forced, assumed_whole}
use Rattle.sat_core.proofs.deciding.assume.Goals as goal

pub returns-then-level-depth-clause-end : goal.returns-then-level-depth-clause-end
returns-then-level-depth-clause-end c =
    let now = c.in-Conflict.ensures in
    stuck_above c.args.trail.now c.propagate.new.self now.clauses now.assigned c.args.assumed.now c.args.depth.now c.requires.closed_below c.requires.first now.trail c.in-Conflict.number now.propagated (omega (arith, c.if-level-depth.true, c.level.ensures.level))

pub returns-in-Conflict-clause-end : goal.returns-in-Conflict-clause-end
returns-in-Conflict-clause-end c =
    let now = c.in-Conflict.ensures in
    clash_below c.args.trail.now c.propagate.new.self now.clauses now.assigned c.args.assumed.now c.args.depth.now c.requires.closed_below c.requires.first now.trail c.in-Conflict.number now.propagated (omega (arith, c.if-level-depth.false, c.level.ensures.level))

pub returns-then-level-depth-clause-first : goal.returns-then-level-depth-clause-first
returns-then-level-depth-clause-first c = first_forced c.args.trail.now.assigned c.args.assumed.now c.args.depth.now c.requires.first c.propagate.new.self.assigned c.in-Conflict.ensures.assigned

pub returns-in-Conflict-clause-first : goal.returns-in-Conflict-clause-first
returns-in-Conflict-clause-first c = first_forced c.args.trail.now.assigned c.args.assumed.now c.args.depth.now c.requires.first c.propagate.new.self.assigned c.in-Conflict.ensures.assigned

pub loop-place-init : goal.loop-place-init
loop-place-init c =
    let now = c.in_default.ensures in
    record {
      vars = now.vars;
      clauses = now.clauses;
      so_far = record {
        ordered = now.trail;
        closed = now.propagated;
        closed_below = closed_below_forced c.args.trail.now c.propagate.new.self now.clauses now.assigned c.requires.closed_below;
        first = first_forced c.args.trail.now.assigned c.args.assumed.now c.args.depth.now c.requires.first c.propagate.new.self.assigned now.assigned;
        so_far = λ k d h. absurd (omega arith);
      };
    }

pub assume_at-requires-clause-in_range : goal.assume_at-requires-clause-in_range
assume_at-requires-clause-in_range c = subst (λ n. All (IsVarIn n) c.args.assumed.now) (sym c.loop-place.invariant.vars) c.requires.in_range

pub loop-place-preserved : goal.loop-place-preserved
loop-place-preserved c =
    let was = c.loop-place.invariant in
    record { vars = c.assume_at.ensures.vars ∙ was.vars; clauses = c.assume_at.ensures.clauses ∙ was.clauses; so_far = c.if-assume_at.ensures.end }

pub returns-then-assume_at-clause-end : goal.returns-then-assume_at-clause-end
returns-then-assume_at-clause-end c = c.if-assume_at.ensures.end

pub returns-clause-end : goal.returns-clause-end
returns-clause-end c = assumed_whole c.loop-place.trail c.args.assumed.now c.loop-place.place c.loop-place.depth c.loop-place.invariant.so_far c.loop-place-test.false
