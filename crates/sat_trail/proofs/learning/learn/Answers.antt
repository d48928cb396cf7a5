use Rattle.std.proofs.Common.{◌≡◌, length, get_or, arith, ap, refl}
use Rattle.std.proofs.lemmas.List.Elements.{Contains-get_or}
use Rattle.sat_trail.proofs.Learned.{learning_start, learning_ends, learnt_vars, learnt_asserting, learnt_empty, learnt_novel, learnt_no_tautology, none_seen}
use Rattle.sat_trail.proofs.learning.learn.Goals as goal

pub loop-n-init : goal.loop-n-init
loop-n-init c =
    let marking = c.mark.ensures.marking in
    record {
      so_far = rw (c.new-kept.ensures.items, c.new-hints.ensures.items, c.assigned-n.ensures.assigned) (learning_start _ _ c.assigned-n.ensures.trail _ _ _ _ (none_seen _ c.in_ok-seen.ensures.unmarked) c.requires c.codes.ensures.clause marking);
      long = omega (arith, c.mark.ensures.long, c.in_ok-seen.ensures.long, c.vars.ensures.vars);
      in_range = omega (arith, ap length c.assigned-n.ensures.assigned);
    }

pub of-requires : goal.of-requires
of-requires c =
    let z : c.loop-n.n ≡ 0 = omega arith in
    let was = rw z at c.loop-n.invariant.so_far in
    rw c.as_slice.ensures.value (λ k d h.
    let r = learnt_vars _ _ c.assigned-n.ensures.trail _ _ _ _ was _ c.assigned-n.ensures.in_range (get_or c.loop-n.kept.items k d) (Contains-get_or c.loop-n.kept.items k d h) in
    (r.0, omega (arith, r.1, c.vars.ensures.vars, c.vars.ensures.small)))

pub unreachable-requires : goal.unreachable-requires
unreachable-requires c =
    let z : c.loop-n.n ≡ 0 = omega arith in
    let was = rw z at c.loop-n.invariant.so_far in
    let none = rw (c.in-None.is, c.as_slice.ensures.value) at c.in_ok-clause.ensures.none in
    learnt_no_tautology _ _ c.assigned-n.ensures.trail _ _ _ _ was (none.0 refl)

pub returns-clause-chain : goal.returns-clause-chain
returns-clause-chain c =
    let z : c.loop-n.n ≡ 0 = omega arith in
    let was = rw z at c.loop-n.invariant.so_far in
    let same = rw (c.in-Some.is, c.as_slice.ensures.value) at c.in_ok-clause.ensures.same in
    let chain = learning_ends _ _ c.assigned-n.ensures.trail _ _ _ _ was c.in-Some.clause same in
    rw (c.of-in-Some.ensures, c.in_ok-push.ensures.items, c.reverse.ensures.items) chain

pub returns-clause-vars : goal.returns-clause-vars
returns-clause-vars c =
    let z : c.loop-n.n ≡ 0 = omega arith in
    let was = rw z at c.loop-n.invariant.so_far in
    let same = rw (c.in-Some.is, c.as_slice.ensures.value) at c.in_ok-clause.ensures.same in
    λ k d h. (learnt_vars _ _ c.assigned-n.ensures.trail _ _ _ _ was _ c.assigned-n.ensures.in_range (get_or c.in-Some.clause k d) ((same (get_or c.in-Some.clause k d)).1 (Contains-get_or c.in-Some.clause k d h))).1

pub returns-clause-novel : goal.returns-clause-novel
returns-clause-novel c =
    let z : c.loop-n.n ≡ 0 = omega arith in
    let was = rw z at c.loop-n.invariant.so_far in
    let same = rw (c.in-Some.is, c.as_slice.ensures.value) at c.in_ok-clause.ensures.same in
    λ above closed. learnt_novel _ _ c.assigned-n.ensures.trail _ _ _ _ was above c.in-Some.clause same closed

pub returns-clause-empty : goal.returns-clause-empty
returns-clause-empty c =
    let z : c.loop-n.n ≡ 0 = omega arith in
    let was = rw z at c.loop-n.invariant.so_far in
    let same = rw (c.in-Some.is, c.as_slice.ensures.value) at c.in_ok-clause.ensures.same in
    λ level. learnt_empty _ _ c.assigned-n.ensures.trail _ _ _ _ was level c.in-Some.clause same

pub returns-clause-asserting : goal.returns-clause-asserting
returns-clause-asserting c =
    let z : c.loop-n.n ≡ 0 = omega arith in
    let was = rw z at c.loop-n.invariant.so_far in
    let same = rw (c.in-Some.is, c.as_slice.ensures.value) at c.in_ok-clause.ensures.same in
    λ above. learnt_asserting _ _ c.assigned-n.ensures.trail _ _ _ _ was above c.in-Some.clause same

pub returns-clause-given : goal.returns-clause-given
returns-clause-given c =
    let z : c.loop-n.n ≡ 0 = omega arith in
    let was = rw z at c.loop-n.invariant.so_far in
    let same = rw (c.in-Some.is, c.as_slice.ensures.value) at c.in_ok-clause.ensures.same in
    λ k d h. was.kept_occur (get_or c.in-Some.clause k d) ((same (get_or c.in-Some.clause k d)).1 (Contains-get_or c.in-Some.clause k d h))
