use Rattle.std.proofs.Common.{◌≤◌, List, length, sym, subst, arith}
use Rattle.refutation_check.specs.declared.log.Step.{Step}
use Rattle.session_state.proofs.search_rounds.trails.turn.Goals as goal

pub follows-requires-clause-few : goal.follows-requires-clause-few
follows-requires-clause-few c = omega (arith, c.requires.few, c.len.ensures, c.if-len-most.true)

pub returns-then-branch-clause-kept : goal.returns-then-branch-clause-kept
returns-then-branch-clause-kept c = c.in_ok-follows.ensures.followed c.if-branch.true

pub returns-then-branch-clause-few : goal.returns-then-branch-clause-few
returns-then-branch-clause-few c = subst (λ (steps : List Step). length steps ≤ c.args.most) (sym c.in_ok-follows.ensures.steps) (omega (arith, c.len.ensures, c.if-len-most.true))
