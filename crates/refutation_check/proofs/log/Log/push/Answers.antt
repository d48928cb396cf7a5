use Rattle.std.proofs.Common.{◌<◌, ◌+◌, ◌^◌, List, length, sym, subst}
use Rattle.refutation_check.specs.declared.log.Step.{Step}
use Rattle.refutation_check.proofs.Raising.{IsLog-push}
use Rattle.refutation_check.proofs.log.Log.push.Goals as goal

pub invariant_of-self-2 : goal.invariant_of-self-2
invariant_of-self-2 c =
    let room = subst (λ (steps : List Step). length steps + 1 < 2 ^ 30) (sym c.self.view_is) c.requires.room in
    rw c.in_ok-push.ensures.items (IsLog-push _ c.args.s c.self.invariant c.lits.ensures.clause room)
