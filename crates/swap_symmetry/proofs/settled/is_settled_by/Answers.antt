use Rattle.std.proofs.Common.{List, ℕ, ◌↔◌, IsTrue, subst}
use Rattle.swap_symmetry.specs.Swaps.{IsSettledBeside}
use Rattle.swap_symmetry.proofs.settled.is_settled_by.Goals as goal

pub returns : goal.returns
returns c =
    subst (λ (floor : List ℕ). IsTrue c.is_settled_without.result ↔ IsSettledBeside c.args.problem.now floor c.args.scenario.now) c.numbers.ensures.value c.is_settled_without.ensures
