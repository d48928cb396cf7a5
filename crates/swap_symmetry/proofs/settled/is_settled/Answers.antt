use Rattle.swap_symmetry.proofs.SwapLemmas.{settled_beside_nothing}
use Rattle.swap_symmetry.proofs.settled.is_settled.Goals as goal

pub returns : goal.returns
returns c =
    let same = settled_beside_nothing c.args.problem.now c.args.scenario.now in
    let says = c.is_settled_without.ensures in
    (λ e. same.1 (says.0 e), λ settled. says.1 (same.0 settled))
