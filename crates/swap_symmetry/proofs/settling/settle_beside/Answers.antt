use Rattle.std.proofs.Common.{List, ℕ, subst}
use Rattle.swap_symmetry.specs.Swaps.{IsSettledBeside}
use Rattle.swap_symmetry.proofs.PartlySettled.{minimal_for}
use Rattle.swap_symmetry.proofs.settling.settle_beside.Goals as goal

pub returns-clause-settled : goal.returns-clause-settled
returns-clause-settled c = subst (λ (f : List ℕ). IsSettledBeside c.args.problem.now f c.settle_without.new.scenario) c.numbers.ensures.value c.settle_without.ensures.settled

pub returns-clause-minimal : goal.returns-clause-minimal
returns-clause-minimal c = minimal_for c.args.problem.now c.numbers.result.now c.args.floor.now c.args.scenario.now c.settle_without.new.scenario c.numbers.ensures.value c.numbers.ensures.rising
    c.requires.cells c.settle_without.ensures.minimal
