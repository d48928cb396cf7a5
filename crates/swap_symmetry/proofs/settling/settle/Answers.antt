use Rattle.swap_symmetry.proofs.Descent.{empty_scenario}
use Rattle.swap_symmetry.proofs.SwapLemmas.{settled_beside_nothing}
use Rattle.swap_symmetry.proofs.settling.settle.Goals as goal

pub returns : goal.returns
returns c =
    let says = c.settle_without.ensures in
    let beside = says.renaming in
    record {
      scenario = says.scenario;
      renaming = record { there = beside.there; back = beside.back; renaming = beside.renaming; image = beside.image };
      settled = (settled_beside_nothing c.args.problem.now c.settle_without.new.scenario).1 says.settled;
      minimal = says.minimal (empty_scenario c.args.problem.now);
    }
