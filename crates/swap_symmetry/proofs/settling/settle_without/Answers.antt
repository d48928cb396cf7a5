use Rattle.swap_symmetry.proofs.PartlySettled.{nothing_done, one_more, less_left}
use Rattle.swap_symmetry.proofs.FloorRenamings.{includes_beside, minimal_beside}
use Rattle.swap_symmetry.proofs.settling.settle_without.Goals as goal

pub swaps-init : goal.swaps-init
swaps-init c = nothing_done c.args.problem.now c.args.floor.now c.args.scenario.now (record { cells = c.requires.cells; rising = c.numbers.ensures.rising })

pub swaps-preserved : goal.swaps-preserved
swaps-preserved c = one_more c.args.problem.now c.args.floor.now c.args.scenario.now c.swaps.scenario c.swap_once.new.scenario c.swaps.invariant c.swap_once.ensures.scenario c.swap_once.ensures.renaming

pub swaps-smaller : goal.swaps-smaller
swaps-smaller c = less_left c.args.problem.now c.args.floor.now c.args.scenario.now c.swaps.scenario c.swap_once.new.scenario c.swaps.invariant c.swap_once.ensures.scenario (c.swap_once.ensures.earlier c.swaps-test.true)

pub returns : goal.returns
returns c =
    let p = c.args.problem.now in
    let floor = c.args.floor.now in
    let old = c.args.scenario.now in
    let new = c.swap_once.new.scenario in
    let well = c.relations.ensures.well in
    let done = one_more p floor old c.swaps.scenario new c.swaps.invariant c.swap_once.ensures.scenario c.swap_once.ensures.renaming in
    record {
      scenario = done.scenario;
      renaming = done.renaming;
      settled = c.swap_once.ensures.settled c.swaps-test.false;
      above = includes_beside p floor old new done.renaming well c.requires.cells;
      minimal = λ floor_in is. minimal_beside p floor old new done.renaming well c.requires.symmetric floor_in done.scenario is;
    }
