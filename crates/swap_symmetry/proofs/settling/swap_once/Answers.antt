use Rattle.std.proofs.Common.{◌≡◌, true, false}
use Rattle.swap_symmetry.proofs.PartlySettled.{swap_kept, image_earlier}
use Rattle.swap_symmetry.proofs.FloorRenamings.{beside_itself, beside_swap}
use Rattle.swap_symmetry.proofs.settling.swap_once.Goals as goal

pub swap_atoms-requires : goal.swap_atoms-requires
swap_atoms-requires c = record {
  cells = c.requires.scenario.cells;
  kept = swap_kept c.args.problem.now c.in-Some.first c.in-Some.second c.requires.symmetric c.in-Some.ensures.some.0;
}

pub returns-in-Some : goal.returns-in-Some
returns-in-Some c =
    let p = c.args.problem.now in
    let old = c.args.scenario.now in
    let new = c.swap_atoms.new.self in
    let next = c.in-Some.ensures.some in
    let well = c.earlier_swap.ensures.well in
    record {
      scenario = c.swap_atoms.ensures.scenario;
      renaming = beside_swap p c.args.floor.now c.in-Some.first c.in-Some.second next.0.first next.0.second next.0.one_top next.1 old new c.swap_atoms.ensures.image;
      earlier = λ e. image_earlier p c.in-Some.first c.in-Some.second old new well next.0 c.swap_atoms.ensures.scenario c.swap_atoms.ensures.image next.2;
      settled = λ e. absurd (let h : true ≡ false = e in cc);
    }

pub returns-in-None : goal.returns-in-None
returns-in-None c = record {
  scenario = c.requires.scenario;
  renaming = beside_itself c.args.problem.now c.args.floor.now c.args.scenario.now;
  earlier = λ e. absurd (let h : false ≡ true = e in cc);
  settled = λ e. c.earlier_swap.ensures.none c.in-None.is;
}
