use Rattle.std.proofs.Common.{inl, inr, get_or, Contains}
use Rattle.std.proofs.lemmas.List.Elements.{All-contains}
use Rattle.swap_symmetry.specs.Due.{IsDue}
use Rattle.script_text.proofs.proof_lines.laws.covered_scenarios_are_cells.Goals as goal

pub returns : goal.returns
returns c p floor shown blocked due covered k d l = elim (covered k d l) [
  | inl there ↦ (All-contains (IsDue p floor) shown (get_or blocked k d) due there).minimal.instance_of.scenario.cells
  | inr copy ↦ copy.minimal.instance_of.scenario.cells
]
