use Rattle.rel_formula.proofs.WithCell.{with_cell_has, with_cell_rises}
use Rattle.rel_formula.proofs.laws.with_cell_adds_one.Goals as goal

pub returns : goal.returns
returns c = record { cells = with_cell_has; rising = with_cell_rises }
