use Rattle.rel_formula.proofs.OpenCells.{open_cell, cell_open, cell_once}
use Rattle.rel_formula.proofs.laws.cells_are_numbered.Goals as goal

pub returns : goal.returns
returns c = record {
  some = λ p well r t l up low. open_cell p r t l up low;
  only = λ p well n r t e. cell_open p n r t e;
  once = λ p well n m r t e f. cell_once p n m r t well e f;
}
