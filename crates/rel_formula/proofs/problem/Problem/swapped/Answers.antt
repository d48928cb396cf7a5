use Rattle.std.proofs.Common.{List, map, Some, sym, ◌∙◌, ap}
use Rattle.tuple_core.specs.declared.atom.Atom.{Atom}
use Rattle.tuple_core.specs.Swap.{swap_atoms}
use Rattle.rel_formula.specs.declared.problem.Cell.{Cell}
use Rattle.rel_formula.specs.Bounds.{cell_of, cells_of}
use Rattle.rel_formula.proofs.Images.{cell_parts}
use Rattle.rel_formula.proofs.problem.Problem.swapped.Goals as goal

pub returns : goal.returns
returns c = λ n.
    let cell : Cell = c.cell-cell.result in
    let f : Atom → Atom = swap_atoms c.args.first c.args.second in
    let says = c.number_of.ensures n in (
      λ e. (cell.relation, cell.tuple, c.cell-cell.ensures, says.0 e ∙ ap (λ (t : List Atom). Some (cell_of cell.relation t)) c.swapped.ensures),
      λ (r, row, at, there).
          let parts = cell_parts c.args.number r cell.relation row cell.tuple (cells_of c.args.self.now) at c.cell-cell.ensures in
          says.1 (there ∙ ap (λ q. Some (cell_of q (map f row))) parts.0 ∙ ap (λ (t : List Atom). Some (cell_of cell.relation (map f t))) parts.1 ∙ ap (λ (t : List Atom). Some (cell_of cell.relation t)) (sym c.swapped.ensures)),
    )
