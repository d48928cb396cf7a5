use Rattle.std.proofs.Common.{◌≡◌, IfSome, subst}
use Rattle.tuple_core.specs.declared.atom.Atom.{Atom}
use Rattle.swap_symmetry.specs.Images.{pair_in, IsSwapRow}
use Rattle.swap_symmetry.proofs.SwapRows.{Tells, row_tells}
use Rattle.swap_symmetry.proofs.images.image_of.Goals as goal

pub returns-in-Some : goal.returns-in-Some
returns-in-Some c =
    let p = c.args.problem.now in
    let row = c.in-Some.row.now in
    let n = c.args.number in
    let told = subst (λ o. IfSome o (λ r. (pair_in r.now ≡ (c.args.first, c.args.second)) × IsSwapRow p r.now)) c.in-Some.is c.requires.row in
    subst (λ (pair : Atom × Atom). Tells p pair.0 pair.1 n c.index.result.now) told.0 (row_tells p row told.1 n c.index.result.now c.requires.number c.index.ensures)
