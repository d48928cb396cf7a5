use Rattle.std.proofs.Common.{◌↔◌, List, Contains, IfSome, map, sym, subst}
use Rattle.tuple_core.specs.declared.atom.Atom.{Atom}
use Rattle.swap_symmetry.specs.declared.images.SwapRow.{SwapRow}
use Rattle.swap_symmetry.specs.Images.{pair_in, AreImages}
use Rattle.swap_symmetry.specs.Swaps.{AreNeighbours}
use Rattle.swap_symmetry.proofs.settled.earlier_swap.Goals as goal

pub earlier_row-requires-clause-exactly : goal.earlier_row-requires-clause-exactly
earlier_row-requires-clause-exactly c =
    let p = c.args.problem.now in
    let table : AreImages p c.in-Some.images.now = subst (λ o. IfSome o (λ table. AreImages p table.now)) c.in-Some.is c.requires.images in
    subst (λ (rows : List SwapRow). (a b : Atom) → Contains (map pair_in rows) (a, b) ↔ AreNeighbours p a b) (sym c.rows.ensures) table.exactly
