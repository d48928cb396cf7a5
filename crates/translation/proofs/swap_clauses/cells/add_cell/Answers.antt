use Rattle.std.proofs.Common.{◌≡◌, ◌+◌, ◌<◌, ◌≤◌, ◌^◌, ℕ, Option, Some, None, length, refl, arith}
use Rattle.std.specs.Prelude.{IfSome}
use Rattle.rel_formula.specs.Bounds.{cells_of}
use Rattle.rel_formula.proofs.Lists.{some_below}
use Rattle.translation.proofs.SwapChains.OneCell.{passed, compared}
use Rattle.translation.proofs.swap_clauses.cells.add_cell.Goals as goal

pub returns-then-not-comes_later : goal.returns-then-not-comes_later
returns-then-not-comes_later c =
    passed c.args.problem.now c.args.first c.args.second c.args.cell c.relations.ensures.well c.swapped-image.result c.swapped-image.ensures
    (λ later. let t = c.comes_later.ensures.1 later in let f = c.if-not-comes_later.true in cc) c.args.so_far c.args.clauses.now.items

small : (image : Option ℕ) (n : ℕ) → ((m : ℕ) → image ≡ Some m → m < n) → n ≤ 4096 → IfSome image (λ m. m + 1 < 2 ^ 31)
small None n below few = tt
small (Some m) n below few = let l = below m refl in omega arith

pub add_comparison-requires-clause-image : goal.add_comparison-requires-clause-image
add_comparison-requires-clause-image c =
    let p = c.args.problem.now in
    small c.swapped-image.result (length (cells_of p)) (λ m e. let (r, row, here, there) = (c.swapped-image.ensures m).0 e in some_below (cells_of p) m _ there) c.relations.ensures.well.few_cells

pub returns : goal.returns
returns c =
    compared c.args.problem.now c.args.first c.args.second c.args.cell c.swapped-image.result c.swapped-image.ensures c.args.so_far c.args.clauses.now.items c.add_comparison.new.clauses.items
    c.requires.cell c.requires.above c.requires.fresh c.in_ok-add_comparison.ensures
