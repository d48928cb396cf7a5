use Rattle.std.proofs.Common.{◌≡◌, ◌<◌, ◌∷◌, [], length, subst, arith}
use Rattle.cnf_core.specs.declared.literal.Lit.{Lit}
use Rattle.rel_formula.specs.Bounds.{cells_of}
use Rattle.translation.specs.SwapChains.Comparison.{AddsClause}
use Rattle.translation.proofs.SwapChains.CellChains.{IsChain, begun, linked, ended, vars_below}
use Rattle.translation.proofs.swap_clauses.cells.add_swap.Goals as goal

pub loop-cell-init : goal.loop-cell-init
loop-cell-init c =
    let old = c.args.clauses.now.items in
    let new = c.add_clause.new.clauses.items in
    begun c.args.problem.now c.args.first c.args.second c.args.first_variable old new c.requires.fresh
    (subst (λ (l : Lit). AddsClause (l ∷ []) old new) c.true_at.ensures c.in_ok-add_clause.ensures)

pub add_cell-requires : goal.add_cell-requires
add_cell-requires c =
    let chain = c.loop-cell.invariant in
    let l : c.loop-cell.cell < length (cells_of c.args.problem.now) = let t = c.loop-cell-test.true in let e = c.cells-cell-end.ensures.value in omega arith in
    record {
      cell = l;
      above = let k = chain.low in let n = c.requires.above in omega arith;
      room = let k = chain.high in let n = c.requires.room in omega arith;
      fresh = vars_below c.args.problem.now c.args.first c.args.second c.loop-cell.cell c.args.first_variable c.loop-cell.so_far c.args.clauses.now.items c.loop-cell.clauses.items c.requires.above c.requires.fresh chain;
    }

pub loop-cell-preserved : goal.loop-cell-preserved
loop-cell-preserved c =
    let l : c.loop-cell.cell < length (cells_of c.args.problem.now) = let t = c.loop-cell-test.true in let e = c.cells-cell-end.ensures.value in omega arith in
    linked c.args.problem.now c.args.first c.args.second c.args.first_variable c.args.clauses.now.items c.loop-cell.cell c.loop-cell.so_far c.in_ok-so_far.so_far c.loop-cell.clauses.items c.add_cell.new.clauses.items l c.requires.above
    c.loop-cell.invariant c.in_ok-so_far.ensures

pub returns : goal.returns
returns c =
    let p = c.args.problem.now in
    let same : c.loop-cell.cell ≡ length (cells_of p) = let t = c.loop-cell-test.false in let e = c.cells-cell-end.ensures.value in let m = c.loop-cell.auto.cell-end in omega arith in
    ended p c.args.first c.args.second c.args.first_variable c.args.clauses.now.items c.loop-cell.so_far c.loop-cell.clauses.items
    (subst (λ n. IsChain p c.args.first c.args.second n c.args.first_variable c.loop-cell.so_far c.args.clauses.now.items c.loop-cell.clauses.items) same c.loop-cell.invariant)
