use Rattle.std.proofs.Common.{◌≡◌, ◌+◌, ◌++◌, ◌∷◌, [], List, ℕ, length, sym, subst, arith}
use Rattle.rel_formula.specs.Bounds.{cells_of}
use Rattle.samples.proofs.Exhaustive.Offered.{Offered, offered_none, offered_yes, offered_no, offered_all}
use Rattle.samples.proofs.exhaustive_search.offers.all_offers.Goals.{then-branch+in_ok-push, else-branch}
use Rattle.samples.proofs.exhaustive_search.offers.all_offers.Goals as goal

pub loop-cell-init : goal.loop-cell-init
loop-cell-init c =
    subst (Offered c.args.problem.now c.args.scenario.now 0) (sym c.new-cells.ensures.items) (offered_none c.args.problem.now c.args.scenario.now)

pub loop-cell-preserved : goal.loop-cell-preserved
loop-cell-preserved c =
    let p = c.args.problem.now in
    let s = c.args.scenario.now in
    let i = c.loop-cell.cell in
    let old : List ℕ = c.loop-cell.cells.items in
    elim c.if-branch.branch [
      | then-branch+in_ok-push w ↦
          let put : c.if-branch.cells.items ≡ old ++ i ∷ [] = (let e = w.cells-is in let f = w.in_ok-push.ensures.items in cc) in
          subst (Offered p s (i + 1)) (sym put) (offered_yes p s i old c.loop-cell.invariant (c.in_ok-is_offer.ensures.0 w.if-branch.true))
      | else-branch w ↦
          let kept : c.if-branch.cells.items ≡ old = let e = w.cells-is in cc in
          subst (Offered p s (i + 1)) (sym kept) (offered_no p s i old c.loop-cell.invariant (λ is. absurd (let h = c.in_ok-is_offer.ensures.1 is in let g = w.if-branch.false in cc)))
    ]

pub returns : goal.returns
returns c =
    let p = c.args.problem.now in
    let end : c.loop-cell.cell ≡ length (cells_of p) = let l = c.loop-cell-test.false in let k = c.loop-cell.auto.cell-end in let e = c.cells-cell-end.ensures.value in omega arith in
    offered_all p c.args.scenario.now c.loop-cell.cell c.loop-cell.cells.items c.loop-cell.invariant end
