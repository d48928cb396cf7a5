use Rattle.std.proofs.Common.{◌<◌, ◌+◌, ◌∙◌, ℕ, List, Option, length, get_or, sym, ap, subst, arith}
use Rattle.rel_formula.specs.declared.problem.Cell.{Cell}
use Rattle.rel_formula.specs.Bounds.{cells_of}
use Rattle.renaming_classes.proofs.Decided.{Leads, none_lead, leads_more, all_lead}
use Rattle.renaming_classes.proofs.orbits.Orbits.of.Goals as goal

pub loop-cell-init : goal.loop-cell-init
loop-cell-init c = subst (λ (xs : List (Option ℕ)). Leads c.args.problem.now c.args.kept.now c.args.others.now xs 0) (sym c.new-leaders.ensures.items) (none_lead c.args.problem.now c.args.kept.now c.args.others.now)

pub loop-cell-preserved : goal.loop-cell-preserved
loop-cell-preserved c =
    let p = c.args.problem.now in
    let kept = c.args.kept.now in
    let others = c.args.others.now in
    let i = c.loop-cell.cell-index in
    let same = c.all_cells-cell-items.ensures in
    let l : i < length (cells_of p) = subst (λ (xs : List Cell). i < length xs) same c.loop-cell-test.true in
    let at = c.cell-item.is ∙ ap (λ (xs : List Cell). get_or xs i c.cell-item.result) same in
    subst (λ (xs : List (Option ℕ)). Leads p kept others xs (i + 1)) (sym c.in_ok-push.ensures.items)
    (leads_more p kept others c.loop-cell.leaders.items i c.cell-item.result c.in_ok-leader.field-0 l at c.in_ok-leader.ensures c.loop-cell.invariant)

pub returns : goal.returns
returns c =
    let i = c.loop-cell.cell-index in
    all_lead c.args.problem.now c.args.kept.now c.args.others.now c.loop-cell.leaders.items i (let e = ap length c.all_cells-cell-items.ensures in let t = c.loop-cell-test.false in omega arith) c.loop-cell.invariant
