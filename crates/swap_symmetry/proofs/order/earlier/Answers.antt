use Rattle.std.proofs.Common.{◌≡◌, ◌<◌, length, Contains, arith, true, false}
use Rattle.std.proofs.lemmas.List.Elements.{All-contains}
use Rattle.rel_formula.specs.Bounds.{cells_of}
use Rattle.swap_symmetry.proofs.FirstDifferences.{here_or_not, one_more, nowhere}
use Rattle.swap_symmetry.proofs.order.earlier.Goals as goal

pub returns-then-here-has : goal.returns-then-here-has
returns-then-here-has c =
    here_or_not (Contains c.args.first.now) (Contains c.args.second.now) c.loop-number.number c.has-here.result c.has.result c.has-here.ensures c.has.ensures c.if-here-has.true c.loop-number.invariant

pub loop-number-preserved : goal.loop-number-preserved
loop-number-preserved c =
    one_more (Contains c.args.first.now) (Contains c.args.second.now) c.loop-number.number c.has-here.result c.has.result c.has-here.ensures c.has.ensures c.if-here-has.false c.loop-number.invariant

pub returns : goal.returns
returns c = (
  λ e. absurd (let h : false ≡ true = e in cc),
  λ d. absurd (nowhere (Contains c.args.first.now) (Contains c.args.second.now) c.loop-number.number c.loop-number.invariant
      (λ m has. let l = All-contains (λ n. n < length (cells_of c.args.problem.now)) c.args.first.now m c.requires has in let v = c.cells-number-end.ensures.value in omega arith) d),
)
