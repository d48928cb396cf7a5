use Rattle.std.proofs.Common.{◌≡◌, ◌∙◌, ◌+◌, [], ◌∷◌, ◌++◌, List, Option, ℕ, length, refl, sym, ap, subst, arith}
use Rattle.std.proofs.lemmas.List.{length_push}
use Rattle.rel_formula.specs.Bounds.{cells_of}
use Rattle.swap_symmetry.proofs.SwapRows.{Tells, TellsAll, tells_more, row_is}
use Rattle.swap_symmetry.proofs.images.row_of.Goals as goal

pub loop-number-preserved : goal.loop-number-preserved
loop-number-preserved c =
    let p = c.args.problem.now in
    let a = c.args.first in
    let b = c.args.second in
    let images : List (Option ℕ) = c.loop-number.images.items in
    let so_far = c.loop-number.invariant in
    let image = c.swapped.result in
    let more : c.push.new.self.items ≡ images ++ image ∷ [] = c.in_ok-push.ensures.items in
    let long = length_push images image in
    record {
      count = ap length more ∙ long ∙ ap (λ n. n + 1) so_far.count;
      told = subst (TellsAll p a b) (sym more) (tells_more p a b images image so_far.told (subst (λ n. Tells p a b n image) (sym so_far.count) c.swapped.ensures));
    }

pub returns : goal.returns
returns c =
    let p = c.args.problem.now in
    let so_far = c.loop-number.invariant in
    let count : length c.loop-number.images.items ≡ length (cells_of p) = let e = so_far.count in let v = c.cells-number-end.ensures.value in let f = c.loop-number-test.false in let g = c.loop-number.auto.number-end in omega arith in
    (refl, row_is p (record { first = c.args.first; second = c.args.second; images = c.loop-number.images }) count so_far.told)
