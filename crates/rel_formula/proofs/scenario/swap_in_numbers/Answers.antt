use Rattle.std.proofs.Common.{◌<◌, ℕ, length, sym, subst, arith}
use Rattle.std.proofs.lemmas.List.Sorted.{IsNonDecreasingBy-from_sort}
use Rattle.tuple_core.specs.Swap.{swap_atoms}
use Rattle.rel_formula.specs.Bounds.{cells_of}
use Rattle.rel_formula.proofs.SwapLaws.{swap_back}
use Rattle.rel_formula.proofs.Swapped.{begun, one_more, image_rises, image_cells, image_is}
use Rattle.rel_formula.proofs.scenario.swap_in_numbers.Goals as goal

pub loop-place-init : goal.loop-place-init
loop-place-init c = begun c.args.problem.now (swap_atoms c.args.first c.args.second) c.args.numbers.now

pub swapped_number-requires-clause-number : goal.swapped_number-requires-clause-number
swapped_number-requires-clause-number c =
    let i = c.loop-place.place in
    let l : i < length c.args.numbers.now = let e = c.loop-place.invariant.long in let t = c.loop-place-test.true in omega arith in
    subst (λ n. n < length (cells_of c.args.problem.now)) (sym (c.loop-place.invariant.left i (omega arith))) (c.requires.cells i 0 l)

pub loop-place-preserved : goal.loop-place-preserved
loop-place-preserved c =
    let i = c.loop-place.place in
    let l : i < length c.loop-place.numbers = let e = c.loop-place.invariant.long in let t = c.loop-place-test.true in omega arith in
    one_more c.args.problem.now (swap_atoms c.args.first c.args.second) c.args.numbers.now c.loop-place.numbers i c.swapped_number.result l c.swapped_number.ensures c.loop-place.invariant

pub returns : goal.returns
returns c =
    let p = c.args.problem.now in
    let f = swap_atoms c.args.first c.args.second in
    let xs = c.args.numbers.now in
    let ys = c.loop-place.numbers in
    let zs = c.sort_unstable.new.self in
    let long = c.loop-place.invariant.long in
    let images = λ (k : ℕ) (l : k < length xs). c.loop-place.invariant.done k (let t = c.loop-place-test.false in omega arith) in
    let moved = c.sort_unstable.ensures.permutation in
    let sorted = IsNonDecreasingBy-from_sort (λ (x : ℕ). x) zs c.sort_unstable.ensures.sorted in
    let well = c.relations.ensures.well in
    let back = swap_back c.args.first c.args.second in
    record {
      scenario = record {
        cells = image_cells p well f back c.requires.kept xs ys zs c.requires.rising long images moved sorted;
        rising = image_rises p well f back c.requires.kept xs ys zs c.requires.rising long images moved sorted;
      };
      image = image_is p well f back c.requires.kept xs ys zs c.requires.rising long images moved sorted;
    }
