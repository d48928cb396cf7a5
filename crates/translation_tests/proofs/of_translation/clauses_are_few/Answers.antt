use Rattle.std.proofs.Common.{◌≡◌, ◌<◌, length, map, sym, ap, subst, arith}
use Rattle.std.proofs.lemmas.List.{length-map}
use Rattle.translation.specs.Numbered.{pair_of}
use Rattle.translation_tests.proofs.of_translation.clauses_are_few.Goals as goal

pub swap-swap-requires : goal.swap-swap-requires
swap-swap-requires g c =
    let m = length-map c.in_ok-made.made.swaps pair_of in
    let e = ap length c.pairs.ensures in
    omega arith
