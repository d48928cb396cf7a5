use Rattle.std.proofs.Common.{◌≡◌, true}
use Rattle.tuple_core.specs.Swap.{swap_atoms}
use Rattle.rel_formula.proofs.SwapLaws.{laws_of, renames}
use Rattle.translation_tests.proofs.of_rel_formula.exchange.Goals as goal

pub swap_atoms-requires-clause-kept : goal.swap_atoms-requires-clause-kept
swap_atoms-requires-clause-kept c =
    let p = c.args.problem.now in
    let a = c.args.first in
    let b = c.args.second in
    let is_first : c.has_atom.result ≡ true = c.if-not-has_atom.false in
    let is_second : c.has_atom-2.result ≡ true = c.if-not-has_atom-2.false in
    c.requires.symmetric (swap_atoms a b) (swap_atoms a b) (renames p a b (laws_of a b c.requires.tops) (c.has_atom.ensures is_first) (c.has_atom-2.ensures is_second))
