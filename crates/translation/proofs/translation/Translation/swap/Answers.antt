use Rattle.std.proofs.Common.{◌≡◌, ◌<◌, ◌∙◌, List, length, get_or, slice_get, Some, sym, ap, subst, arith}
use Rattle.cnf_core.specs.Formula.{Formula}
use Rattle.translation_rules.specs.Translation.{SwapClauses, Translated}
use Rattle.translation.specs.Numbered.{swaps_of}
use Rattle.translation.proofs.Chains.{swaps_length, cnf_at}
use Rattle.translation.proofs.translation.Translation.swap.Goals as goal

pub index-requires : goal.index-requires
index-requires c =
    let long = swaps_length c.self.inside.pairs.items c.self.inside.swaps.items c.self.invariant.0 in
    let same = ap (λ (t : Translated). length t.swaps) c.self.view_is in
    let l = c.requires in
    omega arith

pub returns : goal.returns
returns c = λ x e.
    c.index.ensures ∙ cnf_at c.self.inside.pairs.items c.self.inside.swaps.items c.args.place x _ (ap (λ (t : Translated). slice_get t.swaps c.args.place) c.self.view_is ∙ e)
