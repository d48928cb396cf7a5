use Rattle.std.proofs.Common.{◌≡◌, ◌∙◌, map, sym, ap}
use Rattle.translation_rules.specs.Translation.{Translated}
use Rattle.translation.specs.Numbered.{pair_of}
use Rattle.translation.proofs.Chains.{pairs_back}
use Rattle.translation.proofs.translation.Translation.pairs.Goals as goal

pub returns : goal.returns
returns c = c.as_slice.ensures.value ∙ sym (pairs_back c.self.inside.pairs.items c.self.inside.swaps.items c.self.invariant.0) ∙ ap (λ (t : Translated). map pair_of t.swaps) c.self.view_is
