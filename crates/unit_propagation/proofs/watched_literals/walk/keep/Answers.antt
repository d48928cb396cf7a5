use Rattle.std.proofs.Common.{arith, ap}
use Rattle.std.proofs.lemmas.Bool.{ltb-false}
use Rattle.unit_propagation.proofs.Propagation.Slots.{at_slot}
use Rattle.unit_propagation.proofs.Propagation.Steps.{walking_if, right_if}
use Rattle.unit_propagation.proofs.watched_literals.walk.keep.Goals as goal

pub mark_if-requires : goal.mark_if-requires
mark_if-requires c = let s = at_slot _ _ _ _ _ _ _ _ c.requires.at_slot c.len.ensures.listed in omega (arith, s.2, c.requires.at_slot.walking.flags_long)

pub returns : goal.returns
returns c =
    let code = c.other_of-other.ensures.code in
    let levels = rw code at c.level_of.ensures in
    walking_if _ _ _ _ _ _ _ _ _ _ c.requires.at_slot c.len.ensures.listed
    (λ low. right_if _ _ _ _ _ _ _ _ c.level_of.result c.at.result.level c.requires.at_slot c.requires.is_true levels (λ d. ap (λ a. a.level) (c.at.ensures d)) (ltb-false _ _ low))
    c.mark_if.ensures
