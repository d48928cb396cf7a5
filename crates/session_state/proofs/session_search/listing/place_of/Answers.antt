use Rattle.std.proofs.Common.{◌≡◌, ◌⊎◌, ◌<◌, ◌+◌, ◌-◌, ◌/◌, ◌∙◌, ℕ, List, [], true, false, length, get_or, sym, subst, arith}
use Rattle.std.proofs.lemmas.List.{get_or_default}
use Rattle.swap_symmetry.specs.Order.{IsEarlier}
use Rattle.session_state.proofs.Sessions.Ordered.{up_to, from_on}
use Rattle.session_state.proofs.session_search.listing.place_of.Goals as goal

pub halving-preserved-then-is_earlier : goal.halving-preserved-then-is_earlier
halving-preserved-then-is_earlier c =
    let xs : List (List ℕ) = c.args.listed.now in
    let s : List ℕ = c.args.scenario.now in
    let going = c.halving.invariant in
    let middle = c.halving.low + (c.halving.high - c.halving.low) / 2 in
    let below : middle < length xs = let w = going.within in let t = c.halving-test.true in omega arith in
    let item = c.index-listed-middle.is ∙ get_or_default xs middle c.index-listed-middle.result [] below in
    let here : IsEarlier (get_or xs middle []) s = subst (λ (x : List ℕ). IsEarlier x s) item (c.is_earlier.ensures.earlier c.if-is_earlier.true) in
    record { order = omega arith; within = going.within; before = up_to xs s c.requires middle below here; behind = going.behind }

pub halving-preserved : goal.halving-preserved
halving-preserved c =
    let xs : List (List ℕ) = c.args.listed.now in
    let s : List ℕ = c.args.scenario.now in
    let going = c.halving.invariant in
    let middle = c.halving.low + (c.halving.high - c.halving.low) / 2 in
    let below : middle < length xs = let w = going.within in let t = c.halving-test.true in omega arith in
    let item = c.index-listed-middle.is ∙ get_or_default xs middle c.index-listed-middle.result [] below in
    let here = subst (λ (x : List ℕ). (x ≡ s) ⊎ IsEarlier s x) item (c.is_earlier.ensures.other (λ t. let e : true ≡ false = sym t ∙ c.if-is_earlier.false in cc)) in
    record { order = omega arith; within = omega arith; before = going.before; behind = from_on xs s c.requires middle below here }
