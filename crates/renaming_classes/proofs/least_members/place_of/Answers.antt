use Rattle.std.proofs.Common.{◌≡◌, ◌<◌, ◌+◌, ◌-◌, ◌/◌, ◌∙◌, ℕ, List, [], true, false, length, get_or, sym, subst, arith}
use Rattle.std.proofs.lemmas.List.{get_or_default}
use Rattle.rel_formula.specs.Instance.{AreCells}
use Rattle.swap_symmetry.specs.Order.{IsEarlier}
use Rattle.renaming_classes.proofs.Listing.{up_to, from_on}
use Rattle.renaming_classes.proofs.least_members.place_of.Goals as goal

pub earlier-requires : goal.earlier-requires
earlier-requires c =
    let xs : List (List ℕ) = c.args.found.now in
    let middle = c.halving.low + (c.halving.high - c.halving.low) / 2 in
    let below : middle < length xs = let w = c.halving.invariant.within in let t = c.halving-test.true in omega arith in
    let item = c.index-found-middle.is ∙ get_or_default xs middle c.index-found-middle.result [] below in
    subst (AreCells c.args.problem.now) (sym item) (c.requires.found middle [] below).cells

pub returns-clause-behind : goal.returns-clause-behind
returns-clause-behind c = λ k past l e. c.halving.invariant.behind k (let o = c.halving.invariant.order in let t = c.halving-test.false in omega arith) l e

pub halving-preserved-then-earlier : goal.halving-preserved-then-earlier
halving-preserved-then-earlier c =
    let xs : List (List ℕ) = c.args.found.now in
    let s : List ℕ = c.args.member.now in
    let going = c.halving.invariant in
    let middle = c.halving.low + (c.halving.high - c.halving.low) / 2 in
    let below : middle < length xs = let w = going.within in let t = c.halving-test.true in omega arith in
    let item = c.index-found-middle.is ∙ get_or_default xs middle c.index-found-middle.result [] below in
    let here : IsEarlier (get_or xs middle []) s = subst (λ (x : List ℕ). IsEarlier x s) item (c.earlier.ensures.0 c.if-earlier.true) in
    record { order = omega arith; within = going.within; before = up_to xs s c.requires.sorted middle below here; behind = going.behind }

pub halving-preserved : goal.halving-preserved
halving-preserved c =
    let xs : List (List ℕ) = c.args.found.now in
    let s : List ℕ = c.args.member.now in
    let going = c.halving.invariant in
    let middle = c.halving.low + (c.halving.high - c.halving.low) / 2 in
    let below : middle < length xs = let w = going.within in let t = c.halving-test.true in omega arith in
    let item = c.index-found-middle.is ∙ get_or_default xs middle c.index-found-middle.result [] below in
    let none : IsEarlier (get_or xs middle []) s → ⊥ = λ e. absurd (let t : c.earlier.result ≡ true = c.earlier.ensures.1 (subst (λ (x : List ℕ). IsEarlier x s) (sym item) e) in let f = c.if-earlier.false in cc) in
    record { order = omega arith; within = omega arith; before = going.before; behind = from_on xs s c.requires.sorted middle below none }
