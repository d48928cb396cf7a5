use Rattle.std.proofs.Common.{ℕ, List, [], sym, ◌∙◌, subst}
use Rattle.std.proofs.lemmas.List.{get_or_default}
use Rattle.swap_symmetry.specs.Order.{IsEarlier}
use Rattle.renaming_classes.proofs.Listing.{not_true, not_false}
use Rattle.renaming_classes.proofs.least_members.is_at.Goals as goal

pub returns-then-place-found-clause-there : goal.returns-then-place-found-clause-there
returns-then-place-found-clause-there c = λ e.
    let xs : List (List ℕ) = c.args.found.now in
    let s : List ℕ = c.args.member.now in
    let place = c.args.place in
    let l = c.if-place-found.true in
    let item = c.index-found-place.is ∙ get_or_default xs place c.index-found-place.result [] l in
    (l, λ d. not_true c.earlier.result e (c.earlier.ensures.1 (subst (IsEarlier s) (sym item) d)))

pub returns-then-place-found-clause-other : goal.returns-then-place-found-clause-other
returns-then-place-found-clause-other c = λ e l.
    let xs : List (List ℕ) = c.args.found.now in
    let s : List ℕ = c.args.member.now in
    let place = c.args.place in
    let item = c.index-found-place.is ∙ get_or_default xs place c.index-found-place.result [] l in
    subst (IsEarlier s) item (c.earlier.ensures.0 (not_false c.earlier.result e))
