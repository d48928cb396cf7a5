use Rattle.std.proofs.Common.{◌<◌, ◌≤◌, ◌∙◌, ℕ, List, length, get_or, Contains, refl, sym, subst, Ok, Err}
use Rattle.std.proofs.lemmas.List.{get_or_default}
use Rattle.std.proofs.lemmas.List.Sorted.{searched}
use Rattle.rel_formula.proofs.RisingNumbers.{Rises, never_fall, absent, still_rises}
use Rattle.tuple_core.proofs.Ascending.{insert_contains}
use Rattle.rel_formula.proofs.WithCell.{with_cell_is, with_cell_there}
use Rattle.rel_formula.proofs.scenario.insert_number.Goals as goal

-- where the number goes
record Place (xs : List ℕ) (x i : ℕ) : Type 0 where
  within : i ≤ length xs
  below : (k : ℕ) → k < i → get_or xs k 0 < x
  above : (k : ℕ) → i ≤ k → k < length xs → x < get_or xs k 0

place : (c : goal.In_ok-insert-in-Err) → Place c.args.numbers.now.items c.args.number c.in-Err.place
place c =
    let S = c.deref.result.now in
    let up : Rises S = subst Rises (sym c.deref.ensures.value) c.requires in
    let found = searched S c.args.number (Err c.in-Err.place) c.in-Err.ensures.position (never_fall S up) in
    subst (λ xs. Place xs c.args.number c.in-Err.place) c.deref.ensures.value (record { within = found.0; below = found.1; above = found.2 })

-- a number that the search finds is there
pub returns-in-Ok-clause-value : goal.returns-in-Ok-clause-value
returns-in-Ok-clause-value c =
    let xs = c.args.numbers.now.items in
    let S = c.deref.result.now in
    let up : Rises S = subst Rises (sym c.deref.ensures.value) c.requires in
    let found = searched S c.args.number (Ok c.in-Ok.field-0) c.in-Ok.ensures.position (never_fall S up) in
    let has : Contains S c.args.number = (c.in-Ok.field-0, found.0, sym (get_or_default S c.in-Ok.field-0 0 c.args.number found.0) ∙ found.1) in
    with_cell_there c.args.number xs c.requires (subst (λ ys. Contains ys c.args.number) c.deref.ensures.value has)

pub returns-in_ok-insert-in-Err-clause-rising : goal.returns-in_ok-insert-in-Err-clause-rising
returns-in_ok-insert-in-Err-clause-rising c =
    let p = place c in
    subst Rises (sym c.in_ok-insert-in-Err.ensures.items) (still_rises c.args.numbers.now.items c.args.number c.in-Err.place c.requires p.within p.below p.above)

pub returns-in_ok-insert-in-Err-clause-value : goal.returns-in_ok-insert-in-Err-clause-value
returns-in_ok-insert-in-Err-clause-value c =
    let p = place c in
    let xs = c.args.numbers.now.items in
    c.in_ok-insert-in-Err.ensures.items
    ∙ with_cell_is c.args.number xs _ c.requires (still_rises xs c.args.number c.in-Err.place c.requires p.within p.below p.above) (insert_contains xs c.in-Err.place c.args.number)

pub returns-in_ok-insert-in-Err-clause-new : goal.returns-in_ok-insert-in-Err-clause-new
returns-in_ok-insert-in-Err-clause-new c =
    let p = place c in (λ e. absent c.args.numbers.now.items c.args.number c.in-Err.place c.requires p.within p.below p.above, λ none. refl)
