use Rattle.std.proofs.Common.{◌≡◌, ◌≤◌, ◌<◌, ◌+◌, ◌-◌, List, [], ◌∷◌, length, get_or, Contains, refl, sym, ap, subst, arith, ◌↔◌, ◌∙◌}
use Rattle.tuple_core.specs.declared.atom.Atom.{Atom}
use Rattle.tuple_core.specs.Order.{IsAscending}
use Rattle.rel_formula.specs.Bounds.{InAtoms}
use Rattle.swap_symmetry.proofs.Adjacent.{row_is}
use Rattle.swap_symmetry.proofs.Listed.{Lists, none_listed, skipped, listed, all_listed}
use Rattle.swap_symmetry.proofs.pairs.neighbours.Goals.{then-first-second+in_ok-push, else-first-second}
use Rattle.swap_symmetry.proofs.pairs.neighbours.Goals as goal

pub loop-place-init : goal.loop-place-init
loop-place-init c = subst (Lists c.rows-atoms.result.now 1) (sym c.new-pairs.ensures.items) (none_listed c.rows-atoms.result.now)

pub loop-place-preserved : goal.loop-place-preserved
loop-place-preserved c =
    let p = c.args.problem.now in
    let rows = c.rows-atoms.result.now in
    let up : IsAscending rows = subst IsAscending (sym c.rows-atoms.ensures.value) c.rows-atoms.ensures.well.ascending in
    let just : (t : List Atom) → Contains rows t ↔ InAtoms p t = subst (λ (xs : List (List Atom)). (t : List Atom) → Contains xs t ↔ InAtoms p t) (sym c.rows-atoms.ensures.value) c.atoms.ensures.value.just in
    let i = c.loop-place.place in
    let positive : 1 ≤ i = c.loop-place.auto.place in
    let at : i - 1 + 1 ≡ i = omega arith in
    let l : i < length rows = c.loop-place-test.true in
    let a = c.first-first.result in
    let b = c.first-second.result in
    let first = row_is p rows up just (i - 1) c.index-atoms-place.result a c.index-atoms-place.result c.first-first.ensures.0 (omega arith) c.index-atoms-place.is c.first-first.ensures.1 in
    let second = row_is p rows up just i c.index-atoms-place-in-loop-place.result b c.index-atoms-place-in-loop-place.result c.first-second.ensures.0 l c.index-atoms-place-in-loop-place.is c.first-second.ensures.1 in
    elim c.if-first-second.branch [
      | then-first-second+in_ok-push w ↦ let q = listed p rows up just i (i - 1) a b c.loop-place.pairs.items at l first second c.loop-place.invariant in subst (Lists rows (i + 1)) (sym (ap (λ v. v.items) w.pairs-is ∙ w.in_ok-push.ensures.items)) (q w.if-first-second.true)
      | else-first-second w ↦ let q = skipped p rows up just i (i - 1) a b c.loop-place.pairs.items at l first second c.loop-place.invariant in subst (Lists rows (i + 1)) (sym (ap (λ v. v.items) w.pairs-is)) (q w.if-first-second.false)
    ]

pub returns-clause-exactly : goal.returns-clause-exactly
returns-clause-exactly c =
    let p = c.args.problem.now in
    let rows = c.rows-atoms.result.now in
    let up : IsAscending rows = subst IsAscending (sym c.rows-atoms.ensures.value) c.rows-atoms.ensures.well.ascending in
    let just : (t : List Atom) → Contains rows t ↔ InAtoms p t = subst (λ (xs : List (List Atom)). (t : List Atom) → Contains xs t ↔ InAtoms p t) (sym c.rows-atoms.ensures.value) c.atoms.ensures.value.just in
    all_listed p rows up just c.loop-place.place c.loop-place.pairs.items (let f = c.loop-place-test.false in omega arith) c.loop-place.invariant
