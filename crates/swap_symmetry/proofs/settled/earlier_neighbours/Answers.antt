use Rattle.std.proofs.Common.{◌≡◌, ◌≤◌, ◌<◌, ◌+◌, ◌-◌, ◌∙◌, List, [], ◌∷◌, length, get_or, Contains, refl, sym, ap, subst, arith, true, false, ◌↔◌, inl, inr}
use Rattle.std.proofs.lemmas.Bool.{cases_lt}
use Rattle.tuple_core.specs.declared.atom.Atom.{Atom}
use Rattle.tuple_core.specs.Order.{IsAscending}
use Rattle.rel_formula.specs.Bounds.{InAtoms}
use Rattle.swap_symmetry.specs.Swaps.{SwapIsEarlier, IsFreeOf}
use Rattle.swap_symmetry.proofs.Adjacent.{pair_from, neighbours_from, row_is, one_row_atom}
use Rattle.swap_symmetry.proofs.settled.earlier_neighbours.Goals.{else-first-second-via-then-first-second+else-free_swap_is_earlier, else-first-second-via-else-first-second}
use Rattle.swap_symmetry.proofs.settled.earlier_neighbours.Goals as goal

pub returns-then-free_swap_is_earlier : goal.returns-then-free_swap_is_earlier
returns-then-free_swap_is_earlier c =
    let p = c.args.problem.now in
    let rows = c.rows-atoms.result.now in
    let up : IsAscending rows = subst IsAscending (sym c.rows-atoms.ensures.value) c.rows-atoms.ensures.well.ascending in
    let just : (t : List Atom) → Contains rows t ↔ InAtoms p t = subst (λ (xs : List (List Atom)). (t : List Atom) → Contains xs t ↔ InAtoms p t) (sym c.rows-atoms.ensures.value) c.atoms.ensures.value.just in
    let i = c.loop-place.place in
    let a = c.first-first.result in
    let b = c.first-second.result in
    let positive : 1 ≤ i = c.loop-place.auto.place in
    let at : i - 1 + 1 ≡ i = omega arith in
    let l : i < length rows = c.loop-place-test.true in
    let first = row_is p rows up just (i - 1) c.index-atoms-place.result a c.index-atoms-place.result c.first-first.ensures.0 (omega arith) c.index-atoms-place.is c.first-first.ensures.1 in
    let second = row_is p rows up just i c.index-atoms-place-in-loop-place.result b c.index-atoms-place-in-loop-place.result c.first-second.ensures.0 l c.index-atoms-place-in-loop-place.is c.first-second.ensures.1 in
    let next = neighbours_from p rows up just (i - 1) a b (omega arith) first (subst (λ k. get_or rows k (b ∷ []) ≡ b ∷ []) (sym at) second) c.if-first-second.true in
    let h = c.free_swap_is_earlier.ensures.0 c.if-free_swap_is_earlier.true in
    record { well = c.atoms.ensures.well; some = (next, h.0, h.1); none = λ e. absurd cc }

pub loop-place-preserved : goal.loop-place-preserved
loop-place-preserved c = λ k a b l e f tops earlier.
    let p = c.args.problem.now in
    let rows = c.rows-atoms.result.now in
    let up : IsAscending rows = subst IsAscending (sym c.rows-atoms.ensures.value) c.rows-atoms.ensures.well.ascending in
    let just : (t : List Atom) → Contains rows t ↔ InAtoms p t = subst (λ (xs : List (List Atom)). (t : List Atom) → Contains xs t ↔ InAtoms p t) (sym c.rows-atoms.ensures.value) c.atoms.ensures.value.just in
    let i = c.loop-place.place in
    let positive : 1 ≤ i = c.loop-place.auto.place in
    let inside : i < length rows = c.loop-place-test.true in
    elim (cases_lt (k + 1) i) [
      | inl less ↦ c.loop-place.invariant k a b less e f tops earlier
      | inr past ↦
          let here : k + 1 ≡ i = omega arith in
          let before : k ≡ i - 1 = omega arith in
          let first = row_is p rows up just (i - 1) c.index-atoms-place.result c.first-first.result c.index-atoms-place.result c.first-first.ensures.0 (omega arith) c.index-atoms-place.is c.first-first.ensures.1 in
          let second = row_is p rows up just i c.index-atoms-place-in-loop-place.result c.first-second.result c.index-atoms-place-in-loop-place.result c.first-second.ensures.0 inside c.index-atoms-place-in-loop-place.is c.first-second.ensures.1 in
          let one = one_row_atom rows (i - 1) a c.first-first.result (omega arith) (subst (λ n. get_or rows n (a ∷ []) ≡ a ∷ []) before e) first in
          let two = one_row_atom rows i b c.first-second.result inside (subst (λ n. get_or rows n (b ∷ []) ≡ b ∷ []) here f) second in
          elim c.else-first-second.branch [
            | else-first-second-via-then-first-second+else-free_swap_is_earlier w ↦
                let Does : Atom → Atom → Type 0 = λ x y. IsFreeOf p c.args.floor.now x y × SwapIsEarlier p x y (Contains c.args.scenario.now) in
                let h : Does c.first-first.result c.first-second.result = subst (λ (x : Atom). Does x c.first-second.result) one (subst (λ (x : Atom). Does a x) two earlier) in
                absurd (let g = w.free_swap_is_earlier.ensures.1 h in let n = w.if-free_swap_is_earlier.false in cc)
            | else-first-second-via-else-first-second w ↦
                absurd (w.if-first-second.false (sym (ap (λ (x : Atom). x.top) one) ∙ tops ∙ ap (λ (x : Atom). x.top) two))
          ]
    ]

pub returns : goal.returns
returns c =
    let p = c.args.problem.now in
    let rows = c.rows-atoms.result.now in
    let up : IsAscending rows = subst IsAscending (sym c.rows-atoms.ensures.value) c.rows-atoms.ensures.well.ascending in
    let just : (t : List Atom) → Contains rows t ↔ InAtoms p t = subst (λ (xs : List (List Atom)). (t : List Atom) → Contains xs t ↔ InAtoms p t) (sym c.rows-atoms.ensures.value) c.atoms.ensures.value.just in
    record {
      well = c.atoms.ensures.well;
      some = tt;
      none = λ e a b w earlier.
          let pair = pair_from p rows up just a b w.0 in
          c.loop-place.invariant pair.at a b (let l = pair.within in omega arith) pair.first pair.second w.0.one_top (w.1, earlier);
    }
