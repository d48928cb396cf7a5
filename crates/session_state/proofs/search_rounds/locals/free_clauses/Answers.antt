use Rattle.std.proofs.Common.{◌≡◌, ◌<◌, ◌≤◌, ℕ, Bool, List, ◌∷◌, [], ◌++◌, map, take, length, get_or, slice_get, Some, true, false, refl, sym, ◌∙◌, ap, subst, arith}
use Rattle.cnf_core.specs.declared.literal.Lit.{Lit}
use Rattle.cnf_core.specs.Formula.{Formula}
use Rattle.tuple_core.specs.declared.atom.Atom.{Atom}
use Rattle.rel_formula.specs.Bounds.{Bounded}
use Rattle.translation_rules.specs.Free.{is_free_of}
use Rattle.translation_rules.specs.Translation.{SwapClauses, clauses_of_swaps}
use Rattle.translation.specs.Numbered.{pair_of}
use Rattle.translation.proofs.NeighbourCounts.{few_pairs}
use Rattle.session_state.proofs.Rounds.Swaps.{swap_here, clauses_more, clauses_same}
use Rattle.session_state.proofs.search_rounds.locals.free_clauses.Goals.{then-is_free+in_ok-add_clauses, else-is_free}
use Rattle.session_state.proofs.search_rounds.locals.free_clauses.Goals as goal

pub overflow_cast-place : goal.overflow_cast-place
overflow_cast-place c =
    let t = c.args.translation.now in
    let well = c.problem-problem.ensures.well in
    let few = few_pairs t.problem (map pair_of t.swaps) well.translatable.few_atoms well.all in
    let same : length c.pairs-pair-items.result.now ≡ length (map pair_of t.swaps) = ap length c.pairs-pair-items.ensures in
    let l = c.loop-place-test.true in
    omega arith

pub loop-place-preserved : goal.loop-place-preserved
loop-place-preserved c =
    let t = c.args.translation.now in
    let floor = c.args.floor.now in
    let i = c.loop-place.place in
    let pairs : List (Atom × Atom) = c.pairs-pair-items.result.now in
    let z : Atom = record { top = 0; place = 0 } in
    let d : Atom × Atom = (z, z) in
    let (x, at, same) = swap_here t.swaps pairs c.pairs-pair-items.ensures i c.loop-place-test.true d in
    let picks : Atom → Atom → Bool = is_free_of t.problem floor in
    let test : c.is_free.result ≡ picks x.first x.second =
    c.is_free.ensures ∙ ap (λ (p : Bounded). is_free_of p floor (get_or pairs i d).0 (get_or pairs i d).1) c.problem-problem.ensures.value ∙ ap (λ (q : Atom × Atom). picks q.0 q.1) same in
    let before = clauses_of_swaps picks (take i t.swaps) in
    elim c.if-is_free.branch [
      | then-is_free+in_ok-add_clauses w ↦
          ap (λ v. v.items) w.clauses-is ∙ w.in_ok-add_clauses.ensures ∙ ap (λ (cs : List (List Lit)). cs ++ w.swap.result.now.clauses) c.loop-place.invariant
          ∙ ap (λ (f : Formula). before ++ f.clauses) (w.swap.ensures x at) ∙ sym (clauses_more picks t.swaps i x at (sym test ∙ w.if-is_free.true))
      | else-is_free w ↦ ap (λ v. v.items) w.clauses-is ∙ c.loop-place.invariant ∙ sym (clauses_same picks t.swaps i x at (sym test ∙ w.if-is_free.false))
    ]
