use Rattle.std.proofs.Common.{◌≡◌, ◌<◌, ◌+◌, ◌-◌, ℕ, List, ◌++◌, ◌∷◌, [], take, slice_get, Some, sym, ◌∙◌, ap, subst, arith}
use Rattle.std.proofs.lemmas.Option.{slice_get_within}
use Rattle.cnf_core.specs.declared.literal.Lit.{Lit}
use Rattle.session_state.proofs.Rounds.AddedElements.{added, at_place}
use Rattle.session_state.proofs.search_rounds.locals.add_clauses.Goals as goal

pub loop-number-preserved : goal.loop-number-preserved
loop-number-preserved c =
    let xs = c.args.cnf.now.clauses in
    let i = c.loop-number.number in
    let x : List Lit = c.clause.result.now in
    let at : slice_get xs i ≡ Some x = subst (λ n. slice_get xs n ≡ Some x) (let e : i + 1 - 1 ≡ i = omega arith in e) c.clause.ensures.clause in
    c.in_ok-push.ensures.items ∙ ap (λ y. c.loop-number.clauses.items ++ y ∷ []) c.in_ok-copy.ensures
    ∙ added xs i x (slice_get_within xs i x at) (at_place xs i x at) c.args.clauses.now.items c.loop-number.clauses.items c.loop-number.invariant
