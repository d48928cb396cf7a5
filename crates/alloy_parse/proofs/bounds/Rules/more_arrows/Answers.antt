use Rattle.std.proofs.Common.{◌≡◌, true, false, ◌++◌, ◌∷◌, [], map, arith}
use Rattle.std.proofs.lemmas.Result.{err_from_is_err_and}
use Rattle.std.proofs.lemmas.List.{map_push}
use Rattle.alloy_syntax.specs.Bounds.{begins_bound_arrow}
use Rattle.alloy_syntax.specs.View.{arrow_view}
use Rattle.alloy_syntax.proofs.Loop.{loop_fails, reads_more, reads_ends}
use Rattle.alloy_parse.proofs.bounds.Rules.more_arrows.Goals as goal

pub returns-in_err-another-clause-value : goal.returns-in_err-another-clause-value
returns-in_err-another-clause-value g c =
    let p = err_from_is_err_and c.from_residual-in_err-another.result c.from_residual-in_err-another.ensures.1 in
    let going : begins_bound_arrow c.each.rest.left.now ≡ true = cc in
    rw (p.1, p.2) (loop_fails _ _ _ _ _ _ c.each.invariant.reads going c.in_err-another.ensures.value)

pub each-preserved : goal.each-preserved
each-preserved g c =
    let pushed : map arrow_view c.push-in-each.new.self.items ≡ map arrow_view c.each.all.items ++ arrow_view c.in_ok-another.another ∷ [] = rw c.in_ok-push-2.ensures.items (map_push _ c.each.all.items c.in_ok-another.another) in
    let going : begins_bound_arrow c.each.rest.left.now ≡ true = cc in
    record {
      reads = rw pushed (reads_more _ _ _ _ _ _ _ c.each.invariant.reads going c.in_ok-another.ensures.value c.in_ok-another.ensures.shorter);
      shorter = omega (arith, c.in_ok-another.ensures.shorter);
    }

pub returns-clause-value : goal.returns-clause-value
returns-clause-value g c =
    let stops : begins_bound_arrow c.each.rest.left.now ≡ false = cc in
    rw c.fitted.ensures (reads_ends _ _ _ _ _ c.each.invariant.reads stops)
