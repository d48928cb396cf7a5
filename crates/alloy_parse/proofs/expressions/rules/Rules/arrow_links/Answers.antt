use Rattle.std.proofs.Common.{◌≡◌, true, false, ◌++◌, ◌∷◌, [], map, arith}
use Rattle.std.proofs.lemmas.Result.{err_from_is_err_and}
use Rattle.std.proofs.lemmas.List.{map_push}
use Rattle.alloy_syntax.specs.Nodes.{within, begins_arrow, arrow_over}
use Rattle.alloy_syntax.specs.View.{link_view}
use Rattle.alloy_syntax.proofs.Loop.{loop_fails, reads_more, reads_ends}
use Rattle.alloy_parse.proofs.expressions.rules.Rules.arrow_links.Goals as goal

pub returns-in_err-another-clause-value : goal.returns-in_err-another-clause-value
returns-in_err-another-clause-value g c =
    let p = err_from_is_err_and c.from_residual.result c.from_residual.ensures.1 in
    let going : begins_arrow c.each.rest.left.now ≡ true = cc in
    rw (p.1, p.2) (loop_fails _ begins_arrow (arrow_over (within true c.args.self.now.room) c.args.around) (map link_view c.each.all.items) c.each.rest.left.now _ c.each.invariant.reads going c.in_err-another.ensures.value)

pub each-preserved : goal.each-preserved
each-preserved g c =
    let pushed : map link_view c.push.new.self.items ≡ map link_view c.each.all.items ++ link_view c.in_ok-another.another ∷ [] = rw c.in_ok-push.ensures.items (map_push _ c.each.all.items c.in_ok-another.another) in
    let going : begins_arrow c.each.rest.left.now ≡ true = cc in
    record {
      reads = rw pushed (reads_more begins_arrow (arrow_over (within true c.args.self.now.room) c.args.around) (map link_view c.each.all.items) c.each.rest.left.now c.in_ok-another.behind.left.now (link_view c.in_ok-another.another) _ c.each.invariant.reads going c.in_ok-another.ensures.value (omega (arith, c.in_ok-another.ensures.shorter)));
      shorter = omega (arith, c.in_ok-another.ensures.shorter);
    }

pub returns-clause-value : goal.returns-clause-value
returns-clause-value g c =
    let stops : begins_arrow c.each.rest.left.now ≡ false = cc in
    rw c.fitted.ensures (reads_ends begins_arrow (arrow_over (within true c.args.self.now.room) c.args.around) (map link_view c.each.all.items) c.each.rest.left.now _ c.each.invariant.reads stops)
