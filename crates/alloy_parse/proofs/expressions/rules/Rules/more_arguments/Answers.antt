use Rattle.std.proofs.Common.{◌≡◌, true, false, ◌++◌, ◌∷◌, [], arith}
use Rattle.std.proofs.lemmas.Result.{err_from_is_err_and}
use Rattle.std.proofs.lemmas.List.{map_push}
use Rattle.alloy_syntax.specs.declared.class.Class.TheVariants.{Comma}
use Rattle.alloy_syntax.specs.declared.reading.Around.TheVariants.{Brackets}
use Rattle.alloy_syntax.specs.declared.reading.Inside.TheVariants.{Node}
use Rattle.alloy_syntax.specs.Readers.{next_is, behind}
use Rattle.alloy_syntax.specs.Nodes.{within}
use Rattle.alloy_syntax.specs.View.{view, views}
use Rattle.alloy_syntax.proofs.Loop.{loop_fails, reads_more, reads_ends}
use Rattle.alloy_parse.proofs.expressions.rules.Rules.more_arguments.Goals as goal

pub returns-in_err-another-clause-value : goal.returns-in_err-another-clause-value
returns-in_err-another-clause-value g c =
    let p = err_from_is_err_and c.from_residual-in_err-another.result c.from_residual-in_err-another.ensures.1 in
    let read = rw c.after.ensures.value at c.in_err-another.ensures.value in
    let going : (next_is Comma) c.each.rest.left.now ≡ true = cc in
    rw (p.1, p.2) (loop_fails _ (next_is Comma) (behind ((within true c.args.self.now.room) Brackets Node)) (views c.each.all.items) c.each.rest.left.now _ c.each.invariant.reads going read)

pub each-preserved : goal.each-preserved
each-preserved g c =
    let pushed : views c.push-in-each.new.self.items ≡ views c.each.all.items ++ view c.in_ok-another.another ∷ [] = rw c.in_ok-push-2.ensures.items (map_push _ c.each.all.items c.in_ok-another.another) in
    let read = rw c.after.ensures.value at c.in_ok-another.ensures.value in
    let going : (next_is Comma) c.each.rest.left.now ≡ true = cc in
    record {
      reads = rw pushed (reads_more (next_is Comma) (behind ((within true c.args.self.now.room) Brackets Node)) (views c.each.all.items) c.each.rest.left.now c.in_ok-another.behind.left.now (view c.in_ok-another.another) _ c.each.invariant.reads going read (omega (arith, c.in_ok-another.ensures.shorter)));
      shorter = omega (arith, c.in_ok-another.ensures.shorter);
    }

pub returns-clause-value : goal.returns-clause-value
returns-clause-value g c =
    let stops : (next_is Comma) c.each.rest.left.now ≡ false = cc in
    rw c.fitted.ensures (reads_ends (next_is Comma) (behind ((within true c.args.self.now.room) Brackets Node)) (views c.each.all.items) c.each.rest.left.now _ c.each.invariant.reads stops)
