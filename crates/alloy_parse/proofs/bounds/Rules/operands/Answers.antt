use Rattle.std.proofs.Common.{◌≡◌, true, false, ◌++◌, ◌∷◌, [], map, arith}
use Rattle.std.proofs.lemmas.Result.{err_from_is_err_and}
use Rattle.std.proofs.lemmas.List.{map_push}
use Rattle.alloy_syntax.specs.declared.class.Class.TheVariants.{Plus}
use Rattle.alloy_syntax.specs.Readers.{next_is, place_at}
use Rattle.alloy_syntax.specs.View.{bound_view}
use Rattle.alloy_parse.specs.Bounds.{bounded, operand_view}
use Rattle.alloy_parse.proofs.Operands.{gathers_start, gathers_more, gathers_ends, gathers_fails}
use Rattle.alloy_parse.proofs.bounds.Rules.operands.Goals as goal

pub each-init : goal.each-init
each-init g c = record { gathers = rw c.new-all.ensures.items (gathers_start _ _ _); shorter = omega arith }

pub returns-in_err-another-clause-value : goal.returns-in_err-another-clause-value
returns-in_err-another-clause-value g c =
    let p = err_from_is_err_and c.from_residual.result c.from_residual.ensures.1 in
    let going : next_is Plus c.each.rest.left.now ≡ true = cc in
    rw (p.1, p.2) (gathers_fails _ _ _ _ _ _ _ c.each.invariant.gathers going c.in_err-another.ensures.value)

pub each-preserved : goal.each-preserved
each-preserved g c =
    let pushed : map operand_view c.push.new.self.items ≡ map operand_view c.each.all.items ++ (c.place_at.result, bound_view c.in_ok-another.another.bound) ∷ [] = rw c.in_ok-push.ensures.items (map_push _ c.each.all.items (c.place_at.result, c.in_ok-another.another.bound)) in
    let going : next_is Plus c.each.rest.left.now ≡ true = cc in
    record {
      gathers = rw (pushed, c.place_at.ensures) (gathers_more _ _ _ _ _ _ _ (place_at c.each.rest.left.now) (bounded c.in_ok-another.another) c.each.invariant.gathers going c.in_ok-another.ensures.value c.in_ok-another.ensures.shorter);
      shorter = omega (arith, c.in_ok-another.ensures.shorter);
    }

pub returns-clause-value : goal.returns-clause-value
returns-clause-value g c =
    let stops : next_is Plus c.each.rest.left.now ≡ false = cc in
    rw c.fitted.ensures (gathers_ends _ _ _ _ _ _ c.each.invariant.gathers stops)
