use Rattle.std.proofs.Common.{◌≡◌, ◌<◌, ◌++◌, ◌∷◌, [], ℕ, Bool, false, List, length, get_or, take, arith, ap, sym, ◌∙◌}
use Rattle.std.proofs.lemmas.List.{take_more, take_all}
use Rattle.sat_trail.proofs.phases.values_of.Goals as goal

pub loop-place-preserved : goal.loop-place-preserved
loop-place-preserved c =
    let values : List Bool = c.args.valuation.now in
    let place : ℕ = c.loop-place.place in
    let in' : place < length values = omega (arith, c.loop-place-test.true, c.vars-place-end.ensures) in
    let read : c.value.result ≡ get_or values place false = c.value.ensures ∙ ap (λ (n : ℕ). get_or values n false) (omega (arith, in', c.requires)) in
    c.in_ok-push.ensures.items ∙ (ap (λ (bs : List Bool). bs ++ c.value.result ∷ []) c.loop-place.invariant ∙ (ap (λ (b : Bool). take place values ++ b ∷ []) read ∙ sym (take_more values place false in')))

pub returns : goal.returns
returns c =
    c.loop-place.invariant ∙ take_all c.loop-place.place c.args.valuation.now (omega (arith, c.loop-place-test.false, c.vars-place-end.ensures))
