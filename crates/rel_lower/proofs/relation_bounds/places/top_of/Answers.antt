use Rattle.std.proofs.Common.{◌≡◌, ◌∙◌, ◌+◌, ◌-◌, ◌<◌, ap, length, arith}
use Rattle.named_model.specs.Signatures.{top_within}
use Rattle.rel_lower.proofs.Placing.Steps.{step_on, step_last}
use Rattle.rel_lower.proofs.relation_bounds.places.top_of.Goals as goal

pub loop-step-init : goal.loop-step-init
loop-step-init c =
    let xs = c.args.signatures.now in
    let e : length xs - 0 ≡ length xs = omega arith in
    ap (λ n. top_within xs n c.args.signature) e

pub loop-step-preserved : goal.loop-step-preserved
loop-step-preserved c =
    let xs = c.args.signatures.now in
    let n = length xs in
    let k = c.loop-step._step in
    let low : k < n = let l = c.loop-step-test.true in omega arith in
    ap (top_within xs (n - (k + 1))) c.parent_or_self-top.ensures ∙ step_on xs n k c.loop-step.top (top_within xs n c.args.signature) low c.loop-step.invariant

pub returns : goal.returns
returns c =
    let xs = c.args.signatures.now in
    let n = length xs in
    step_last xs n c.loop-step._step c.loop-step.top (top_within xs n c.args.signature) (let l = c.loop-step-test.false in omega arith) c.loop-step.invariant
