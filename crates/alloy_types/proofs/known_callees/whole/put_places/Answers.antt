use Rattle.std.proofs.Common.{◌≡◌, ◌≤◌, map, length, replicate, Option, None, sym, ap, refl, ◌∙◌, arith}
use Rattle.std.proofs.lemmas.List.{length-map, length-replicate}
use Rattle.named_model.specs.declared.phrase.Phrase.{Phrase}
use Rattle.named_model.specs.View.{callee_view, named_view}
use Rattle.overload_resolution.proofs.Expressions.Calling.{nothing_kept}
use Rattle.alloy_types.proofs.Calls.Ready.{fields_stay, ready_start}
use Rattle.alloy_types.proofs.known_callees.whole.put_places.Goals as goal

pub returns : goal.returns
returns c =
    let n = length c.as_slice-callees.result.now in
    let count : n ≡ length (map callee_view c.args.model.now.callees.items) = ap length c.as_slice-callees.ensures.value ∙ sym (length-map c.args.model.now.callees.items callee_view) in
    let few : length c.in_ok-bodies.bodies.items ≤ length c.in_ok-headers.headers.items = omega (arith, c.in_ok-headers.ensures, ap length c.in_ok-bodies.ensures, length-replicate {A = Option Phrase} n None) in
    ready_start (named_view c.args.model.now) _
    (fields_stay (named_view c.args.model.now) c.args.setting.now _ refl refl refl refl refl few (nothing_kept _ _ _ c.in_ok-kept.kept.items n c.in_ok-kept.ensures) c.requires)
    count (c.in_ok-headers.ensures ∙ count) (c.in_ok-bodies.ensures ∙ ap (λ k. replicate k None) count) (c.in_ok-kept.ensures ∙ ap (λ k. replicate k None) count)
