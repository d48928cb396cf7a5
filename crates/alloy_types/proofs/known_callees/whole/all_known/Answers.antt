use Rattle.std.proofs.Common.{◌<◌, List, length, map, get_or, ap, ◌∙◌, arith}
use Rattle.std.specs.List.{slice_get}
use Rattle.std.specs.Option.{option_map}
use Rattle.std.proofs.lemmas.List.{get_or_default, length-map}
use Rattle.named_model.specs.declared.named.Callee.{Callee}
use Rattle.named_model.specs.View.{phrase_view, callee_view, named_view}
use Rattle.alloy_types.proofs.Calls.Ready.{ready_more, ready_all, callee_there}
use Rattle.alloy_types.proofs.known_callees.whole.all_known.Goals as goal

pub loop-place-init : goal.loop-place-init
loop-place-init c = c.requires.ready

pub known_at-requires : goal.known_at-requires
known_at-requires c = c.loop-place.invariant.fields.tables

pub kept_where-kept-requires : goal.kept_where-kept-requires
kept_where-kept-requires c = c.loop-place.invariant.fields.tables

pub put-requires-clause-headers : goal.put-requires-clause-headers
put-requires-clause-headers c = omega (arith, c.in_ok-header.ensures.there, ap length c.deref.ensures.value, length-map c.args.model.now.callees.items callee_view, c.loop-place.invariant.known.headers_long)

pub put-requires-clause-bodies : goal.put-requires-clause-bodies
put-requires-clause-bodies c =
    omega (
      arith,
      c.in_ok-header.ensures.there,
      ap length c.deref.ensures.value,
      length-map c.args.model.now.callees.items callee_view,
      c.loop-place.invariant.known.bodies_long,
      length-map c.loop-place.setting.types.bodies.items (option_map phrase_view),
    )

pub put-requires-clause-kept : goal.put-requires-clause-kept
put-requires-clause-kept c = omega (arith, c.in_ok-header.ensures.there, ap length c.deref.ensures.value, length-map c.args.model.now.callees.items callee_view, c.loop-place.invariant.as_many)

pub loop-place-preserved : goal.loop-place-preserved
loop-place-preserved c =
    let order = c.args.order.now in
    let i = c.loop-place.place in
    let n = get_or order i 0 in
    let all = c.args.model.now.callees.items in
    let there : n < length all = omega (arith, c.in_ok-header.ensures.there, ap length c.deref.ensures.value) in
    let callee = callee_there all n there in
    let at = ap (λ (xs : List Callee). slice_get (map callee_view xs) n) c.deref.ensures.value ∙ callee.1 in
    ready_more (named_view c.args.model.now) order c.requires.order i c.loop-place.setting c.loop-place.invariant c.put.new.setting n callee.0 c.in_ok-header.header (option_map phrase_view c.in_ok-header.body) c.loop-place-test.true
    (get_or_default order i 0 n c.loop-place-test.true) callee.1 c.put.ensures.same c.put.ensures.headers c.put.ensures.bodies (c.in_ok-header.ensures.header callee.0 at) (c.in_ok-header.ensures.body callee.0 at)
    c.kept_where-kept.result c.put.ensures.kept c.kept_where-kept.ensures

pub returns-clause-tables : goal.returns-clause-tables
returns-clause-tables c = c.loop-place.invariant.fields.tables

pub returns-clause-value : goal.returns-clause-value
returns-clause-value c = ready_all (named_view c.args.model.now) c.args.order.now c.requires.order c.loop-place.place c.loop-place.setting c.loop-place.invariant c.loop-place-test.false
