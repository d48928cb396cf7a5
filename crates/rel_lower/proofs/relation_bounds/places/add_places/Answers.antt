use Rattle.std.proofs.Common.{◌≡◌, ◌∙◌, refl, sym, ap, length, subst, arith}
use Rattle.tuple_core.specs.Rows.{SetGains}
use Rattle.rel_lower.specs.Placing.Places.{IsPlaceBelow}
use Rattle.rel_lower.proofs.Placing.Steps.{place_more, no_place, is_its}
use Rattle.rel_lower.proofs.relation_bounds.places.add_places.Goals as goal

pub loop-place-init : goal.loop-place-init
loop-place-init c = no_place c.args.top c.args.places.now

pub insert-requires : goal.insert-requires
insert-requires c = ap length c.single.ensures ∙ sym (c.loop-place.invariant.arity ∙ c.requires)

pub loop-place-preserved : goal.loop-place-preserved
loop-place-preserved c =
    place_more c.args.top c.loop-place.place (record { top = c.args.top; place = c.loop-place.place }) c.args.places.now c.loop-place.places c.insert.new.self c.single.result
    refl c.single.ensures c.loop-place.invariant c.in_ok-insert.ensures.gains

pub returns : goal.returns
returns c =
    let last : c.loop-place.place ≡ c.args.size.places = let h = c.loop-place-test.false in let g = c.loop-place.auto.place-end in omega arith in
    is_its c.args.top c.args.size c.args.signature c.args.places.now c.loop-place.places (omega (arith, c.if-size-signature.false))
    (subst (λ n. SetGains c.args.places.now c.loop-place.places (IsPlaceBelow c.args.top n)) last c.loop-place.invariant)
