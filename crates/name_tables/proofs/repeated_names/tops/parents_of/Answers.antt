use Rattle.std.proofs.Common.{ℕ, List, Option, None, ◌-◌, length, get_or, slice_index_or, refl, ap, ◌∙◌, arith}
use Rattle.std.proofs.lemmas.List.{get_or_default}
use Rattle.name_tables.specs.declared.repeated_names.links.Link.{Link}
use Rattle.name_tables.proofs.Repeats.Tables.{parents_more, no_parents, all_parents}
use Rattle.name_tables.proofs.repeated_names.tops.parents_of.Goals as goal

abbrev no_link : Link
no_link = record { name = 0; parent = None }

pub loop-place-init : goal.loop-place-init
loop-place-init c = λ w. ap (λ (t : List (Option ℕ)). slice_index_or t w None) c.new-table.ensures.items ∙ no_parents c.args.links.now w

pub loop-place-preserved : goal.loop-place-preserved
loop-place-preserved c =
    let links = c.args.links.now in
    let i = c.loop-place.place in
    let k = length links - 1 - i in
    let link = get_or links k no_link in
    let inside = c.loop-place-test.true in
    parents_more links i c.loop-place.table.items c.set.new.table.items link inside (get_or_default links k no_link link (omega (arith, inside))) c.loop-place.invariant c.in_ok-set.ensures

pub returns : goal.returns
returns c = record {
  each = all_parents c.args.links.now c.loop-place.place c.loop-place.table.items (omega arith) c.loop-place.invariant;
  all = refl;
}
