use Rattle.std.proofs.Common.{◌≡◌, ◌<◌, ◌≤◌, ◌++◌, flat_map, length, get_or, sym, subst}
use Rattle.name_tables.specs.Repeats.Coded.{IsReading, fields_under}
use Rattle.name_tables.proofs.Repeats.ListsGoneOver.{flat_more, all_taken}
use Rattle.name_tables.proofs.repeated_names.fields.add_field.Goals as goal

pub loop-name-preserved : goal.loop-name-preserved
loop-name-preserved c = λ cs before ts is at.
    let names = c.deref-name-items.ensures.value in
    let i = c.loop-name.name-index in
    let n = c.name-item.result in
    let was = c.loop-name.invariant cs before ts is at in
    let now = c.in_ok-add_name.ensures cs _ ts was.0 was.1 in (
      subst (λ xs. IsReading cs c.add_name.new.reading xs)
          (sym (flat_more (fields_under ts) before c.args.field.now.names.items i n (subst (λ ns. i < length ns) names c.loop-name-test.true) (subst (λ ns. n ≡ get_or ns i n) names c.name-item.is))) now.0,
      now.1,
    )

pub returns : goal.returns
returns c = λ cs before ts is at.
    let was = c.loop-name.invariant cs before ts is at in
    let end = subst (λ ns. length ns ≤ c.loop-name.name-index) c.deref-name-items.ensures.value c.loop-name-test.false in
    (subst (λ xs. IsReading cs c.loop-name.reading xs) (all_taken (λ ns. before ++ flat_map (fields_under ts) ns) c.args.field.now.names.items c.loop-name.name-index end) was.0, was.1)
