use Rattle.std.proofs.Common.{◌≡◌, ◌++◌, get_or, refl, subst, Some}
use Rattle.std.proofs.lemmas.List.{get_or_default}
use Rattle.named_model.specs.Names.{number_of}
use Rattle.name_tables.specs.declared.repeated_names.stated.Space.TheVariants.{Global}
use Rattle.name_tables.specs.Repeats.Coded.{IsReading, fields_under}
use Rattle.name_tables.proofs.Repeats.Numbers.{grows_one}
use Rattle.name_tables.proofs.Repeats.Coding.{spaces_kept, reading_start}
use Rattle.name_tables.proofs.Repeats.Loops.{spaces_at, spaces_end, field_next}
use Rattle.name_tables.proofs.repeated_names.fields.add_name.Goals as goal

pub loop-space-init : goal.loop-space-init
loop-space-init c = λ cs before ts is at.
    let grows = grows_one _ _ _ c.in_ok-word.ensures.words in (
      reading_start cs c.args.reading.now _ before grows refl refl is,
      spaces_kept c.args.reading.now.words c.meet.new.self c.args.spaces.now ts grows at,
      subst (λ t. number_of c.meet.new.self t ≡ Some c.in_ok-word.word) c.text.ensures.value c.in_ok-word.ensures.number,
    )

pub loop-space-preserved : goal.loop-space-preserved
loop-space-preserved c = λ cs before ts is at.
    let i = c.loop-space.space-index in
    let here = get_or c.args.spaces.now i Global in
    let was = c.loop-space.invariant cs before ts is at in
    let there = spaces_at c.loop-space.reading.words c.args.spaces.now ts i here was.1 c.loop-space-test.true (get_or_default c.args.spaces.now i Global here c.loop-space-test.true) in (
      field_next cs c.loop-space.reading _ before ts i there.0 c.args.name.now (record { space = here; word = c.in_ok-word.word; place = c.args.name.now.place }) there.2
          refl refl c.in_ok-push.ensures.items there.1 was.2 refl was.0,
      was.1,
      was.2,
    )

pub returns : goal.returns
returns c = λ cs before ts is at.
    let was = c.loop-space.invariant cs before ts is at in (
      subst (λ us. IsReading cs c.loop-space.reading (before ++ fields_under us c.args.name.now)) (spaces_end c.loop-space.reading.words c.args.spaces.now ts c.loop-space.space-index was.1 c.loop-space-test.false) was.0,
      was.1,
    )
