use Rattle.std.proofs.Common.{◌≡◌, refl, sym, ap, ◌∙◌, subst, Some}
use Rattle.named_model.specs.Names.{number_of}
use Rattle.name_tables.specs.Repeats.Coded.{space_under, space_of, IsSpace}
use Rattle.name_tables.proofs.Repeats.Numbers.{grows_one}
use Rattle.name_tables.proofs.Repeats.Coding.{reading_kept, place_found}
use Rattle.name_tables.proofs.repeated_names.fields.space.Goals as goal

pub returns-clause-grows : goal.returns-clause-grows
returns-clause-grows c = grows_one _ _ _ c.in_ok-number.ensures.words

pub returns-clause-place : goal.returns-clause-place
returns-clause-place c = λ cs before is.
    let kept = reading_kept cs c.args.reading.now _ before (grows_one _ _ _ c.in_ok-number.ensures.words) refl refl is in (
      kept,
      subst (λ s. IsSpace c.meet.new.self s (space_of cs c.args.owner.now)) (sym (c.space_under.ensures ∙ ap space_under c.in_ok-top.ensures))
          (place_found cs _ before c.args.owner.now c.in_ok-number.number kept (subst (λ t. number_of c.meet.new.self t ≡ Some c.in_ok-number.number) c.text.ensures.value c.in_ok-number.ensures.number)),
    )
