use Rattle.std.proofs.Common.{◌≡◌, ◌++◌, ◌∷◌, [], refl, ap, ◌∙◌, subst, Some}
use Rattle.named_model.specs.Names.{number_of}
use Rattle.name_tables.proofs.Repeats.Coding.{name_added}
use Rattle.name_tables.proofs.repeated_names.stated.add_name.Goals as goal

pub returns : goal.returns
returns c = λ s each cs before is.
    name_added cs c.args.reading.now _ before (record { space = c.args.space; word = c.in_ok-word.word; place = c.args.name.now.place }) (record { space = s; name = c.args.name.now })
    (c.in_ok-word.ensures.words ∙ ap (λ t. c.args.reading.now.words ++ t ∷ []) c.text.ensures.value) refl c.in_ok-push.ensures.items
    (each c.meet.new.self) (subst (λ t. number_of c.meet.new.self t ≡ Some c.in_ok-word.word) c.text.ensures.value c.in_ok-word.ensures.number) refl is
