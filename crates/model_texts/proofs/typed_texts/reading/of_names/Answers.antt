use Rattle.named_model.specs.View.{named_view}
use Rattle.model_texts.proofs.Texts.Ways.{model_said, bad_type}
use Rattle.model_texts.proofs.typed_texts.reading.of_names.Goals as goal

pub returns-in-Ok : goal.returns-in-Ok
returns-in-Ok c text tree whole names is =
    model_said text tree (named_view c.args.model) (named_view c.in-Ok.typed) whole names is c.in-Ok.ensures

pub returns-in_ok-type_words-in-Err : goal.returns-in_ok-type_words-in-Err
returns-in_ok-type_words-in-Err c text tree whole names is =
    bad_type text c.in_ok-type_words-in-Err.field-0.items tree (named_view c.args.model) c.in-Err.fault whole names is c.in-Err.ensures c.in_ok-type_words-in-Err.ensures.told c.in_ok-type_words-in-Err.ensures.words
