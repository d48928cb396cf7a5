use Rattle.alloy_syntax.specs.View.{model_view}
use Rattle.model_texts.proofs.Texts.Ways.{bad_name}
use Rattle.model_texts.proofs.typed_texts.reading.of_whole.Goals as goal

pub returns-in_ok-of_names-in-Ok : goal.returns-in_ok-of_names-in-Ok
returns-in_ok-of_names-in-Ok c text whole =
    c.in_ok-of_names-in-Ok.ensures text (model_view c.args.tree.now) whole c.in-Ok.ensures.0 c.in-Ok.ensures.1

pub returns-in_ok-name_words-in-Err : goal.returns-in_ok-name_words-in-Err
returns-in_ok-name_words-in-Err c text whole =
    bad_name text c.in_ok-name_words-in-Err.field-0.items (model_view c.args.tree.now) c.in-Err.fault whole c.in-Err.ensures c.in_ok-name_words-in-Err.ensures.told c.in_ok-name_words-in-Err.ensures.words
