use Rattle.alloy_syntax.specs.View.{model_view}
use Rattle.model_texts.proofs.Texts.Ways.{whole_read, bad_order}
use Rattle.model_texts.proofs.typed_texts.reading.of_tree.Goals as goal

pub returns-in_ok-of_whole-in-Ok : goal.returns-in_ok-of_whole-in-Ok
returns-in_ok-of_whole-in-Ok c text is =
    c.in_ok-of_whole-in-Ok.ensures text (whole_read text (model_view c.args.tree) (model_view c.in-Ok.whole) is c.in-Ok.ensures.value)

pub returns-in_ok-order_words-in-Err : goal.returns-in_ok-order_words-in-Err
returns-in_ok-order_words-in-Err c text is =
    bad_order text c.in_ok-order_words-in-Err.field-0.items (model_view c.args.tree) c.in-Err.fault is c.in-Err.ensures.value c.in_ok-order_words-in-Err.ensures.told c.in_ok-order_words-in-Err.ensures.words
