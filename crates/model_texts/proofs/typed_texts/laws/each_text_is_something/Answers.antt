use Rattle.model_texts.proofs.Texts.Ways.{each_something}
use Rattle.model_texts.proofs.typed_texts.laws.each_text_is_something.Goals as goal

pub returns : goal.returns
returns c = each_something
