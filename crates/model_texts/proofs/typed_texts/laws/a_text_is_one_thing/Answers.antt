use Rattle.model_texts.proofs.Texts.Ways.{one_model, one_fault, not_faulty}
use Rattle.model_texts.proofs.typed_texts.laws.a_text_is_one_thing.Goals as goal

pub returns : goal.returns
returns c = record { model = one_model; fault = one_fault; faulty = not_faulty }
