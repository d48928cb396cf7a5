use Rattle.std.proofs.Common.{codes, ◌++◌, ap, ◌∙◌, append_assoc}
use Rattle.model_texts.specs.Words.Words.{place_text}
use Rattle.model_texts.proofs.fault_words.texts.unsupported.Goals as goal

pub returns : goal.returns
returns c =
    c.in_ok-extend_from_slice.ensures.items ∙ ap (λ ws. ws ++ c.as_bytes.result.now) c.in_ok-told.ensures ∙ ap (λ ws. (place_text c.args.place ++ codes " " ++ codes "unsupported ") ++ ws) c.as_bytes.ensures.value ∙ append_assoc (place_text c.args.place ++ codes " ") (codes "unsupported ") c.args.word.now
