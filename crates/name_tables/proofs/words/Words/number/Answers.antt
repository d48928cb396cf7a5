use Rattle.std.proofs.Common.{◌∙◌, ap}
use Rattle.std.specs.Str.{bytes_eq}
use Rattle.std.specs.String.{string_bytes}
use Rattle.named_model.specs.Names.{number_of}
use Rattle.name_tables.proofs.Positions.{position_agree}
use Rattle.name_tables.proofs.Texts.{turned}
use Rattle.name_tables.proofs.words.Words.number.Goals as goal

pub returns : goal.returns
returns c =
    c.get_index_of.ensures.index
    ∙ position_agree (λ k. bytes_eq c.args.text.now (string_bytes k)) (λ name. bytes_eq name c.args.text.now) string_bytes (λ k. turned c.args.text.now (string_bytes k)) _
    ∙ ap (λ words. number_of words c.args.text.now) c.self.view_is
