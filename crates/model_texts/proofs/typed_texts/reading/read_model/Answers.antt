use Rattle.std.proofs.Common.{◌≡◌, Ok, rules}
use Rattle.alloy_syntax.specs.ParserTokens.{seen_all}
use Rattle.alloy_syntax.specs.Paragraphs.{model_of}
use Rattle.alloy_syntax.specs.View.{model_view}
use Rattle.model_texts.proofs.Texts.Ways.{tree_read}
use Rattle.model_texts.proofs.typed_texts.reading.read_model.Goals as goal

pub returns : goal.returns
returns c =
    let parsed : model_of (seen_all c.deref.result.now) ≡ Ok (model_view c.in-Ok-parse.tree) = search rules in
    c.in_ok-of_tree.ensures c.args.text.now (tree_read c.args.text.now c.in-Ok.tokens.items c.deref.result.now (model_view c.in-Ok-parse.tree) c.in-Ok.ensures.tokens c.deref.ensures.value parsed)
