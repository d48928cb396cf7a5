use Rattle.std.proofs.Common.{◌≡◌, Ok, rules, sym, ap, ◌∙◌}
use Rattle.alloy_syntax.specs.ParserTokens.{seen_all}
use Rattle.alloy_syntax.specs.Paragraphs.{model_of}
use Rattle.alloy_syntax.specs.View.{model_view}
use Rattle.bench_models.proofs.BroughtModels.{of_tree}
use Rattle.bench_models.proofs.readings.in_text.Goals as goal

pub returns-in-Ok-parse-clause-found : goal.returns-in-Ok-parse-clause-found
returns-in-Ok-parse-clause-found c =
    let parsed : model_of (seen_all c.deref.result.now) ≡ Ok (model_view c.in-Ok-parse.tree) = search rules in
    of_tree c.args.text.now c.in-Ok.tokens.items (model_view c.in-Ok-parse.tree) c.in_tree.result c.in-Ok.ensures.tokens (ap (λ ts. model_of (seen_all ts)) (sym c.deref.ensures.value) ∙ parsed) c.in_tree.ensures.found
