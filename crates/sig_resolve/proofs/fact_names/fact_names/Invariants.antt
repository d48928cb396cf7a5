use Rattle.std.proofs.Common.{◌≡◌, ◌++◌, drop, map, flat_map}
use Rattle.alloy_syntax.specs.View.{paragraph_view}
use Rattle.named_model.specs.Declarations.{fact_names}
use Rattle.sig_resolve.proofs.fact_names.fact_names.Given as goal

abbrev pub invariant-loop-paragraph : goal.invariant-loop-paragraph
invariant-loop-paragraph l = l.found.items ++ flat_map fact_names (map paragraph_view (drop l.paragraph-index l.paragraphs)) ≡ flat_map fact_names (map paragraph_view l.paragraphs)
