use Rattle.std.proofs.Common.{◌≡◌, [], drop, map}
use Rattle.alloy_syntax.specs.View.{paragraph_view}
use Rattle.named_model.specs.Declarations.{globals_of}
use Rattle.name_tables.specs.Globals.Grown.{with_paragraphs}
use Rattle.name_tables.proofs.global_names.declaring.global_names.Given as goal

abbrev pub invariant-loop-paragraph : goal.invariant-loop-paragraph
invariant-loop-paragraph l = with_paragraphs l.names (map paragraph_view (drop l.paragraph-index l.paragraphs)) ≡ record { globals = globals_of (map paragraph_view l.paragraphs); locals = [] }
