use Rattle.std.proofs.Common.{◌≡◌, ◌++◌, [], map}
use Rattle.alloy_syntax.specs.View.{paragraph_view}
use Rattle.named_model.specs.Declarations.{parts_behind}
use Rattle.sig_resolve.specs.Counts.{AreCounts}
use Rattle.sig_resolve.proofs.DeclaredCounts.{first_of, left_of}
use Rattle.sig_resolve.proofs.parts.parts.Given as goal

abbrev pub invariant-loop-paragraph : goal.invariant-loop-paragraph
invariant-loop-paragraph l = record {
  counts : AreCounts (first_of l.paragraph-index l.paragraphs) l.counts;
  parts : l.all.items ++ parts_behind (first_of l.paragraph-index l.paragraphs) (left_of l.paragraph-index l.paragraphs) ≡ parts_behind [] (map paragraph_view l.paragraphs);
}
