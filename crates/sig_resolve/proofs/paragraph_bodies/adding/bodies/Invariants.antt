use Rattle.std.proofs.Common.{◌≡◌, drop}
use Rattle.sig_resolve.proofs.Paragraphs.ParagraphLoops.{SoFar}
use Rattle.sig_resolve.proofs.paragraph_bodies.adding.bodies.Given as goal

abbrev pub invariant-loop-paragraph : goal.invariant-loop-paragraph
invariant-loop-paragraph l = record {
  same : l.names ≡ l.fn.names;
  said : SoFar l.fn.names.globals l.paragraphs (drop l.paragraph-index l.paragraphs) l.all;
}
