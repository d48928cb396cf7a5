use Rattle.std.proofs.Common.{◌≡◌, map, length}
use Rattle.bench_texts.specs.Shapes.{said_of, shape_in}
use Rattle.bench_texts.proofs.shapes.shape_in.Given as goal

abbrev pub invariant-each : goal.invariant-each
invariant-each l = shape_in (map said_of l.rest) l.kind ≡ shape_in (map said_of l.shapes) l.kind

abbrev pub decreases-each : goal.decreases-each
decreases-each l = length l.rest
