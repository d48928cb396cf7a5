-- The buffer keeps its length, and a read that failed took nothing.
use Rattle.std.proofs.Common.{◌≡◌, length}
use Rattle.std.specs.Io.KnownBytes.{Keeps}
use Rattle.outside_io.proofs.streams.read_through.Given as goal

abbrev pub invariant-loop : goal.invariant-loop
invariant-loop g l = (length l.into ≡ length l.fn.into) × Keeps (g.R.Read.remaining l.fn.reader) (g.R.Read.remaining l.reader)
