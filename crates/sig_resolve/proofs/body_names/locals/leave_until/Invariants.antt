use Rattle.std.proofs.Common.{◌≡◌, ◌≤◌, ◌++◌, ℕ, List, length}
use Rattle.name_tables.specs.InForce.{with_locals}
use Rattle.sig_resolve.proofs.Bodies.Depths.{IsInside}
use Rattle.sig_resolve.proofs.body_names.locals.leave_until.Given as goal

abbrev pub invariant-each : goal.invariant-each
invariant-each l = record {
  left : (inner outer : List (List ℕ)) → l.fn.names.locals ≡ inner ++ outer → length outer ≡ l.depth → (IsInside l.names.locals outer) × (l.names ≡ with_locals l.fn.names l.names.locals);
  short : length l.fn.names.locals ≤ l.depth → l.names ≡ l.fn.names;
}

abbrev pub decreases-each : goal.decreases-each
decreases-each l = length l.names.locals
