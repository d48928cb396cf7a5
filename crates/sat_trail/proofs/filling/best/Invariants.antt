use Rattle.std.proofs.Common.{◌≡◌}
use Rattle.std.specs.List.{Contains}
use Rattle.std.specs.Option.{IfSome}
use Rattle.sat_trail.proofs.filling.best.Given as goal

abbrev pub invariant-loop-code : goal.invariant-loop-code
invariant-loop-code l = IfSome l.best (λ code. Contains l.codes code × (code ≡ l.beside → ⊥))
