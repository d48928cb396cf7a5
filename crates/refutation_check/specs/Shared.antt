-- Clauses that parts share.
use Rattle.std.specs.Prelude.{[], List, Option, Some, None}
use Rattle.std.specs.declared.sync.Arc.{Arc}
use Rattle.cnf_core.specs.declared.literal.Lit.{Lit}

-- none, or those that are held
abbrev pub shared_in : {A : Type 0} → Option (Arc (List (List Lit)) A) → List (List Lit)
shared_in None = []
shared_in (Some held) = held.value
