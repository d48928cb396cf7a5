use Rattle.std.proofs.Common.{◌≡◌, List, take}
use Rattle.overload_resolution.specs.declared.shared_fields.fields.Row.{Row}
use Rattle.overload_resolution.specs.Fields.Found.{found_by}
use Rattle.overload_resolution.specs.Fields.Seen.{is_under, AreSeen}
use Rattle.overload_resolution.proofs.shared_fields.seen.under.Given as goal

abbrev pub invariant-loop-top : goal.invariant-loop-top
invariant-loop-top l = (rows : List Row) → AreSeen rows l.seen.entries → l.found ≡ found_by (is_under l.name (take l.top-index l.tops)) 0 rows
