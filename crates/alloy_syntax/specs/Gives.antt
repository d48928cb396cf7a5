-- What a function of the parser returned is what reading gives, unless memory ran out.
use Rattle.std.specs.Prelude.{◌≡◌, Result, Ok, Err}
use Rattle.alloy_syntax.specs.Readers.{ParseStopView, refused, too_deep, unsupported}
use Rattle.alloy_syntax.specs.declared.parse_stop.ParseStop.{ParseStop}
use Rattle.alloy_syntax.specs.declared.parse_stop.ParseStop.TheVariants as stop

abbrev pub Fails : {Y : Type 0} → ParseStop → Result Y ParseStopView → Type 0
Fails stop.Memory read = Unit {0}
Fails (stop.Refused ts) read = read ≡ Err (refused ts.left.now)
Fails (stop.Deep ts) read = read ≡ Err (too_deep ts.left.now)
Fails (stop.Unsupported form ts) read = read ≡ Err (unsupported form ts.left.now)

abbrev pub Gives : {X Y : Type 0} → (X → Y) → Result X ParseStop → Result Y ParseStopView → Type 0
Gives see (Ok x) read = read ≡ Ok (see x)
Gives see (Err e) read = Fails e read
