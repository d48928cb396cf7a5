-- How much of a text its front takes.
use Rattle.std.specs.Prelude.{ℕ, ◌<◌, ◌≤◌, List, length, take}
use Rattle.std.specs.Str.{IsAscii}
use Rattle.alloy_lex.specs.declared.front.Front.{Front}
use Rattle.alloy_lex.specs.declared.front.Front.TheVariants as front

-- at least one byte, and no more than there are; a token's bytes are ASCII
abbrev pub IsTaken : Front → List ℕ → Type 0
IsTaken (front.Blank n) bs = (0 < n) × (n ≤ length bs)
IsTaken (front.Token k n) bs = (0 < n) × (n ≤ length bs) × IsAscii (take n bs)
IsTaken front.BadCharacter bs = Unit {0}
IsTaken front.OpenComment bs = Unit {0}
IsTaken front.NumberTooLarge bs = Unit {0}
