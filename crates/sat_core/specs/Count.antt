-- Counts of 64 bits of the steps that searches learn.
use Rattle.std.specs.Prelude.{◌+◌, ℕ, min}

-- the last value of a count
abbrev pub last_count : ℕ
last_count = 18446744073709551615

-- the count with so many steps more; at its last value it stands still
abbrev pub raised : ℕ → ℕ → ℕ
raised count steps = min (count + steps) last_count
