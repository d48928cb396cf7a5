-- Counts of 64 bits that never fall: of faults, and of calls.
use Rattle.std.specs.Prelude.{◌≡◌, ℕ, ◌+◌, ◌<◌, ◌⊎◌, min}

-- the last value of a counter of 64 bits
abbrev pub last_count : ℕ
last_count = 18446744073709551615

-- a count rose in a call: it is greater after the call, or stands at its last value
abbrev pub Rose : ℕ → ℕ → Type 0
Rose old new = (old < new) ⊎ (new ≡ last_count)

-- one more; at its last value a count stands still
abbrev pub raised : ℕ → ℕ
raised count = min (count + 1) last_count
