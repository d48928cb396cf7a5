-- What a loop over a source or a sink leaves when it stops before the end.
use Rattle.std.specs.Prelude.{◌≡◌, ℕ, ◌<◌, ◌≤◌, List, ◌++◌, length, take}

-- the front of what was left was taken, `most` bytes at most, and the rest is left
abbrev pub TakesFront : ℕ → List ℕ → List ℕ → Type 0
TakesFront most old new = (front : List ℕ) × (old ≡ front ++ new) × (length front ≤ most)

-- some of the bytes were appended, from their front on, and not all of them
abbrev pub AppendsPart : List ℕ → List ℕ → List ℕ → Type 0
AppendsPart old new bytes = (n : ℕ) × (n < length bytes) × (new ≡ old ++ take n bytes)
