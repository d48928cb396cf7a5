-- How long an output may be.
use Rattle.std.specs.Prelude.{ℕ}

-- it has at most so many bytes
abbrev pub most_output : ℕ
most_output = 1073741824
