-- How many steps searches share.
use Rattle.std.specs.Prelude.{ℕ}

-- a pool has at most so many
abbrev pub most_pool_steps : ℕ
most_pool_steps = 20000
