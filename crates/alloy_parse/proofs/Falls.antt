-- A call goes down: its measure is less than that of the function that calls.
use Rattle.std.proofs.Common.{◌≡◌, ℕ, suc, ◌+◌, ◌<◌, arith}

-- by so many within a level
pub falls_within : (n small k t : ℕ) → n + suc (small + k) ≡ t → n + small < t
falls_within n small k t e = omega arith

-- by so many and one
pub falls_by : (small k t : ℕ) → suc (small + k) ≡ t → small < t
falls_by small k t e = omega arith
