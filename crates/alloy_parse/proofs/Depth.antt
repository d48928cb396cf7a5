-- What may stand in a bound's brackets, by the room that is left.
use Rattle.std.proofs.Common.{true, ◌≡◌, ℕ, zero, suc, ◌-◌, ◌<◌, List, Err, if◌then◌else◌, refl, arith}
use Rattle.alloy_syntax.specs.declared.parser_token.ParserToken.{ParserToken}
use Rattle.alloy_syntax.specs.Readers.{refused, too_deep}
use Rattle.alloy_syntax.specs.Bounds.{Standing, begins_bound, bound_over, bound_within}

pub bound_at_zero : (n : ℕ) (standing : Standing) (ts : List ParserToken) → n ≡ 0 → bound_within true n standing ts ≡ (if begins_bound ts then Err (too_deep ts) else Err (refused ts))
unfolding bound_within
bound_at_zero zero standing ts e = refl
bound_at_zero (suc n) standing ts e = absurd (omega arith)

bound_suc : (n m : ℕ) (standing : Standing) (ts : List ParserToken) → n ≡ suc m → bound_within true n standing ts ≡ bound_over true (bound_within true m) standing ts
unfolding bound_within
bound_suc n m standing ts e = rw e refl

pub bound_above : (n : ℕ) (standing : Standing) (ts : List ParserToken) → 0 < n → bound_within true n standing ts ≡ bound_over true (bound_within true (n - 1)) standing ts
bound_above n standing ts lt = bound_suc n (n - 1) standing ts (omega arith)
