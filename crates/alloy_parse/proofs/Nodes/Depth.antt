-- The definitions that go by the room that is left.
use Rattle.std.proofs.Common.{◌≡◌, ℕ, zero, suc, true, ◌-◌, ◌<◌, List, refl, arith}
use Rattle.alloy_syntax.specs.declared.parser_token.ParserToken.{ParserToken}
use Rattle.alloy_syntax.specs.declared.reading.Around.{Around}
use Rattle.alloy_syntax.specs.declared.reading.Inside.{Inside}
use Rattle.alloy_syntax.specs.Nodes.{stop_at, within, inside_over}

pub within_at_zero : (n : ℕ) (around : Around) (part : Inside) (ts : List ParserToken) → n ≡ 0 → within true n around part ts ≡ stop_at part ts
unfolding within
within_at_zero zero around part ts e = refl
within_at_zero (suc n) around part ts e = absurd (omega arith)

within_suc : (n m : ℕ) (around : Around) (part : Inside) (ts : List ParserToken) → n ≡ suc m → within true n around part ts ≡ inside_over true (within true m) around part ts
unfolding within
within_suc n m around part ts e = rw e refl

pub within_above : (n : ℕ) (around : Around) (part : Inside) (ts : List ParserToken) → 0 < n → within true n around part ts ≡ inside_over true (within true (n - 1)) around part ts
within_above n around part ts lt = within_suc n (n - 1) around part ts (omega arith)
