-- What the sessions of seats have learnt together.
use Rattle.std.proofs.Common.{◌≡◌, ◌+◌, ◌≤◌, ◌<◌, ℕ, zero, suc, Some, List, [], ◌∷◌, ◌++◌, length, get_or, subst, arith}
use Rattle.std.specs.Prelude.{slice_get}
use Rattle.session_turns.specs.Allowed.{allowed}
use Rattle.session_rules.specs.declared.script.SessionScript.{SessionScript}
use Rattle.explorer_run.specs.declared.seats.Seat.{Seat}
use Rattle.explorer_run.specs.Served.{allowed_in}
use Rattle.explorer_run.specs.Seats.{EachSeat, counted_in}

-- one more at the end
pub counted_more : (seats : List Seat) (seat : Seat) → counted_in (seats ++ seat ∷ []) ≡ counted_in seats + seat.count
counted_more [] seat = omega arith
counted_more (s ∷ seats) seat = omega (arith, counted_more seats seat)

-- where no session was served, nothing was learnt
pub none_counted : (seats : List Seat) → EachSeat (λ k seat. seat.count ≡ 0) seats → counted_in seats ≡ 0
none_counted [] each = omega arith
none_counted (s ∷ seats) each =
    let here : s.count ≡ 0 = each 0 s (omega arith) in
    let others = none_counted seats (λ k d lt. each (suc k) d (omega arith)) in
    omega (arith, here, others)

-- what the seat at a place has counted is no more than its script's commands may take
abbrev pub KeepsTo : List SessionScript → ℕ → Seat → Type 0
KeepsTo scripts k seat = (x : SessionScript) × (slice_get scripts k ≡ Some x) × (seat.count ≤ allowed x.budget x.commands)

pub counted_within : (scripts : List SessionScript) (seats : List Seat) → EachSeat (KeepsTo scripts) seats → length seats ≡ length scripts → counted_in seats ≤ allowed_in scripts
counted_within scripts [] each same = omega arith
counted_within [] (s ∷ seats) each same = absurd (omega arith)
counted_within (x ∷ scripts) (s ∷ seats) each same =
    let here : KeepsTo (x ∷ scripts) 0 s = each 0 s (omega arith) in
    let script : here.0 ≡ x = let e : Some x ≡ Some here.0 = here.1 in cc in
    let first : s.count ≤ allowed x.budget x.commands = subst (λ (y : SessionScript). s.count ≤ allowed y.budget y.commands) script here.2 in
    let others = counted_within scripts seats (λ k d lt. each (suc k) d (omega arith)) (omega arith) in
    omega (arith, first, others)
