use Rattle.std.proofs.Common.{◌≡◌, ◌++◌, ◌∷◌, [], false, length, arith, ap, length-append}
use Rattle.unit_propagation.specs.Propagation.PendingState.{PendingState}
use Rattle.sat_trail.proofs.Watches.{last_flag}
use Rattle.sat_trail.proofs.filling.put_slots.Goals as goal

pub pop-requires-clause-some : goal.pop-requires-clause-some
pop-requires-clause-some c =
    let flags : c.push.new.self.flags ≡ c.args.pending.now.flags ++ false ∷ [] = ap (λ (p : PendingState). p.flags) c.in_ok-push.ensures.ok in
    omega (arith, ap length flags, length-append c.args.pending.now.flags (false ∷ []))

pub pop-requires-clause-unmarked : goal.pop-requires-clause-unmarked
pop-requires-clause-unmarked c =
    let flags : c.push.new.self.flags ≡ c.args.pending.now.flags ++ false ∷ [] = ap (λ (p : PendingState). p.flags) c.in_ok-push.ensures.ok in
    rw flags (last_flag c.args.pending.now.flags false)
