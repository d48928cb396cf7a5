use Rattle.std.proofs.Common.{length, arith, ap}
use Rattle.sat_trail.proofs.trail.Trail.put.Goals as goal

pub append-requires-clause-ready : goal.append-requires-clause-ready
append-requires-clause-ready c = c.self.invariant.ready

pub append-requires-clause-unmarked : goal.append-requires-clause-unmarked
append-requires-clause-unmarked c = λ is.
    let none = rw (← c.self.view_is) at c.requires.unmarked is in
    omega (arith, c.self.invariant.ready.propagated_in, ap length none)

pub invariant_of-self : goal.invariant_of-self
invariant_of-self c = record { ready = c.in_err-append.ensures.same; ordered = c.self.invariant.ordered; met = c.self.invariant.met }

pub invariant_of-self-2 : goal.invariant_of-self-2
invariant_of-self-2 c = record { ready = c.in_ok-append.ensures.ready; ordered = c.self.invariant.ordered; met = c.self.invariant.met }
