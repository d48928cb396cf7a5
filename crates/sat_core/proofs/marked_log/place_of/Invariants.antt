use Rattle.std.proofs.Common.{ℕ, ◌<◌, ◌≤◌, ◌-◌, length, get_or}
use Rattle.cnf_core.specs.declared.literal.Lit.{Lit}
use Rattle.sat_core.proofs.marked_log.place_of.Given as goal

abbrev pub invariant-passing : goal.invariant-passing
invariant-passing l = record {
  within : l.at ≤ length l.lits;
  later : l.from ≤ l.at;
  below : (i : ℕ) (d : Lit) → l.from ≤ i → i < l.at → (get_or l.lits i d).var < l.var;
}

abbrev pub decreases-passing : goal.decreases-passing
decreases-passing l = length l.lits - l.at
