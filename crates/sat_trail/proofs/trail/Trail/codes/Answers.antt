use Rattle.cnf_core.specs.Literal.{HasVarsUpTo}
use Rattle.unit_propagation.specs.Clauses.Codes.{literals_of}
use Rattle.refutation_check.proofs.Chains.{names_all}
use Rattle.sat_trail.proofs.trail.Trail.codes.Goals as goal

pub returns-clause-clause : goal.returns-clause-clause
returns-clause-clause c = rw (← c.self.view_is) (c.requires.from_one, c.codes.ensures)

pub returns-clause-vars : goal.returns-clause-vars
returns-clause-vars c = rw (← c.self.view_is) (names_all (HasVarsUpTo c.self.inside.assignment.vars) c.self.inside.store c.args.number (literals_of c.codes.result.now) c.self.invariant.ready.within (c.requires.from_one, c.codes.ensures))
