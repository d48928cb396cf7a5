use Rattle.std.specs.List.{Contains}
use Rattle.cnf_core.specs.Literal.{HasVarsUpTo}
use Rattle.refutation_check.proofs.Chains.{hint_seen, names_all, seen_in_range}
use Rattle.refutation_check.proofs.refutation.sight_of.Goals as goal

pub returns-in-Some-clause-sight : goal.returns-in-Some-clause-sight
returns-in-Some-clause-sight c =
    let seen = rw c.lits.ensures.lits at c.look.ensures in
    hint_seen _ _ _ _ c.in-Some.ensures _ seen

pub returns-in-Some-clause-in_range : goal.returns-in-Some-clause-in_range
returns-in-Some-clause-in_range c =
    let within = names_all (HasVarsUpTo c.args.assumed.now.vars) _ _ _ c.requires c.in-Some.ensures in
    let seen = rw c.lits.ensures.lits at c.look.ensures in
    λ l is. seen_in_range (Contains c.args.assumed.now.falses) _ _ within c.look.result seen l is
