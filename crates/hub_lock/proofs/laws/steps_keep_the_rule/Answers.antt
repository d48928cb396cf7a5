use Rattle.hub_lock.proofs.Rule.{between}
use Rattle.hub_lock.proofs.laws.steps_keep_the_rule.Goals as goal

pub returns : goal.returns
returns g c = λ start s o. between g.T.Kept.by g.T.Kept.entries g.T.Kept.base start s o
