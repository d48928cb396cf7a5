use Rattle.std.proofs.Common.{subst}
use Rattle.name_tables.specs.Levels.{AreLevels}
use Rattle.name_tables.proofs.Leveled.{left_behind}
use Rattle.name_tables.proofs.locals.Locals.leave.Goals as goal

pub invariant_of-self : goal.invariant_of-self
invariant_of-self c =
    left_behind c.pop.new.self.items c.in-Some.level c.self.inside.innermost.items (subst (λ ls. AreLevels ls c.self.inside.innermost.items) c.in-Some.ensures.items c.self.invariant)
