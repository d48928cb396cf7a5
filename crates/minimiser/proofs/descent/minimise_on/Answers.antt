use Rattle.std.proofs.Common.{sym, subst}
use Rattle.minimiser.specs.Down.{IsDescent}
use Rattle.minimiser.proofs.DescentStates.{nothing_done}
use Rattle.minimiser.proofs.descent.minimise_on.Goals as goal

pub returns-in-Some-clause-parts : goal.returns-in-Some-clause-parts
returns-in-Some-clause-parts c =
    let t = c.args.translation.now in
    subst (IsDescent t c.args.pool.now c.args.floor.now c.args.start.now c.args.budget) (sym c.new.ensures.items) (nothing_done t c.args.pool.now c.args.floor.now c.args.start.now c.args.budget c.requires.start c.requires.above)
