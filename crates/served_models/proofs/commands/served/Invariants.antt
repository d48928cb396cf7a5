use Rattle.std.proofs.Common.{◌-◌}
use Rattle.named_model.specs.View.{named_view}
use Rattle.served_models.proofs.Usables.{IsMadeBelow}
use Rattle.served_models.proofs.commands.served.Given as goal

abbrev pub invariant-asked : goal.invariant-asked
invariant-asked l = IsMadeBelow l.purpose l.sessions l.place (named_view l.model) l.from l.made.items

abbrev pub decreases-asked : goal.decreases-asked
decreases-asked l = 4294967296 - l.from
