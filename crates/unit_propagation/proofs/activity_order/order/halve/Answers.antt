use Rattle.std.proofs.Common.{◌/◌, rules}
use Rattle.std.proofs.lemmas.List.Edits.{map_over_more}
use Rattle.std.proofs.lemmas.List.{take_all, drop_all}
use Rattle.unit_propagation.proofs.activity_order.order.halve.Goals as goal

pub loop-activity-preserved : goal.loop-activity-preserved
loop-activity-preserved c = search (rules, map_over_more (λ a. a / 2))

pub returns : goal.returns
returns c = search (rules, take_all, drop_all)
