use Rattle.std.proofs.Common.{◌≤◌, ◌+◌, length}
use Rattle.translation_rules.specs.Parts.{novel_in}
use Rattle.minimiser.proofs.DescentStates.{Going}
use Rattle.minimiser.proofs.descent.minimise_from.Given as goal

abbrev pub invariant-descent : goal.invariant-descent
invariant-descent l = record {
  going : Going l.translation l.pool l.floor l.start l.budget l.scenario l.left l.parts.items;
  novel : l.count ≤ l.fn.count + novel_in l.translation l.pool l.parts.items;
}

abbrev pub decreases-descent : goal.decreases-descent
decreases-descent l = length l.scenario
