use Rattle.std.proofs.Common.{◌≤◌, ◌+◌}
use Rattle.translation_rules.specs.Parts.{novel_in}
use Rattle.augmenter.proofs.OfferSearches.{Trying}
use Rattle.augmenter.specs.Raising.{Serves}
use Rattle.augmenter.proofs.offering.offers_on.Given as goal

abbrev pub invariant-loop-cell : goal.invariant-loop-cell
invariant-loop-cell l = record {
  trying : Trying l.translation l.pool l.scenario l.budget l.cell l.possible.items l.parts.items l.left;
  counted : l.count ≤ l.fn.count + novel_in l.translation l.pool l.parts.items;
  serves : Serves l.translation l.pool l.scenario l.trail;
}
