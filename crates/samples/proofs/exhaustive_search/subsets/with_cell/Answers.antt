use Rattle.std.proofs.Common.{◌∙◌, ap}
use Rattle.rel_formula.specs.Instance.{with_cell}
use Rattle.samples.proofs.Exhaustive.SubsetLemmas.{with_is}
use Rattle.samples.proofs.exhaustive_search.subsets.with_cell.Goals as goal

pub returns : goal.returns
returns c = c.in_ok-insert.ensures.value ∙ ap (with_cell c.args.number) c.in_ok-with.ensures ∙ with_is c.args.number c.args.set.now c.requires
