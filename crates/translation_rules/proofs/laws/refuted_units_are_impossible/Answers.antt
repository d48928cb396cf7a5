use Rattle.std.proofs.Common.{◌++◌}
use Rattle.translation_rules.specs.Locals.{units_of}
use Rattle.translation_rules.proofs.Tests.{cells_within}
use Rattle.translation_rules.proofs.laws.refuted_units_are_impossible.Goals as goal

pub returns : goal.returns
returns c p t stands cells steps refutes possible =
    let instance = possible.instance_of in
    let sat = (c.units_say_what_is_possible.ensures p t stands cells (cells_within p possible.instance cells instance.scenario.cells possible.has) possible.instance instance.scenario).0 (instance, possible.has) in
    c.accepted_is_entailed.ensures.refuted (t.cnf.clauses ++ units_of cells) steps refutes sat.valuation sat.satisfied
