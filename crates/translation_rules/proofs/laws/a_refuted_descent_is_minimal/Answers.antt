use Rattle.std.proofs.Common.{◌++◌, inl, inr}
use Rattle.translation_rules.specs.Descents.{descent_locals}
use Rattle.translation_rules.proofs.Tests.{includes_or_not, cells_within}
use Rattle.translation_rules.proofs.laws.a_refuted_descent_is_minimal.Goals as goal

pub returns : goal.returns
returns c p t stands floor scenario instance above steps refutes = record {
  instance_of = instance;
  above = above;
  least = λ u is over within. elim (includes_or_not u scenario) [
    | inl all ↦ all
    | inr not_all ↦
        let cells = instance.scenario.cells in
        let sat = (c.descent_clauses_say_what_is_smaller.ensures p t stands floor scenario (cells_within p scenario floor cells above) cells u is.scenario).0
        (record { instance_of = is; above = over; proper = (within, not_all) }) in
        absurd (c.accepted_is_entailed.ensures.refuted (t.cnf.clauses ++ descent_locals p floor scenario) steps refutes sat.valuation sat.satisfied)
  ];
}
